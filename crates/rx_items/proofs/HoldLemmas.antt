-- What is kept of a page, row by row.
use Rattle.rx_items.proofs.Common.{get_or, ◌≡◌, ◌∙◌, ◌+◌, ◌<◌, ◌≤◌, ℕ, zero, suc, Bool, true, List, [], ◌∷◌, filter, length, Contains, ◌↔◌, Some, None, sym, ap, subst, arith, nat_cmp, Less, slice_get-get_or, slice_get_past, AllByRecursion, Chars, slice_get, Placed, is_item, names_of, properties_in, ShowsRow, names_in, types_in, AreTokens, AtPlace, IsElement, NamesAt, GivesProperties, ShowsElement, ShowsTokens, RowsAreNumbered, is_there, names_beside, others_beside, own_beside, row_places, types_beside, AllStand, HoldsRows, gathered}
use Rattle.rx_terms.proofs.Bools.{by_test}
use Rattle.std.specs.List.Sorted.{IsStrictlySortedBy}
use Rattle.rx_items.specs.declared.rows.Row.{Row}
use Rattle.rx_items.specs.declared.kept.Element.{Element}
use Rattle.rx_items.specs.declared.kept.BesideRow.{BesideRow}
use Rattle.rx_items.specs.declared.kept.Kept.{Kept}
use Rattle.rx_items.specs.declared.kept.Run.{Run}
use Rattle.rx_items.specs.declared.kept.Tokens.{Tokens}
use Rattle.rx_items.proofs.RisingLemmas.{Rises, same_rising, less_of}
use Rattle.rx_items.proofs.ShowLemmas.{shows_length, shown_by}
use Rattle.rx_items.proofs.TakeLemmas.{same_there}

-- behind all rows there is no element
pub behind_rows : (kept : Kept) (rows : List Placed) (base : Chars) (i : ℕ) → HoldsRows kept rows base → length kept.rows.items ≤ i → slice_get rows i ≡ None
behind_rows kept rows base i h le =
    let size = shows_length kept.words kept.text kept.times.items kept.rows.items rows h.shown in slice_get_past rows i (omega (arith, size, le))

-- the row at a place shows what stands there
pub row_there : (kept : Kept) (rows : List Placed) (base : Chars) (i : ℕ) (row : Row) → HoldsRows kept rows base → i < length kept.rows.items → row ≡ get_or kept.rows.items i row
    → (p : Placed) × (slice_get rows i ≡ Some p) × ShowsRow kept.words kept.text kept.times.items row p
row_there kept rows base i row h lt is =
    shown_by kept.words kept.text kept.times.items kept.rows.items rows i row h.shown (slice_get-get_or kept.rows.items i row lt ∙ ap Some (sym is))

-- what a test says of it is what it says of the place
pub told_there : (test : Placed → Bool) (rows : List Placed) (i : ℕ) (p : Placed) (told : Bool) → slice_get rows i ≡ Some p → told ≡ test p → told ≡ is_there test (slice_get rows i)
told_there test rows i p told there e = e ∙ sym (ap (is_there test) there)

-- what stands at a place
pub element_there : (kept : Kept) (rows : List Placed) (base : Chars) (i : ℕ) (row : Row) (x : BesideRow) (e : Element) → HoldsRows kept rows base → i < length kept.rows.items
    → slice_get kept.rows.items i ≡ Some row → slice_get kept.extras.items i ≡ Some x
    → ((p : Placed) → ShowsRow kept.words kept.text kept.times.items row p → AreTokens kept.words (names_in row.head.words) (names_beside x) (names_of p)
    → AreTokens kept.words (types_in row.head.words) (types_beside x) p.facts.types → ShowsElement kept.words kept.text kept.times.items e p)
    → e.own ≡ own_beside x → e.others.now ≡ others_beside x → AtPlace kept rows i (Some e)
element_there kept rows base i row x e h lt row_is x_is shown own others =
    let p = shown_by kept.words kept.text kept.times.items kept.rows.items rows i row h.shown row_is in
    let fits = h.extras.fit i row p.0 x row_is p.1 x_is in (
      p.0,
      p.1,
      record {
        shown = shown p.0 p.2 fits.names fits.types;
        reached = λ item. subst (λ (runs : List Run). GivesProperties rows kept.members.items i runs p.0) (λ j. sym own j ∷ sym others j) (fits.reach item);
      },
    )

-- what shows its names
pub names_there : (kept : Kept) (rows : List Placed) (base : Chars) (i : ℕ) (row : Row) (x : BesideRow) (names : Tokens) → HoldsRows kept rows base → i < length kept.rows.items
    → slice_get kept.rows.items i ≡ Some row → slice_get kept.extras.items i ≡ Some x
    → ((words : Chars) (texts : List Chars) → AreTokens words (names_in row.head.words) (names_beside x) texts → ShowsTokens words names texts)
    → NamesAt kept rows i (Some names)
names_there kept rows base i row x names h lt row_is x_is shows =
    let p = shown_by kept.words kept.text kept.times.items kept.rows.items rows i row h.shown row_is in
    (p.0, p.1, shows kept.words (names_of p.0) (h.extras.fit i row p.0 x row_is p.1 x_is).names)

-- an element is that of the row at its place
pub is_element : (kept : Kept) (rows : List Placed) (place : ℕ) (e : Element) (p : Placed) → slice_get rows place ≡ Some p → AtPlace kept rows place (Some e) → IsElement kept rows place e p
is_element kept rows place e p row at =
    subst (λ (q : Placed). IsElement kept rows place e q) (same_there rows place at.0 p at.1 row) at.2

numbered_from : (k : ℕ) (ps : List Placed) (i : ℕ) (p : Placed) → RowsAreNumbered k ps → slice_get ps i ≡ Some p → p.place ≡ k + i
numbered_from k [] i p n g = absurd (cc (g))
numbered_from k (p1 ∷ ps) zero p n g =
    let plain : k ≡ k + 0 = omega arith in
    let same : p1 ≡ p = cc (g) in
    ap (λ (x : Placed). x.place) (sym same) ∙ n.0 ∙ plain
numbered_from k (p1 ∷ ps) (suc i) p n g = let next : suc k + i ≡ k + suc i = omega arith in numbered_from (suc k) ps i p n.1 g ∙ next

pub place_is : (ps : List Placed) (i : ℕ) (p : Placed) → RowsAreNumbered 0 ps → slice_get ps i ≡ Some p → p.place ≡ i
place_is ps i p n g = let plain : 0 + i ≡ i = omega arith in numbered_from 0 ps i p n g ∙ plain

-- the rows that a test lets through stand at their places, which rise
shifted_at : (f : Placed → Bool) (front ps : List Placed) (k : ℕ) → RowsAreNumbered k ps → ((i : ℕ) → slice_get front (k + i) ≡ slice_get ps i) → AllStand front (filter f ps)
shifted_at f front [] k n same = tt
shifted_at f front (p ∷ ps) k n same =
    let here : slice_get front p.place ≡ Some p = let plain : k + 0 ≡ k = omega arith in ap (slice_get front) (n.0 ∙ sym plain) ∙ same 0 in
    let rest = shifted_at f front ps (suc k) n.1 (λ i. let next : suc k + i ≡ k + suc i = omega arith in ap (slice_get front) next ∙ same (suc i)) in
    by_test (f p) (λ t. rw t (here, rest)) (λ t. rw t rest)

pub all_stand : (f : Placed → Bool) (ps : List Placed) → RowsAreNumbered 0 ps → AllStand ps (filter f ps)
all_stand f ps n = shifted_at f ps ps 0 n (λ i. let plain : 0 + i ≡ i = omega arith in ap (slice_get ps) plain)

above : (f : Placed → Bool) (k j : ℕ) (ps : List Placed) → j < k → RowsAreNumbered k ps → AllByRecursion (λ (y : ℕ). nat_cmp j y ≡ Less) (row_places (filter f ps))
above f k j [] lt n = tt
above f k j (p ∷ ps) lt n =
    let rest = above f (suc k) j ps (omega (arith, lt)) n.1 in
    by_test (f p) (λ t. rw t (less_of j p.place (omega (arith, n.0, lt)), rest)) (λ t. rw t rest)

places_rise : (f : Placed → Bool) (k : ℕ) (ps : List Placed) → RowsAreNumbered k ps → Rises (row_places (filter f ps))
unfolding IsStrictlySortedBy
places_rise f k [] n = tt
places_rise f k (p ∷ ps) n =
    let rest = places_rise f (suc k) ps n.1 in
    by_test (f p) (λ t. rw t (above f (suc k) p.place ps (omega (arith, n.0)) n.1, rest)) (λ t. rw t rest)

-- what an item's runs give are the places of its properties
pub list_is : (kept : Kept) (rows : List Placed) (base : Chars) (root : Placed) (e : Element) (place : ℕ) (list members : List ℕ) → HoldsRows kept rows base
    → IsElement kept rows place e root → is_item root ≡ true → Rises list → members ≡ kept.members.items
    → ((x : ℕ) → Contains list x ↔ Contains (gathered members (e.own ∷ e.others.now) place) x) → list ≡ row_places (properties_in rows root)
list_is kept rows base root e place list members h element item rise is same =
    let back = subst (λ (ms : List ℕ). (x : ℕ) → Contains (gathered ms (e.own ∷ e.others.now) place) x ↔ Contains (row_places (properties_in rows root)) x) (sym is) (element.reached item) in
    same_rising list (row_places (properties_in rows root)) rise (places_rise _ 0 rows h.numbered)
    (λ x c. (back x).0 ((same x).0 c)) (λ x c. (same x).1 ((back x).1 c))
