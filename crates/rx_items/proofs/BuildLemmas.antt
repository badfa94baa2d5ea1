-- What stands beside a table's rows, one after another.
use Rattle.rx_items.proofs.Common.{◌≡◌, ◌∙◌, ◌+◌, ◌≤◌, ℕ, zero, suc, true, List, [], ◌∷◌, ◌++◌, length, Contains, ◌↔◌, Option, Some, None, option_map, refl, sym, ap, subst, arith, unwrap_or, filter_map, slice_get, Chars, tokens, ◌⊎◌, inl, inr, length-append, Tree, Placed, is_item, distinct_tokens, rows_of, ShowsRow, ShowsWord, names_in, types_in, look_in, RunOf, Sorted}
use Rattle.rx_items.specs.declared.rows.Row.{Row}
use Rattle.rx_items.specs.declared.spans.Span.{Span}
use Rattle.rx_items.specs.Held.{AreTokens, FirstRowsFit, FitsRow, GivesProperties, names_beside, runs_beside, types_beside}
use Rattle.rx_items.specs.Built.{Builds}
use Rattle.rx_items.specs.declared.kept.BesideRow.{BesideRow}
use Rattle.rx_items.specs.declared.kept.Run.{Run}
use Rattle.rx_items.proofs.NestLemmas.{numbered}
use Rattle.rx_model.proofs.Common.{⊎_elim}
use Rattle.rx_items.proofs.PropertyLemmas.{properties_are}
use Rattle.rx_items.proofs.ReachLemmas.{reach_alone}
use Rattle.rx_items.proofs.TakeLemmas.{same_there}

at_end : (xs : List BesideRow) (x d : BesideRow) (i : ℕ) → slice_get (xs ++ x ∷ []) i ≡ Some d → slice_get xs i ≡ Some d ⊎ ((i ≡ length xs) × (x ≡ d))
at_end [] x d zero g = inr (refl, cc (g))
at_end [] x d (suc i) g = absurd (cc (g))
at_end (y ∷ xs) x d zero g = inl g
at_end (y ∷ xs) x d (suc i) g = ⊎_elim (λ h. inl h) (λ h. inr (ap suc h.0, h.1)) (at_end xs x d i g)

pub fit_turn : (words : Chars) (ps : List Placed) (members : List ℕ) (rows : List Row) (i : ℕ) (old new : List BesideRow) (x : BesideRow) → FirstRowsFit words ps members rows i old
    → Builds words ps members rows i x → new ≡ old ++ x ∷ [] → FirstRowsFit words ps members rows (i + 1) new
fit_turn words ps members rows i old new x a b pushed =
    subst (FirstRowsFit words ps members rows (i + 1)) (sym pushed) (record { size = length-append old (x ∷ []) ∙ ap (λ n. n + 1) a.size; fit = fit })
  where
    fit : (j : ℕ) (row : Row) (p : Placed) (d : BesideRow) → slice_get rows j ≡ Some row → slice_get ps j ≡ Some p → slice_get (old ++ x ∷ []) j ≡ Some d → FitsRow words ps members j row p d
    fit j row p d g h f =
        ⊎_elim (λ k. a.fit j row p d g h k)
        (λ k.
        let at : j ≡ i = k.0 ∙ a.size in
        subst (λ (y : BesideRow). FitsRow words ps members j row p y) k.1 (subst (λ n. FitsRow words ps members n row p x) (sym at) (b row p (ap (slice_get rows) (sym at) ∙ g) (ap (slice_get ps) (sym at) ∙ h))))
        (at_end old x d j f)

pub fit_end : (words : Chars) (ps : List Placed) (members : List ℕ) (rows : List Row) (i n : ℕ) (xs : List BesideRow) → i ≤ n → n ≤ i → FirstRowsFit words ps members rows i xs → FirstRowsFit words ps members rows n xs
fit_end words ps members rows i n xs le ge a = let same : i ≡ n = omega (arith, le, ge) in subst (λ m. FirstRowsFit words ps members rows m xs) same a

named : (o : Option Chars) → unwrap_or (option_map distinct_tokens o) [] ≡ distinct_tokens (unwrap_or o [])
named None = refl
named (Some text) = refl

-- what stands beside a row whose names and types are these, and whose runs give these properties
pub fits_by : (words text : Chars) (times : List Chars) (ps : List Placed) (members : List ℕ) (rows : List Row) (place : ℕ) (row : Row) (p : Placed) (x : BesideRow)
    → slice_get rows place ≡ Some row → slice_get ps place ≡ Some p → (s : ShowsRow words text times row p)
    → AreTokens words (names_in row.head.words) (names_beside x) (distinct_tokens (unwrap_or s.itemprop []))
    → AreTokens words (types_in row.head.words) (types_beside x) (distinct_tokens (unwrap_or s.itemtype []))
    → (is_item p ≡ true → GivesProperties ps members place (runs_beside x) p) → Builds words ps members rows place x
fits_by words text times ps members rows place row p x row_is there s names types reach = λ row2 p2 row2_is there2.
    subst (λ (r : Row). FitsRow words ps members place r p2 x) (same_there rows place row row2 row_is row2_is)
    (subst (λ (q : Placed). FitsRow words ps members place row q x) (same_there ps place p p2 there there2) (record {
      names = subst (AreTokens words (names_in row.head.words) (names_beside x)) (sym (ap (λ (o : Option (List Chars)). unwrap_or o []) s.names ∙ named s.itemprop)) names;
      types = subst (AreTokens words (types_in row.head.words) (types_beside x)) (sym s.types) types;
      reach = reach;
    }))

-- where no references are kept, there are none
pub refers_not : (words : Chars) (span : Option Span) (word : Option Chars) → span ≡ None → ShowsWord words span word → tokens (unwrap_or word []) ≡ []
refers_not words None None e s = refl
refers_not words None (Some part) e s = absurd s
refers_not words (Some span) word e s = absurd (cc (e))

no_starts : (ps : List Placed) (refs : List Chars) → refs ≡ [] → (m : ℕ) → Contains [] m ↔ Contains (filter_map (look_in ps) refs) m
no_starts ps refs none m =
    let same : Contains [] m ↔ Contains (filter_map (look_in ps) []) m = ((λ c. c), (λ c. c)) in
    subst (λ (list : List Chars). Contains [] m ↔ Contains (filter_map (look_in ps) list) m) (sym none) same

-- what an item reaches that refers to nothing
pub reaches_alone : (words text : Chars) (times : List Chars) (rows : List Row) (tree : Tree) (members : List ℕ) → Sorted words text times rows (rows_of tree) members
    → (place : ℕ) (run : Run) (p : Placed) → slice_get (rows_of tree) place ≡ Some p → p.facts.references ≡ [] → RunOf rows members (Some place) 0 (length rows) run
    → GivesProperties (rows_of tree) members place (run ∷ []) p
reaches_alone words text times rows tree members sorted place run p there none r =
    properties_are (rows_of tree) (numbered tree) p place members (run ∷ []) [] there (no_starts (rows_of tree) p.facts.references none)
    (reach_alone words text times rows tree members sorted place [] run [] refl refl r)
