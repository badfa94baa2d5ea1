-- The lists of an owner at its end: their cells draw numbers, and the triples are the rules'.
use Rattle.rx_eval.proofs.Common.{cons_option, settled_item, settled_with, if◌then◌else◌, nat_lt, filter_map-append, nat_tests, Chars, by_test, Among, distinct, Node, Blank, Term, rename_node, rename_term, rename, spo, Among_of_filter, false_unless, exact_texts, rdf_first, rdf_rest, Bnode, Author, Made, Cell, Owner, same_owner, model, to_node, Slot, Full, Waiting, settle, rename_slot, exact_owners, term_then, ◌≡◌, ◌∙◌, ℕ, suc, ◌+◌, ◌<◌, ◌≤◌, ◌^◌, ◌⊎◌, inl, inr, Bool, true, false, cond, List, [], ◌∷◌, ◌++◌, map, filter, flat_map, filter_map, length, Option, Some, None, option_map, option_to_list, bytes_eq, refl, sym, ap, ap₂, subst, arith, true≢false, not, unwrap_or, ListEntry, map_entry, of_owner, lists, items, cell_or_nil, chain, list_of, PredicateTable, put, table_from, table_of, itself, Numbered, Numbering, Name, Number, name_by, numbered_name, KeepsNumbers, Numbers, OwnedSlots, slot_term, table_in, AllWait, ItemWaits}
use Rattle.rx_rdfa.specs.Lists.{cells_from, cells}
use Rattle.rx_rdfa.proofs.RenamedLists.{CellsAlike, of_owner_rename, cells_alike, cells_from_rename}
use Rattle.rx_rdfa.proofs.RenamedMachine.{settle_rename}
use Rattle.rx_rdfa.proofs.Tables.{tables_are_lists}
use Rattle.rx_lists.specs.Cells.{size, cells_of}
use Rattle.rx_eval.proofs.NumberLemmas.{numbers_more}
use Rattle.rx_eval.proofs.NameLemmas.{later, entries_later, node_later}

-- ---- slots of which none waits

abbrev pub AllFull : List (ListEntry Owner (Slot ℕ)) → Type 0
AllFull slots = AllWait (λ owner r. ⊥) slots

abbrev Rows : Type 0
Rows = PredicateTable (Option (Term ℕ))

-- without the slots that are empty
abbrev pub dropped : Rows → PredicateTable (Term ℕ)
dropped rows = map (λ row. (row.0, filter_map itself row.1)) rows

put_dropped : (p : Chars) (item : Option (Term ℕ)) (t : Rows) → dropped (put p (option_map Some item) t) ≡ put p item (dropped t)
put_dropped p None [] = refl
put_dropped p (Some v) [] = refl
put_dropped p item (row ∷ t) =
    by_test (bytes_eq row.0 p)
    (λ e. rw e (ap (λ (l : List (Term ℕ)). (row.0, l) ∷ dropped t) (filter_map-append itself row.1 (option_to_list (option_map Some item)) ∙ ap (λ (l : List (Term ℕ)). filter_map itself row.1 ++ l) (one item))))
    (λ e. rw e (ap (λ (l : PredicateTable (Term ℕ)). (row.0, filter_map itself row.1) ∷ l) (put_dropped p item t)))
  where
    one : (item : Option (Term ℕ)) → filter_map itself (option_to_list (option_map Some item)) ≡ option_to_list item
    one None = refl
    one (Some v) = refl

from_dropped : (own : OwnedSlots) (t : Rows) → AllFull own → dropped (table_from t (map (map_entry slot_term) own)) ≡ table_from (dropped t) (settle own)
from_dropped [] t h = refl
from_dropped (e ∷ own) t h = go e.item h.0 (λ u. from_dropped own u h.1)
  where
    go : (item : Option (Slot ℕ)) → ItemWaits (λ r. ⊥) item → ((u : Rows) → dropped (table_from u (map (map_entry slot_term) own)) ≡ table_from (dropped u) (settle own))
        → dropped (table_from t (map (map_entry slot_term) (record { owner = e.owner; predicate = e.predicate; item = item } ∷ own))) ≡ table_from (dropped t) (settle (record { owner = e.owner; predicate = e.predicate; item = item } ∷ own))
    go None f more = more (put e.predicate None t) ∙ ap (λ (u : PredicateTable (Term ℕ)). table_from u (settle own)) (put_dropped e.predicate None t)
    go (Some (Full v)) f more = more (put e.predicate (Some (Some v)) t) ∙ ap (λ (u : PredicateTable (Term ℕ)). table_from u (settle own)) (put_dropped e.predicate (Some v) t)
    go (Some (Waiting r)) f more = absurd f

settled_of : {B : Type 0} (o : Owner) (slots : List (ListEntry Owner (Slot B))) → settle (of_owner same_owner o slots) ≡ of_owner same_owner o (settle slots)
settled_of o [] = refl
settled_of {B} o (e ∷ slots) =
    by_test (same_owner e.owner o) (λ t. rw t (kept t (settled_item e.item) (settled_of o slots))) (λ f. rw f (gone f (settled_item e.item) (settled_of o slots)))
  where
    kept : same_owner e.owner o ≡ true → (s : Option (Option (Term B))) → settle (of_owner same_owner o slots) ≡ of_owner same_owner o (settle slots)
        → cons_option (settled_with e s) (settle (of_owner same_owner o slots)) ≡ of_owner same_owner o (cons_option (settled_with e s) (settle slots))
    kept t None ih = ih
    kept t (Some item) ih = rw t (ap (λ (l : List (ListEntry Owner (Term B))). record { owner = e.owner; predicate = e.predicate; item = item } ∷ l) ih)

    gone : same_owner e.owner o ≡ false → (s : Option (Option (Term B))) → settle (of_owner same_owner o slots) ≡ of_owner same_owner o (settle slots)
        → settle (of_owner same_owner o slots) ≡ of_owner same_owner o (cons_option (settled_with e s) (settle slots))
    gone f None ih = ih
    gone f (Some item) ih = rw f ih

-- the tables of an owner of which no slot waits
pub table_full : (slots : OwnedSlots) (o : Owner) → AllFull (of_owner same_owner o slots) → dropped (table_in slots o) ≡ table_of (of_owner same_owner o (settle slots))
table_full slots o h = from_dropped (of_owner same_owner o slots) [] h ∙ ap (table_from []) (settled_of o slots) ∙ tables_are_lists (of_owner same_owner o (settle slots))

-- ---- numbers of cells

-- of rows with so many items each, from a number on
abbrev pub cell_number : ℕ → List (Chars × ℕ) → Chars → ℕ → Option ℕ
cell_number next [] p i = None
cell_number next (row ∷ rows) p i = if bytes_eq row.0 p then (if nat_lt i row.1 then Some (next + i) else None) else cell_number (next + row.1) rows p i

abbrev pub total : List (Chars × ℕ) → ℕ
total [] = 0
total (row ∷ rows) = row.1 + total rows

bounded_cell : (next : ℕ) (rows : List (Chars × ℕ)) (p : Chars) (i n : ℕ) → cell_number next rows p i ≡ Some n → (next ≤ n) × (n < next + total rows)
bounded_cell next [] p i n h = absurd (cc)
bounded_cell next (row ∷ rows) p i n h =
    by_test (bytes_eq row.0 p) (λ t. within (rw t at h))
    (λ f. let b = bounded_cell (next + row.1) rows p i n (rw f at h) in (omega (arith, b.0), omega (arith, b.1)))
  where
    within : (if nat_lt i row.1 then Some (next + i) else None) ≡ Some n → (next ≤ n) × (n < next + (row.1 + total rows))
    within h = by_test (nat_lt i row.1)
        (λ t. let e : Some (next + i) ≡ Some n = rw t at h in let q : next + i ≡ n = cc e in let b : i < row.1 = grind (arith, nat_tests) in (omega (arith, q), omega (arith, q, b)))
        (λ f. absurd (cc (rw f at h)))

one_cell : (next : ℕ) (rows : List (Chars × ℕ)) (p q : Chars) (i j n : ℕ) → cell_number next rows p i ≡ Some n → cell_number next rows q j ≡ Some n → (p ≡ q) × (i ≡ j)
one_cell next [] p q i j n h k = absurd (cc)
one_cell next (row ∷ rows) p q i j n h k =
    by_test (bytes_eq row.0 p)
    (λ t. by_test (bytes_eq row.0 q)
    (λ u. (sym ((exact_texts row.0 p).0 t) ∙ (exact_texts row.0 q).0 u, let a = first i (rw t at h) in let b = first j (rw u at k) in omega (arith, a.0, b.0)))
    (λ g. let a = first i (rw t at h) in let b = bounded_cell (next + row.1) rows q j n (rw g at k) in absurd (omega (arith, a.0, a.1, b.0))))
    (λ f. by_test (bytes_eq row.0 q)
    (λ u. let b = first j (rw u at k) in let a = bounded_cell (next + row.1) rows p i n (rw f at h) in absurd (omega (arith, b.0, b.1, a.0)))
    (λ g. one_cell (next + row.1) rows p q i j n (rw f at h) (rw g at k)))
  where
    first : (i : ℕ) → (if nat_lt i row.1 then Some (next + i) else None) ≡ Some n → (next + i ≡ n) × (i < row.1)
    first i h = by_test (nat_lt i row.1)
        (λ t. let e : Some (next + i) ≡ Some n = rw t at h in let q : next + i ≡ n = cc e in let b : i < row.1 = grind (arith, nat_tests) in (q, b))
        (λ f. absurd (cc (rw f at h)))

-- the cells of an owner's lists have numbers
abbrev pub with_cells : Numbering → Owner → (Chars → ℕ → Option ℕ) → Numbering
with_cells to o number (Author l) = to (Author l)
with_cells to o number (Made r) = to (Made r)
with_cells to o number (Cell w p i) = if same_owner w o then number p i else to (Cell w p i)

module _ (to : Numbering) (o : Owner) (free : (p : Chars) (i : ℕ) → to (Cell o p i) ≡ None) (next : ℕ) (rows : List (Chars × ℕ)) where
  abbrev now : Numbering
  now = with_cells to o (cell_number next rows)

  pub grown_cells : KeepsNumbers to now
  grown_cells = record { keeps = keeps }
    where
      keeps : (b : Bnode) (n : ℕ) → to b ≡ Some n → now b ≡ Some n
      keeps (Author l) n e = e
      keeps (Made r) n e = e
      keeps (Cell w p i) n e =
          by_test (same_owner w o) (λ t. absurd (cc (ap (λ (x : Owner). to (Cell x p i)) ((exact_owners w o).0 t), free p i, e))) (λ f. rw f e)

  -- a number is a new cell's, or was there
  cell_or_old : (b : Bnode) (n : ℕ) → now b ≡ Some n → ((p : Chars) × (i : ℕ) × (b ≡ Cell o p i) × (cell_number next rows p i ≡ Some n)) ⊎ (to b ≡ Some n)
  cell_or_old (Author l) n e = inr e
  cell_or_old (Made r) n e = inr e
  cell_or_old (Cell w p i) n e =
      by_test (same_owner w o) (λ t. inl (p, i, ap (λ (x : Owner). Cell x p i) ((exact_owners w o).0 t), rw t at e)) (λ f. inr (rw f at e))

  pub numbers_cells : (labels : Numbered) (drawn : ℕ) → Numbers to labels drawn next → Numbers now labels drawn (next + total rows)
  numbers_cells labels drawn h =
      numbers_more to now (λ b n. (p : Chars) × (i : ℕ) × (b ≡ Cell o p i) × (cell_number next rows p i ≡ Some n)) labels labels drawn drawn next (next + total rows) h cell_or_old
      (λ a b n x y. let k = one_cell next rows x.0 y.0 x.1 y.1 n x.3 y.3 in x.2 ∙ ap₂ (Cell o) k.0 k.1 ∙ sym y.2) (λ b n x l. before n (bounded_cell next rows x.0 x.1 n x.3).0 l)
      (λ b n x. let k = bounded_cell next rows x.0 x.1 n x.3 in inr (omega (arith, h.high, k.0), k.1)) h.label (omega arith) (omega arith) h.low
    where
      before : (n : ℕ) → next ≤ n → (n < drawn) ⊎ ((2 ^ 61 ≤ n) × (n < next)) → ⊥
      before n k (inl x) = omega (arith, k, x, h.low, h.high)
      before n k (inr x) = omega (arith, k, x.1)

-- ---- lists whose cells have these numbers

module _ {B : Type 0} (cell cell' : ℕ → B) where
  nil_same : (i : ℕ) (list : List (Term B)) → CellsAlike (λ b. b) cell cell' i list → cell_or_nil cell i list ≡ cell_or_nil cell' i list
  nil_same i [] k = refl
  nil_same i (x ∷ list) k = ap Blank k.0

  chain_same : (i : ℕ) (list : List (Term B)) → CellsAlike (λ b. b) cell cell' i list → chain cell i list ≡ chain cell' i list
  chain_same i [] k = refl
  chain_same i (x ∷ list) k = λ j.
      spo (Blank (k.0 j)) rdf_first x ∷ to_node (Blank (k.0 j)) rdf_rest (nil_same (suc i) list k.1 j) ∷ chain_same (suc i) list k.1 j

  list_same : (subject : Node B) (p : Chars) (list : List (Term B)) → CellsAlike (λ b. b) cell cell' 0 list → list_of cell subject p list ≡ list_of cell' subject p list
  list_same subject p list k = λ j. to_node subject p (nil_same 0 list k j) ∷ chain_same 0 list k j

alike_from : {B C T : Type 0} (f : B → C) (cell : ℕ → B) (cell' : ℕ → C) (count : ℕ) → ((i : ℕ) → i < count → f (cell i) ≡ cell' i) → (i : ℕ) (list : List T) → i + length list ≤ count → CellsAlike f cell cell' i list
alike_from f cell cell' count k i [] b = tt
alike_from f cell cell' count k i (x ∷ list) b = (k i (omega (arith, b)), alike_from f cell cell' count k (suc i) list (omega (arith, b)))

-- no two predicates are alike
abbrev Apart : List Chars → Type 0
Apart [] = Unit {0}
Apart (x ∷ xs) = (¬ (Among xs x)) × Apart xs

apart_filter : (p : Chars → Bool) (xs : List Chars) → Apart xs → Apart (filter p xs)
apart_filter p [] h = tt
apart_filter p (x ∷ xs) h = go (p x) ((λ m. h.0 (Among_of_filter p xs x m).0), apart_filter p xs h.1)
  where
    go : (b : Bool) → (¬ (Among (filter p xs) x)) × Apart (filter p xs) → Apart (cond b (x ∷ filter p xs) (filter p xs))
    go true k = k
    go false k = k.1

apart_distinct : (xs : List Chars) → Apart (distinct bytes_eq xs)
apart_distinct [] = tt
apart_distinct (x ∷ xs) =
    ((λ m. let r = Among_of_filter (λ y. not (bytes_eq x y)) (distinct bytes_eq xs) x m in true≢false (sym r.1 ∙ ap not ((exact_texts x x).1 refl))), apart_filter (λ y. not (bytes_eq x y)) (distinct bytes_eq xs) (apart_distinct xs))

module _ (own : List (ListEntry Owner (Term ℕ))) where
  abbrev pub rows_for : List Chars → List (Chars × ℕ)
  rows_for ps = map (λ p. (p, length (items p own))) ps

  in_row : (next : ℕ) (p : Chars) (ps : List Chars) (i : ℕ) → i < length (items p own) → cell_number next (rows_for (p ∷ ps)) p i ≡ Some (next + i)
  in_row next p ps i b = rw ((exact_texts p p).1 refl) (let t : nat_lt i (length (items p own)) ≡ true = grind (arith, nat_tests) in rw t refl)

  -- each cell of the lists has a number
  has_cell : (ps : List Chars) (next : ℕ) (p : Chars) (i : ℕ) → Among ps p → i < length (items p own) → (n : ℕ) × (cell_number next (rows_for ps) p i ≡ Some n)
  has_cell [] next p i m b = absurd m
  has_cell (q ∷ ps) next p i (inl e) b = (next + i, subst (λ (z : Chars). cell_number next (rows_for (z ∷ ps)) p i ≡ Some (next + i)) (sym e) (in_row next p ps i b))
  has_cell (q ∷ ps) next p i (inr m) b =
      by_test (bytes_eq q p)
      (λ t. (next + i, subst (λ (z : Chars). cell_number next (rows_for (z ∷ ps)) p i ≡ Some (next + i)) (sym ((exact_texts q p).0 t)) (in_row next p ps i b)))
      (λ f. let r = has_cell ps (next + length (items q own)) p i m b in (r.0, rw f r.1))

  cells_are_from : (s : Node ℕ) (cell : Chars → ℕ → ℕ) (ps : List Chars) → Apart ps → (next : ℕ)
      → ((p : Chars) → Among ps p → (i : ℕ) (n : ℕ) → cell_number next (rows_for ps) p i ≡ Some n → cell p i ≡ n)
      → cells_of next s (map (λ p. (p, items p own)) ps) ≡ flat_map (λ p. list_of (cell p) s p (items p own)) ps
  cells_are_from s cell [] a next k = refl
  cells_are_from s cell (p ∷ ps) a next k =
      ap₂ ◌++◌
      (list_same (λ i. next + i) (cell p) s p (items p own) (alike_from (λ b. b) (λ i. next + i) (cell p) (length (items p own)) (λ i b. sym (k p (inl refl) i (next + i) (in_row next p ps i b))) 0 (items p own) (omega arith)))
      (cells_are_from s cell ps a.1 (next + length (items p own)) (λ q m i n e. k q (inr m) i n (past q m i n e)))
    where
      past : (q : Chars) → Among ps q → (i n : ℕ) → cell_number (next + length (items p own)) (rows_for ps) q i ≡ Some n → cell_number next (rows_for (p ∷ ps)) q i ≡ Some n
      past q m i n e = rw (false_unless (bytes_eq p q) (λ t. a.0 (subst (Among ps) (sym ((exact_texts p q).0 t)) m))) e

  size_is : (ps : List Chars) → total (rows_for ps) ≡ size (map (λ p. (p, items p own)) ps)
  size_is [] = refl
  size_is (p ∷ ps) = ap (λ (n : ℕ). length (items p own) + n) (size_is ps)

-- ---- the end of an owner

module _ (to : Numbering) (o : Owner) (free : (p : Chars) (i : ℕ) → to (Cell o p i) ≡ None) (next : ℕ) (s : Node ℕ) (slots : OwnedSlots)
    (subject : Node Bnode) (names : List (ListEntry Owner (Slot Bnode))) where
  abbrev own : List (ListEntry Owner (Term ℕ))
  own = of_owner same_owner o (settle slots)

  abbrev pub rows : List (Chars × ℕ)
  rows = rows_for own (lists own)

  -- when the cells have their numbers
  abbrev pub ended_now : Numbering
  ended_now = with_cells to o (cell_number next rows)

  abbrev theirs : List (ListEntry Owner (Term Bnode))
  theirs = of_owner same_owner o (settle names)

  own_named : map (map_entry (rename_slot Number)) slots ≡ map (map_entry (rename_slot (numbered_name to))) names → map (map_entry (rename_term Number)) own ≡ map (map_entry (rename_term (numbered_name to))) theirs
  own_named e =
      of_owner_rename (λ w. w) (rename_term Number) same_owner same_owner (λ a b. refl) o (settle slots)
      ∙ ap (of_owner same_owner o) (settle_rename Number (λ w. w) slots ∙ ap settle e ∙ sym (settle_rename (numbered_name to) (λ w. w) names))
      ∙ sym (of_owner_rename (λ w. w) (rename_term (numbered_name to)) same_owner same_owner (λ a b. refl) o (settle names))

  number_now : (p : Chars) (i n : ℕ) → cell_number next rows p i ≡ Some n → ended_now (Cell o p i) ≡ Some n
  number_now p i n e = rw ((exact_owners o o).1 refl) e

  cell_named : (p : Chars) (i n : ℕ) → cell_number next rows p i ≡ Some n → numbered_name ended_now (Cell o p i) ≡ Number n
  cell_named p i n e = ap (name_by (Cell o p i)) (number_now p i n e)

  abbrev number_at : Chars → ℕ → ℕ
  number_at p i = unwrap_or (cell_number next rows p i) 0

  cells_by_numbers : dropped (table_in slots o) ≡ table_of own → cells_of next s (dropped (table_in slots o)) ≡ cells_from number_at s own
  cells_by_numbers e =
      ap (cells_of next s) e
      ∙ cells_are_from own s number_at (lists own) (apart_distinct (map (λ x. x.predicate) own)) next (λ p m i n q. ap (λ (x : Option ℕ). unwrap_or x 0) q)

  -- the triples of its lists
  pub cells_meet : AllFull (of_owner same_owner o slots) → rename_node Number s ≡ rename_node (numbered_name to) subject → map (map_entry (rename_slot Number)) slots ≡ map (map_entry (rename_slot (numbered_name to))) names
      → map (rename Number) (cells_of next s (dropped (table_in slots o))) ≡ map (rename (numbered_name ended_now)) (cells model (settle names) o subject)
  unfolding cells
  cells_meet f q e =
      let g = grown_cells to o free next rows in
      let moved : Name Bnode → Name Bnode = later to ended_now g in
      let named_own = entries_later to ended_now g (rename_term Number) (rename_term moved) rename_term (term_then moved Number) (term_then moved (numbered_name to)) own theirs (own_named e) in
      ap (map (rename Number)) (cells_by_numbers (table_full slots o f))
      ∙ cells_from_rename Number (λ w. w) number_at (λ p i. numbered_name ended_now (Cell o p i)) s own
      (λ p m. alike_from Number (number_at p) (λ i. numbered_name ended_now (Cell o p i)) (length (items p own))
      (λ i b. let r = has_cell own (lists own) next p i m b in ap (λ (x : Option ℕ). Number (unwrap_or x 0)) r.1 ∙ sym (cell_named p i r.0 r.1)) 0 (items p own) (omega arith))
      ∙ ap₂ (cells_from (λ p i. numbered_name ended_now (Cell o p i))) (node_later to ended_now g s subject q) named_own
      ∙ sym (cells_from_rename (numbered_name ended_now) (λ w. w) (Cell o) (λ p i. numbered_name ended_now (Cell o p i)) subject theirs (λ p m. cells_alike (numbered_name ended_now) (Cell o p) (λ i. numbered_name ended_now (Cell o p i)) (λ i. refl) 0 (items p theirs)))

  pub cells_size : AllFull (of_owner same_owner o slots) → total rows ≡ size (dropped (table_in slots o))
  cells_size f = size_is own (lists own) ∙ ap size (sym (table_full slots o f))

-- an owner without slots has no triples
pub nothing_written : (to : Numbering) (o : Owner) (slots : OwnedSlots) (names : List (ListEntry Owner (Slot Bnode))) (subject : Node Bnode) → of_owner same_owner o slots ≡ []
    → map (map_entry (rename_slot Number)) slots ≡ map (map_entry (rename_slot (numbered_name to))) names → cells model (settle names) o subject ≡ []
unfolding cells
nothing_written to o slots names subject none e =
    ap (cells_from (Cell o) subject) (sym (settled_of o names) ∙ ap settle (emptied (of_owner same_owner o names)
    (ap (map (map_entry (rename_slot Number))) (sym none) ∙ of_owner_rename (λ w. w) (rename_slot Number) same_owner same_owner (λ a b. refl) o slots ∙ ap (of_owner same_owner o) e
    ∙ sym (of_owner_rename (λ w. w) (rename_slot (numbered_name to)) same_owner same_owner (λ a b. refl) o names))))
  where
    emptied : (xs : List (ListEntry Owner (Slot Bnode))) → [] ≡ map (map_entry (rename_slot (numbered_name to))) xs → xs ≡ []
    emptied [] h = refl
    emptied (x ∷ xs) h = absurd (cc)
