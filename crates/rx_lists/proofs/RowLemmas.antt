-- Predicates and their slots, side by side, as a table.
use Rattle.rx_rdfa.proofs.Common.{◌≡◌, ◌∙◌, ℕ, zero, suc, ◌+◌, ◌<◌, ◌≤◌, Bool, false, cond, List, [], ◌∷◌, ◌++◌, length, Option, Some, None, option_to_list, bytes_eq, refl, sym, ap, subst, arith, append-nil, rules, slice_set, slice_index_or, position_or_len, list_any, position, nat_tests, by_test, length-map, nat_lt, IsExact, exact_texts, put}
use Rattle.rx_terms.specs.declared.triples.Term.{Term}
use Rattle.rx_terms.specs.contracts.iris.IriPartialEq.TheImpl as iri_impl
use Rattle.rx_terms.specs.declared.triples.Node.{Node}
use Rattle.rx_lists.specs.Owners.{Owned, owned, with_lists, with_slot, with_term, Slots, slots_at, list_predicates, place_of, slots_of}
use Rattle.rx_lists.specs.Rows.{predicate_rows, first_place, FoundAt}

abbrev iri_eq : List ℕ → List ℕ → Bool
iri_eq = (iri_impl.ghosts).eq

exact_iri : IsExact iri_eq
exact_iri a b = search rules

at_most : (p : List ℕ) (ks : List (List ℕ)) → first_place p ks ≤ length ks
at_most p [] = omega arith
at_most p (k ∷ ks) = by_test (bytes_eq k p) (λ t. rw t (omega arith)) (λ f. rw f (omega (arith, at_most p ks)))

chosen : (p : List ℕ) (ks : List (List ℕ)) (n : ℕ) → n ≡ first_place p ks → FoundAt p ks (cond (nat_lt n (length ks)) (Some n) None)
chosen p ks n e = by_test (nat_lt n (length ks)) (λ t. rw t (e, grind (arith, nat_tests))) (λ f. let below = at_most p ks in rw f (omega (arith, not_below f)))
  where
    not_below : nat_lt n (length ks) ≡ false → length ks ≤ n
    not_below f = grind (arith, nat_tests)

-- two tests of equality give the same, whichever comes first
pub turned : {A : Type 0} (same other : A → A → Bool) → IsExact same → IsExact other → (a b : A) → same a b ≡ other b a
turned same other e o a b =
    by_test (same a b) (λ t. t ∙ sym ((o b a).1 (sym ((e a b).0 t)))) (λ f. by_test (other b a) (λ t. absurd (cc (f, (e a b).1 (sym ((o b a).0 t))))) (λ g. f ∙ sym g))

-- the code's test is the tables'
module _ (same : List ℕ → List ℕ → Bool) (exact : IsExact same) where
  pub same_turned : (a b : List ℕ) → same a b ≡ bytes_eq b a
  same_turned = turned same bytes_eq exact exact_texts

  or_len : (p : List ℕ) (ks : List (List ℕ)) → position_or_len (same p) ks ≡ first_place p ks
  or_len p [] = refl
  or_len p (k ∷ ks) = rw (same_turned p k) (by_test (bytes_eq k p) (λ t. rw t refl) (λ f. rw f (add-one-left _ ∙ ap suc (or_len p ks)))) where
    add-one-left : (n : ℕ) → 1 + n ≡ suc n
    add-one-left n = omega arith

  pub found_in : (p : List ℕ) (ks : List (List ℕ)) → FoundAt p ks (position (same p) ks)
  found_in p ks = chosen p ks (position_or_len (same p) ks) (or_len p ks)

-- it isn't the first one, where it stands nowhere or behind
pub not_first : (p k : List ℕ) (ks : List (List ℕ)) → first_place p (k ∷ ks) ≡ length (k ∷ ks) → (bytes_eq k p ≡ false) × (first_place p ks ≡ length ks)
not_first p k ks n =
    by_test (bytes_eq k p) (λ t. let z : first_place p (k ∷ ks) ≡ 0 = rw t refl in absurd (omega (arith, z, n)))
    (λ f. let z : first_place p (k ∷ ks) ≡ suc (first_place p ks) = rw f refl in (f, omega (arith, z, n)))

pub behind : (p k : List ℕ) (ks : List (List ℕ)) → bytes_eq k p ≡ false → first_place p (k ∷ ks) < length (k ∷ ks) → first_place p ks < length ks
behind p k ks f n = let z : first_place p (k ∷ ks) ≡ suc (first_place p ks) = rw f refl in omega (arith, z, n)

pub keys_are : (ks : List (List ℕ)) (ss : List (List (Option Term))) → length ks ≡ length ss → list_predicates (predicate_rows ks ss) ≡ ks
keys_are [] ss e = refl
keys_are (k ∷ ks) [] e = absurd (omega arith)
keys_are (k ∷ ks) (s ∷ ss) e = ap (λ (x : List (List ℕ)). k ∷ x) (keys_are ks ss (omega arith))

pub found_at : (p : List ℕ) (lists : Slots) (ks : List (List ℕ)) (o : Option ℕ) → list_predicates lists ≡ ks → o ≡ position (iri_eq p) ks → FoundAt p (list_predicates lists) o
found_at p lists ks o e f = rw (e, f) (found_in iri_eq exact_iri p ks)

pub rows_more : (ks : List (List ℕ)) (ss : List (List (Option Term))) (k : List ℕ) (s : List (Option Term)) → length ks ≡ length ss
    → predicate_rows (ks ++ k ∷ []) (ss ++ s ∷ []) ≡ predicate_rows ks ss ++ (k, s) ∷ []
rows_more [] [] k s e = refl
rows_more [] (t ∷ ss) k s e = absurd (omega arith)
rows_more (j ∷ ks) [] k s e = absurd (omega arith)
rows_more (j ∷ ks) (t ∷ ss) k s e = ap (λ (x : Slots). (j, t) ∷ x) (rows_more ks ss k s (omega arith))

rows_at : (ks : List (List ℕ)) (ss : List (List (Option Term))) (i : ℕ) → length ks ≡ length ss → slice_index_or (predicate_rows ks ss) i ([], []) ≡ (slice_index_or ks i [], slice_index_or ss i [])
rows_at [] [] i e = refl
rows_at [] (t ∷ ss) i e = absurd (omega arith)
rows_at (j ∷ ks) [] i e = absurd (omega arith)
rows_at (j ∷ ks) (t ∷ ss) zero e = refl
rows_at (j ∷ ks) (t ∷ ss) (suc i) e = rows_at ks ss i (omega arith)

pub rows_set : (ks : List (List ℕ)) (ss : List (List (Option Term))) (i : ℕ) (s : List (Option Term)) → length ks ≡ length ss
    → predicate_rows ks (slice_set ss i s) ≡ slice_set (predicate_rows ks ss) i ((slice_index_or (predicate_rows ks ss) i ([], [])).0, s)
rows_set [] [] i s e = refl
rows_set [] (t ∷ ss) i s e = absurd (omega arith)
rows_set (j ∷ ks) [] i s e = absurd (omega arith)
rows_set (j ∷ ks) (t ∷ ss) zero s e = refl
rows_set (j ∷ ks) (t ∷ ss) (suc i) s e = ap (λ (x : Slots). (j, t) ∷ x) (rows_set ks ss i s (omega arith))

pub place_is : (p : List ℕ) (lists : Slots) → place_of p lists ≡ first_place p (list_predicates lists)
place_is p [] = refl
place_is p (row ∷ lists) = by_test (bytes_eq row.0 p) (λ t. rw t refl) (λ f. rw f (ap suc (place_is p lists)))

pub slots_are : (p : List ℕ) (lists : Slots) → slots_of p lists ≡ (slice_index_or lists (first_place p (list_predicates lists)) ([], [])).1
slots_are p [] = refl
slots_are p (row ∷ lists) = by_test (bytes_eq row.0 p) (λ t. rw t refl) (λ f. rw f (slots_are p lists))

-- a new predicate goes last
pub put_new : (p : List ℕ) (item : Option (Option Term)) (lists : Slots) → first_place p (list_predicates lists) ≡ length (list_predicates lists)
    → put p item lists ≡ lists ++ (p, option_to_list item) ∷ []
put_new p item [] n = refl
put_new p item (row ∷ lists) n =
    let q = not_first p row.0 (list_predicates lists) n in
    rw q.0 (ap (λ (x : Slots). row ∷ x) (put_new p item lists q.1))

-- an old one has one more slot
pub put_old : (p : List ℕ) (slot : Option Term) (lists : Slots) → first_place p (list_predicates lists) < length (list_predicates lists)
    → let row = slice_index_or lists (first_place p (list_predicates lists)) ([], []) in
    put p (Some slot) lists ≡ slice_set lists (first_place p (list_predicates lists)) (row.0, row.1 ++ slot ∷ [])
put_old p slot [] n = absurd (omega arith)
put_old p slot (row ∷ lists) n =
    by_test (bytes_eq row.0 p) (λ t. rw t refl)
    (λ f. rw f (ap (λ (x : Slots). row ∷ x) (put_old p slot lists (behind p row.0 (list_predicates lists) f n))))

-- a touch of an old one changes nothing
pub touch_old : (p : List ℕ) (lists : Slots) → first_place p (list_predicates lists) < length (list_predicates lists) → put p None lists ≡ lists
touch_old p [] n = absurd (omega arith)
touch_old p (row ∷ lists) n =
    by_test (bytes_eq row.0 p) (λ t. rw t (ap (λ (x : List (Option Term)). (row.0, x) ∷ lists) (append-nil row.1)))
    (λ f. rw f (ap (λ (x : Slots). row ∷ x) (touch_old p lists (behind p row.0 (list_predicates lists) f n))))

pub none_alike : (p : List ℕ) (ks : List (List ℕ)) → first_place p ks ≡ length ks → list_any (iri_eq p) ks ≡ false
none_alike p [] n = refl
none_alike p (k ∷ ks) n = let q = not_first p k ks n in rw (same_turned iri_eq exact_iri p k, q.0) (none_alike p ks q.1)

pub more_rows : (old : Owned) (subject : Node) (ks more_ks : List (List ℕ)) (ss more_ss : List (List (Option Term))) (k j : List ℕ) (s : List (Option Term))
    → owned subject (predicate_rows ks ss) ≡ old → more_ks ≡ ks ++ k ∷ [] → k ≡ j → more_ss ≡ ss ++ s ∷ [] → length ks ≡ length ss
    → owned subject (predicate_rows more_ks more_ss) ≡ owned old.subject (old.lists ++ (j, s) ∷ [])
more_rows old subject ks more_ks ss more_ss k j s v e g f l =
    (λ i. owned subject (predicate_rows (e i) (f i))) ∙ ap (owned subject) (rows_more ks ss k s l) ∙ (λ i. owned (v i).subject ((v i).lists ++ (g i, s) ∷ []))

pub keys_of : (o : Owned) (subject : Node) (ks : List (List ℕ)) (ss : List (List (Option Term))) → owned subject (predicate_rows ks ss) ≡ o → length ks ≡ length ss → list_predicates o.lists ≡ ks
keys_of o subject ks ss v e = ap (λ (x : Owned). list_predicates x.lists) (sym v) ∙ keys_are ks ss e

pub not_there : (o : Owned) (subject : Node) (ks : List (List ℕ)) (ss : List (List (Option Term))) (p q : List ℕ) → owned subject (predicate_rows ks ss) ≡ o → length ks ≡ length ss → q ≡ p
    → FoundAt p (list_predicates o.lists) None → FoundAt q ks None
not_there o subject ks ss p q v e f n = subst (λ (x : List (List ℕ)). FoundAt q x None) (keys_of o subject ks ss v e) (subst (λ (x : List ℕ). FoundAt x (list_predicates o.lists) None) (sym f) n)

pub touched_old : (o : Owned) (p : List ℕ) (i : ℕ) → FoundAt p (list_predicates o.lists) (Some i) → o ≡ with_lists (put p None) o
touched_old o p i f = ap (owned o.subject) (sym (touch_old p o.lists (subst (λ (n : ℕ). n < length (list_predicates o.lists)) f.0 f.1)))

pub touched_new : (o n : Owned) (p : List ℕ) (s : List (Option Term)) (item : Option (Option Term)) → s ≡ option_to_list item → FoundAt p (list_predicates o.lists) None
    → n ≡ owned o.subject (o.lists ++ (p, s) ∷ []) → n ≡ with_lists (put p item) o
touched_new o n p s item e f h = h ∙ ap (λ (x : List (Option Term)). owned o.subject (o.lists ++ (p, x) ∷ [])) e ∙ ap (owned o.subject) (sym (put_new p item o.lists f))

rows_length : (ks : List (List ℕ)) (ss : List (List (Option Term))) → length ks ≡ length ss → length (predicate_rows ks ss) ≡ length ss
rows_length [] [] e = refl
rows_length [] (s ∷ ss) e = absurd (omega arith)
rows_length (k ∷ ks) [] e = absurd (omega arith)
rows_length (k ∷ ks) (s ∷ ss) e = omega (arith, rows_length ks ss (omega arith))

-- the lists of an owner, seen as predicates and slots side by side
module _ (o : Owned) (subject : Node) (ks : List (List ℕ)) (ss : List (List (Option Term))) (v : owned subject (predicate_rows ks ss) ≡ o) (e : length ks ≡ length ss) where
  pub as_many : length o.lists ≡ length ss
  as_many = ap (λ (x : Owned). length x.lists) (sym v) ∙ rows_length ks ss e

  pub same_slots : (i : ℕ) → slots_at o.lists i ≡ slice_index_or ss i []
  same_slots i = ap (λ (x : Owned). slots_at x.lists i) (sym v) ∙ ap (λ (r : List ℕ × List (Option Term)). r.1) (rows_at ks ss i e)

  pub row_view : (i : ℕ) (s : List (Option Term)) (new : List (List (Option Term))) → new ≡ slice_set ss i s
      → owned subject (predicate_rows ks new) ≡ with_lists (λ l. slice_set l i ((slice_index_or l i ([], [])).0, s)) o
  row_view i s new n =
      ap (λ (x : List (List (Option Term))). owned subject (predicate_rows ks x)) n ∙ ap (owned subject) (rows_set ks ss i s e)
      ∙ ap (λ (x : Owned). with_lists (λ l. slice_set l i ((slice_index_or l i ([], [])).0, s)) x) v

  pub grown_view : (i : ℕ) (new : List (List (Option Term))) → new ≡ slice_set ss i (slice_index_or ss i [] ++ None ∷ []) → owned subject (predicate_rows ks new) ≡ with_lists (with_slot i) o
  grown_view i new n =
      row_view i (slice_index_or ss i [] ++ None ∷ []) new n
      ∙ ap (λ (s : List (Option Term)). with_lists (λ l. slice_set l i ((slice_index_or l i ([], [])).0, s ++ None ∷ [])) o) (sym (same_slots i))

  pub filled_view : (i j : ℕ) (t : Term) (new : List (List (Option Term))) → new ≡ slice_set ss i (slice_set (slice_index_or ss i []) j (Some t))
      → owned subject (predicate_rows ks new) ≡ with_lists (with_term i j t) o
  filled_view i j t new n =
      row_view i (slice_set (slice_index_or ss i []) j (Some t)) new n
      ∙ ap (λ (s : List (Option Term)). with_lists (λ l. slice_set l i ((slice_index_or l i ([], [])).0, slice_set s j (Some t))) o) (sym (same_slots i))

pub slot_old : (o n : Owned) (p : List ℕ) (i : ℕ) → FoundAt p (list_predicates o.lists) (Some i) → n ≡ with_lists (with_slot i) o → n ≡ with_lists (put p (Some None)) o
slot_old o n p i f h =
    h ∙ ap (λ (x : ℕ). with_lists (with_slot x) o) f.0
    ∙ ap (owned o.subject) (sym (put_old p None o.lists (subst (λ (x : ℕ). x < length (list_predicates o.lists)) f.0 f.1)))

pub list_old : (o : Owned) (p : List ℕ) (i : ℕ) → FoundAt p (list_predicates o.lists) (Some i) → i ≡ place_of p o.lists
list_old o p i f = f.0 ∙ sym (place_is p o.lists)

pub place_old : (o : Owned) (p : List ℕ) (i : ℕ) (s : List (Option Term)) → FoundAt p (list_predicates o.lists) (Some i) → s ≡ slots_at o.lists i → length s ≡ length (slots_of p o.lists)
place_old o p i s f h = ap length (h ∙ ap (slots_at o.lists) f.0 ∙ sym (slots_are p o.lists))

pub list_new : (o : Owned) (p : List ℕ) → FoundAt p (list_predicates o.lists) None → length o.lists ≡ place_of p o.lists
list_new o p f = sym (length-map o.lists (λ row. row.0)) ∙ sym f ∙ sym (place_is p o.lists)

none_of : (p : List ℕ) (lists : Slots) → first_place p (list_predicates lists) ≡ length (list_predicates lists) → 0 ≡ length (slots_of p lists)
none_of p [] f = refl
none_of p (row ∷ lists) n = let q = not_first p row.0 (list_predicates lists) n in rw q.0 (none_of p lists q.1)

pub place_new : (o : Owned) (p : List ℕ) → FoundAt p (list_predicates o.lists) None → 0 ≡ length (slots_of p o.lists)
place_new o p f = none_of p o.lists f

pub same_key : (o : Owned) (subject : Node) (ks : List (List ℕ)) (ss : List (List (Option Term))) → owned subject (predicate_rows ks ss) ≡ o → length ks ≡ length ss
    → (i : ℕ) → (slice_index_or o.lists i ([], [])).0 ≡ slice_index_or ks i []
same_key o subject ks ss v e i = ap (λ (x : Owned). (slice_index_or x.lists i ([], [])).0) (sym v) ∙ ap (λ (r : List ℕ × List (Option Term)). r.0) (rows_at ks ss i e)
