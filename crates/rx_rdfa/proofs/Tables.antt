-- The law of tables.
use Rattle.rx_rdfa.proofs.Common.{◌≡◌, Bool, true, false, cond, List, [], ◌∷◌, ◌++◌, map, filter, filter_map, Option, Some, None, bytes_eq, option_to_list, refl, sym, ap, ap₂, ◌∙◌, append_assoc, append-nil, true≢false, not, ◌&&◌, cons_option, by_test, same_truth, Chars, false_unless, exact_texts, ListEntry, lists, items, put, table_from, TablesAreLists}
use Rattle.std.proofs.lemmas.List.Elements.{filter_agree}
use Rattle.rx_rdfa.specs.Tables.{PredicateTable}

flipped : (a b : Chars) → bytes_eq a b ≡ bytes_eq b a
flipped a b = same_truth (bytes_eq a b) (bytes_eq b a) (λ h. (exact_texts b a).1 (sym ((exact_texts a b).0 h))) (λ h. (exact_texts a b).1 (sym ((exact_texts b a).0 h)))

of_item : {T : Type 0} (item : Option T) (xs : List T) → option_to_list item ++ xs ≡ cons_option item xs
of_item None xs = refl
of_item (Some x) xs = refl

and_turned : (a b : Bool) → (a && b) ≡ (b && a)
and_turned true true = refl
and_turned false false = refl
and_turned _ _ = refl

-- what passes one test and then another passes both
filter_both : {A : Type 0} (p q r : A → Bool) → ((x : A) → r x ≡ (q x && p x)) → (xs : List A) → filter p (filter q xs) ≡ filter r xs
filter_both p q r k [] = refl
filter_both p q r k (x ∷ xs) = by_test (q x) (λ t. rw (k x, t) (ap (λ z. cond (p x) (x ∷ z) z) (filter_both p q r k xs))) (λ t. rw (k x, t) (filter_both p q r k xs))

map_kept : {A B : Type 0} (f g : A → B) (p : A → Bool) → ((x : A) → p x ≡ true → f x ≡ g x) → (xs : List A) → map f (filter p xs) ≡ map g (filter p xs)
map_kept f g p k [] = refl
map_kept f g p k (x ∷ xs) = by_test (p x) (λ t. rw t (ap₂ ◌∷◌ (k x t) (map_kept f g p k xs))) (λ t. rw t (map_kept f g p k xs))

abbrev others : Chars → Chars → Bool
others p q = not (bytes_eq p q)

module _ {O T : Type 0} where
  -- the entries whose predicates pass the test
  abbrev kept : (Chars → Bool) → List (ListEntry O T) → List (ListEntry O T)
  kept P ys = filter (λ (e : ListEntry O T). P e.predicate) ys

  -- the first row takes its items, and the rows below the entries of other predicates
  first_row : (p : Chars) (vs : List T) (t : PredicateTable T) (ys : List (ListEntry O T)) → table_from ((p, vs) ∷ t) ys ≡ (p, vs ++ items p ys) ∷ table_from t (kept (others p) ys)
  first_row p vs t [] = ap (λ (z : List T). (p, z) ∷ t) (sym (append-nil vs))
  first_row p vs t (e ∷ ys) = by_test (bytes_eq p e.predicate)
      (λ h. rw (flipped e.predicate p, h) (first_row p (vs ++ option_to_list e.item) t ys
      ∙ ap (λ (z : List T). (p, z) ∷ table_from t (kept (others p) ys)) (append_assoc vs (option_to_list e.item) (items p ys) ∙ ap (λ z. vs ++ z) (of_item e.item (items p ys)))))
      (λ h. rw (flipped e.predicate p, h) (first_row p vs (put e.predicate e.item t) ys))

  items_kept : (P : Chars → Bool) (p : Chars) → P p ≡ true → (ys : List (ListEntry O T)) → items p (kept P ys) ≡ items p ys
  items_kept P p h ys = ap (filter_map (λ (e : ListEntry O T). e.item))
      (filter_both (λ (e : ListEntry O T). bytes_eq e.predicate p) (λ (e : ListEntry O T). P e.predicate) (λ (e : ListEntry O T). bytes_eq e.predicate p) (λ e. of (bytes_eq e.predicate p) (P e.predicate) (λ t. ap P ((exact_texts e.predicate p).0 t) ∙ h)) ys)
    where
      of : (a b : Bool) → (a ≡ true → b ≡ true) → a ≡ (b && a)
      of true b k = sym (rw (k refl) refl)
      of false true k = refl
      of false false k = refl

  table_kept : (P : Chars → Bool) (ys : List (ListEntry O T)) → table_from [] (kept P ys) ≡ map (λ q. (q, items q ys)) (filter P (lists ys))
  table_kept P [] = refl
  table_kept P (e ∷ ys) =
      let p : Chars = e.predicate in
      let both : Chars → Bool = λ q. P q && others p q in
      let row : Chars → Chars × List T = λ q. (q, items q (e ∷ ys)) in
      let rest : table_from [] (kept both ys) ≡ map row (filter P (filter (others p) (lists ys))) =
      table_kept both ys
      ∙ map_kept (λ q. (q, items q ys)) row both (λ q h. rw (false_unless (bytes_eq p q) (λ t. true≢false (sym h ∙ rw t (and_turned (P q) false)))) refl) (lists ys)
      ∙ ap (map row) (sym (filter_both P (others p) both (λ q. and_turned (P q) (others p q)) (lists ys)))
      in
      by_test (P p)
      (λ h. rw (h, (exact_texts p p).1 refl) (first_row p (option_to_list e.item) [] (kept P ys)
      ∙ ap₂ (λ (z : List T) (w : PredicateTable T). (p, z) ∷ w) (ap (λ z. option_to_list e.item ++ z) (items_kept P p h ys) ∙ of_item e.item (items p ys))
      (ap (table_from []) (filter_both (λ (e : ListEntry O T). others p e.predicate) (λ (e : ListEntry O T). P e.predicate) (λ (e : ListEntry O T). both e.predicate) (λ e. refl) ys) ∙ rest)))
      (λ h. rw h (ap (table_from []) (filter_agree (λ (e : ListEntry O T). P e.predicate) (λ (e : ListEntry O T). both e.predicate)
      (λ e. by_test (bytes_eq p e.predicate) (λ t. rw (t, ap P (sym ((exact_texts p e.predicate).0 t)) ∙ h) refl) (λ t. rw t (and_turned true (P e.predicate)))) ys) ∙ rest))

passes : {A : Type 0} (xs : List A) → filter (λ _. true) xs ≡ xs
passes [] = refl
passes (x ∷ xs) = ap (λ z. x ∷ z) (passes xs)

pub tables_are_lists : {O T : Type 0} → TablesAreLists O T
tables_are_lists own = ap (table_from []) (sym (passes own)) ∙ table_kept (λ _. true) own ∙ ap (map (λ q. (q, items q own))) (passes (lists own))
