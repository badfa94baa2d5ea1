-- What is found by the places of a node's triples.
use Rattle.rx_shapes.proofs.Common.{◌≡◌, ◌∙◌, ℕ, suc, Bool, true, false, cond, nat_eq, List, [], ◌∷◌, ◌++◌, map, filter, length, length-append, slice_get, Option, Some, None, option_to_list, refl, sym, ap, ap₂, arith, append_assoc, Chars, by_test, Node, Term, Triple, same_node, positions, places_of, picked, about, has_subject, has_predicate, first_member, object_at, object_if, object_among}
use Rattle.rx_model.proofs.Common.{if◌then◌else◌, option_or}
use Rattle.rx_shapes.proofs.RowLemmas.{positions_same}
use Rattle.rx_shapes.proofs.Grouped.{same_back}

-- ---- the triples at the places of a node

after_front : (front : List (Triple ℕ)) (t : Triple ℕ) (list : List (Triple ℕ)) → slice_get (front ++ t ∷ list) (length front) ≡ Some t
after_front [] t list = refl
after_front (x ∷ front) t list = after_front front t list

module _ (test : Triple ℕ → Bool) where
  picked_from : (front list : List (Triple ℕ)) → picked (front ++ list) (positions test (length front) list) ≡ filter test list
  picked_from front [] = refl
  picked_from front (t ∷ list) =
      let size : length (front ++ t ∷ []) ≡ suc (length front) = omega (arith, length-append front (t ∷ [])) in
      let rest = ap₂ (λ z n. picked z (positions test n list)) (sym (append_assoc front (t ∷ []) list)) (sym size) ∙ picked_from (front ++ t ∷ []) list in
      by_test (test t) (λ e. rw e (ap₂ (λ o z. option_to_list o ++ z) (after_front front t list) rest)) (λ e. rw e rest)

module _ (list : List (Triple ℕ)) (node : Node ℕ) (places : List ℕ) (are : places ≡ places_of nat_eq list node) where
  pub picked_about : picked list places ≡ about list node
  picked_about =
      ap (picked list) (are ∙ positions_same (λ (t : Triple ℕ). same_node nat_eq node t.subject) (has_subject node) 0 list (λ t. same_back node t.subject))
      ∙ picked_from (has_subject node) [] list

  -- ---- the first object of a predicate

  abbrev first_object : Chars → List (Triple ℕ) → Option (Term ℕ)
  first_object p triples = first_member (map (λ (t : Triple ℕ). t.object) (filter (has_predicate p) triples))

  among_is : (p : Chars) (some : List ℕ) → object_among list some p ≡ first_object p (picked list some)
  among_is p [] = refl
  among_is p (place ∷ some) = go (slice_get list place) (among_is p some)
    where
      one : (b : Bool) (t : Triple ℕ) → object_among list some p ≡ first_object p (picked list some)
          → option_or (if b then Some t.object else None) (object_among list some p) ≡ first_member (map (λ (t : Triple ℕ). t.object) (cond b (t ∷ filter (has_predicate p) (picked list some)) (filter (has_predicate p) (picked list some))))
      one true t ih = refl
      one false t ih = ih

      go : (o : Option (Triple ℕ)) → object_among list some p ≡ first_object p (picked list some)
          → option_or (object_if o p) (object_among list some p) ≡ first_object p (option_to_list o ++ picked list some)
      go None ih = ih
      go (Some t) ih = one (has_predicate p t) t ih

  pub object_found : (p : Chars) → object_among list places p ≡ object_at list node p
  object_found p = among_is p places ∙ ap (first_object p) picked_about
