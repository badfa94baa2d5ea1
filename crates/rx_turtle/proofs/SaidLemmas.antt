-- What is said of a node, by the places of its triples.
use Rattle.rx_turtle.proofs.Common.{◌≡◌, ◌∙◌, ℕ, ◌+◌, nat_eq, List, [], ◌∷◌, ◌++◌, take, slice_get, Some, option_to_list, refl, sym, ap, append_assoc, append-nil, Node, Triple, one_more, Keyed, grouped}
use Rattle.rx_shapes.specs.Places.{places_of, picked}
use Rattle.rx_shapes.proofs.PlaceLemmas.{picked_about}
use Rattle.rx_turtle.specs.declared.keys.By.TheVariants as by
use Rattle.rx_turtle.specs.Said.{said_of}

-- ---- the triples at some places

module _ (list : List (Triple ℕ)) where
  picked_both : (xs ys : List ℕ) → picked list (xs ++ ys) ≡ picked list xs ++ picked list ys
  picked_both [] ys = refl
  picked_both (x ∷ xs) ys = ap (λ z. option_to_list (slice_get list x) ++ z) (picked_both xs ys) ∙ sym (append_assoc (option_to_list (slice_get list x)) (picked list xs) (picked list ys))

  pub picked_turn : (places : List ℕ) (i place : ℕ) (old new : List (Triple ℕ)) → slice_get places i ≡ Some place → new ≡ old ++ option_to_list (slice_get list place)
      → old ≡ picked list (take i places) → new ≡ picked list (take (i + 1) places)
  picked_turn places i place old new at grows h =
      let one : picked list (place ∷ []) ≡ option_to_list (slice_get list place) = append-nil (option_to_list (slice_get list place)) in
      grows ∙ ap (λ z. z ++ option_to_list (slice_get list place)) h
      ∙ sym (ap (picked list) (one_more places i place at) ∙ picked_both (take i places) (place ∷ []) ∙ ap (λ z. picked list (take i places) ++ z) one)

pub said_is : (list : List (Triple ℕ)) (node : Node ℕ) (places : List ℕ) (triples : List (Triple ℕ)) (said : List Keyed) → places ≡ places_of nat_eq list node
    → triples ≡ picked list places → said ≡ grouped by.Predicate triples → said ≡ said_of list node
said_is list node places triples said are picks groups = groups ∙ ap (grouped by.Predicate) (picks ∙ picked_about list node places are)
