-- The law of the list of a tree.
use Rattle.rx_rdfa.specs.Common.{Path, Naming, model, Nodes, Facts}
use Rattle.rx_model.proofs.Common.{◌≡◌, ◌⊎◌, ◌↔◌, ℕ, suc, List, [], ◌∷◌, ◌++◌, flat_map, sym, ap, ◌∙◌, subst, inl, inr, append_assoc, Chars, flat_map-append, Among, Triple, Among_left, Among_right, Among_cases, Among_flat_map, Among_of_flat_map}
use Rattle.rx_grammar.specs.Trees.{end, element, text}
use Rattle.rx_rdfa.specs.Element.{TreePlace, places, places_from, standing, start, end', in_order_from, in_order}
use Rattle.rx_rdfa.specs.Lists.{entries}
use Rattle.rx_rdfa.specs.Made.{raw, made, MadeIsRaw, lists_of, lists_below, page_lists, end_and_lists}

-- what is among four lists that are joined
four : {A : Type 0} (a b c d : List A) (t : A) → Among (a ++ (b ++ (c ++ d))) t ↔ (Among a t ⊎ (Among b t ⊎ (Among c t ⊎ Among d t)))
four a b c d t = (
  λ h. elim (Among_cases a (b ++ (c ++ d)) t h) [
    | inl k ↦ inl k
    | inr k ↦ inr (elim (Among_cases b (c ++ d) t k) [ inl l ↦ inl l | inr l ↦ inr (Among_cases c d t l) ])
  ],
  λ h. elim h [
    | inl k ↦ Among_left a (b ++ (c ++ d)) t k
    | inr (inl k) ↦ Among_right a (b ++ (c ++ d)) t (Among_left b (c ++ d) t k)
    | inr (inr (inl k)) ↦ Among_right a (b ++ (c ++ d)) t (Among_right b (c ++ d) t (Among_left c d t k))
    | inr (inr (inr k)) ↦ Among_right a (b ++ (c ++ d)) t (Among_right b (c ++ d) t (Among_right c d t k))
  ],
)

-- the two in the middle change places
turned : {P Q R S Q' S' : Type 0} → (Q → Q') → (S → S') → P ⊎ (Q ⊎ (R ⊎ S)) → P ⊎ (R ⊎ (Q' ⊎ S'))
turned f g (inl h) = inl h
turned f g (inr (inl h)) = inr (inr (inl (f h)))
turned f g (inr (inr (inl h))) = inr (inl h)
turned f g (inr (inr (inr h))) = inr (inr (inr (g h)))

turned_back : {P Q R S Q' S' : Type 0} → (Q → Q') → (S → S') → P ⊎ (R ⊎ (Q ⊎ S)) → P ⊎ (Q' ⊎ (R ⊎ S'))
turned_back f g (inl h) = inl h
turned_back f g (inr (inl h)) = inr (inr (inl h))
turned_back f g (inr (inr (inl h))) = inr (inl (f h))
turned_back f g (inr (inr (inr h))) = inr (inr (inr (g h)))

module _ {A : Type 0} (front back : TreePlace → List A) (t : A) where
  sides : TreePlace → List A
  sides p = front p ++ back p

  -- in order, and place by place, the same are given
  in_places : (above : List Facts) (path : Path) (i : ℕ) (nodes : Nodes Facts) → Among (in_order_from front back above path i nodes) t ↔ Among (flat_map sides (places_from above path i nodes)) t
  unfolding sides
  in_places above path i end = (λ h. h, λ h. h)
  in_places above path i (text s rest) = in_places above path i rest
  in_places above path i (element facts inside rest) =
      let p : TreePlace = record { above = above; facts = facts; path = i ∷ path; inside = inside } in
      let ps : List TreePlace = places_from (facts ∷ above) (i ∷ path) 0 inside in
      let qs : List TreePlace = places_from above path (suc i) rest in
      let P : List A = flat_map sides ps in
      let Q : List A = flat_map sides qs in
      let inner : List A = in_order_from front back (facts ∷ above) (i ∷ path) 0 inside in
      let later : List A = in_order_from front back above path (suc i) rest in
      let k = in_places (facts ∷ above) (i ∷ path) 0 inside in
      let l = in_places above path (suc i) rest in
      let e : sides p ++ flat_map sides (ps ++ qs) ≡ front p ++ (back p ++ (P ++ Q)) = ap (λ z. sides p ++ z) (flat_map-append sides ps qs) ∙ append_assoc (front p) (back p) (P ++ Q) in
      subst (λ z. Among (front p ++ (inner ++ (back p ++ later))) t ↔ Among z t) (sym e) (
        λ h. (four (front p) (back p) P Q t).1 (turned k.0 l.0 ((four (front p) inner (back p) later t).0 h)),
        λ h. (four (front p) inner (back p) later t).1 (turned_back k.1 l.1 ((four (front p) (back p) P Q t).0 h)),
      )

module _ {B O : Type 0} (n : Naming B O) (base : Chars) (tree : Nodes Facts) (t : Triple B) where
  to_raw : Among (made n base tree) t → raw n base tree t
  unfolding sides
  to_raw h =
      let all = entries n base tree in
      let back : TreePlace → List (Triple B) = end_and_lists n base all in
      elim (Among_cases (in_order (start n base) back tree) (page_lists n base all) t h) [
        | inl k ↦ (let r = Among_of_flat_map (sides (start n base) back t) (places tree) t ((in_places (start n base) back t [] [] 0 tree).0 k) in
            let at = standing n base r.0 in
            inl (r.0, r.1, (four (start n base r.0) (end' n base r.0) (lists_below n base all at) (lists_of n base all at) t).0 r.2))
        | inr k ↦ inr k
      ]

  of_raw : raw n base tree t → Among (made n base tree) t
  unfolding sides
  of_raw (inl r) =
      let all = entries n base tree in
      let back : TreePlace → List (Triple B) = end_and_lists n base all in
      let at = standing n base r.0 in
      Among_left (in_order (start n base) back tree) (page_lists n base all) t ((in_places (start n base) back t [] [] 0 tree).1
      (Among_flat_map (sides (start n base) back t) (places tree) r.0 t r.1 ((four (start n base r.0) (end' n base r.0) (lists_below n base all at) (lists_of n base all at) t).1 r.2)))
  of_raw (inr k) =
      let all = entries n base tree in
      Among_right (in_order (start n base) (end_and_lists n base all) tree) (page_lists n base all) t k

pub made_is_raw : MadeIsRaw
made_is_raw base tree t = (to_raw model base tree t, of_raw model base tree t)
