-- The worked examples of shapes.
use Rattle.rx_shapes.proofs.Common.{◌≡◌, ◌⊎◌, ℕ, false, nat_eq, List, [], ◌∷◌, filter, refl, sym, ap, subst, ◌∙◌, inl, inr, true≢false, Chars, Among, Node, Iri, Blank, Term, Resource, Triple, set_of, same_node, same_triple, spo, exact_numbers, exact_nodes, exact_triples, Among_filter, Among_of_filter, rdf_first, rdf_rest, rdf_nil, Parent, Ends, at_iri, at_top, onward, Inner, Pair, Cell, last_cell, next_cell}
use Rattle.rx_model.proofs.Common.{same_term, exact_terms}
use Rattle.rx_shapes.proofs.Grouped.{object_there}
use Rattle.rx_shapes.proofs.Heights.{parent_once}
use Rattle.rx_shapes.proofs.CellLemmas.{cell_of, rest_each}
use Rattle.rx_shapes.specs.Examples.{page, knows, likes, nil, nested, below_top, two_parents, self_loop, cycle, list_of_two, third_triple, list_in_list, no_end, nil_as_subject, list_alone, ExamplesHold}

-- the triples with an object, and those with a subject
abbrev used : List (Triple ℕ) → ℕ → List (Triple ℕ)
used list b = filter (λ (t : Triple ℕ). same_term nat_eq t.object (Resource (Blank b))) list

abbrev said : List (Triple ℕ) → ℕ → List (Triple ℕ)
said list b = filter (λ (t : Triple ℕ). same_node nat_eq t.subject (Blank b)) list

used_in : (list : List (Triple ℕ)) (b : ℕ) (u : Triple ℕ) → Among list u → u.object ≡ Resource (Blank b) → Among (used list b) u
used_in list b u m q = Among_filter (λ (t : Triple ℕ). same_term nat_eq t.object (Resource (Blank b))) list u m ((exact_terms nat_eq exact_numbers u.object (Resource (Blank b))).1 q)

of_used : (list : List (Triple ℕ)) (b : ℕ) (u : Triple ℕ) → Among (used list b) u → Among list u × (u.object ≡ Resource (Blank b))
of_used list b u m =
    let r = Among_of_filter (λ (t : Triple ℕ). same_term nat_eq t.object (Resource (Blank b))) list u m in
    (r.0, (exact_terms nat_eq exact_numbers u.object (Resource (Blank b))).0 r.1)

said_in : (list : List (Triple ℕ)) (b : ℕ) (u : Triple ℕ) → Among list u → u.subject ≡ Blank b → Among (said list b) u
said_in list b u m q = Among_filter (λ (t : Triple ℕ). same_node nat_eq t.subject (Blank b)) list u m ((exact_nodes nat_eq exact_numbers u.subject (Blank b)).1 q)

of_said : (list : List (Triple ℕ)) (b : ℕ) (u : Triple ℕ) → Among (said list b) u → Among list u
of_said list b u m = (Among_of_filter (λ (t : Triple ℕ). same_node nat_eq t.subject (Blank b)) list u m).0

only_one : (t u : Triple ℕ) → Among (t ∷ []) u → u ≡ t
only_one t u (inl e) = sym e
only_one t u (inr z) = absurd z

one_of_two : (t v u : Triple ℕ) → Among (t ∷ v ∷ []) u → (u ≡ t) ⊎ (u ≡ v)
one_of_two t v u (inl e) = inl (sym e)
one_of_two t v u (inr (inl e)) = inr (sym e)
one_of_two t v u (inr (inr z)) = absurd z

-- ---- parents

has_parent : (list : List (Triple ℕ)) (b : ℕ) (n : Node ℕ) (p : Chars) → used list b ≡ spo n p (Resource (Blank b)) ∷ [] → Parent (set_of list) b n
has_parent list b n p e = record {
  predicate = p;
  held = (of_used list b (spo n p (Resource (Blank b))) (subst (λ (z : List (Triple ℕ)). Among z (spo n p (Resource (Blank b)))) (sym e) (inl refl))).0;
  alone = λ u m q. only_one (spo n p (Resource (Blank b))) u (subst (λ (z : List (Triple ℕ)). Among z u) e (used_in list b u m q));
}

no_parent : (list : List (Triple ℕ)) (b : ℕ) → used list b ≡ [] → (n : Node ℕ) → ¬ (Parent (set_of list) b n)
no_parent list b e n p = subst (λ (z : List (Triple ℕ)). Among z (spo n p.predicate (Resource (Blank b)))) e (used_in list b (spo n p.predicate (Resource (Blank b))) p.held refl)

two_have : (list : List (Triple ℕ)) (b : ℕ) (t u : Triple ℕ) → used list b ≡ t ∷ u ∷ [] → same_triple nat_eq t u ≡ false → (n : Node ℕ) → ¬ (Parent (set_of list) b n)
two_have list b t u e f n p =
    let first = of_used list b t (subst (λ (z : List (Triple ℕ)). Among z t) (sym e) (inl refl)) in
    let second = of_used list b u (subst (λ (z : List (Triple ℕ)). Among z u) (sym e) (inr (inl refl))) in
    let same : t ≡ u = p.alone t first.0 first.1 ∙ sym (p.alone u second.0 second.1) in
    true≢false (sym ((exact_triples nat_eq exact_numbers t u).1 same) ∙ f)

no_inner : (list : List (Triple ℕ)) (b : ℕ) → ((n : Node ℕ) → ¬ (Parent (set_of list) b n)) → ¬ (Inner (set_of list) b)
no_inner list b none i = none i.parent i.has

-- ---- chains that come round again

-- where all of some nodes have parents among them, no chain ends
module _ (list : List (Triple ℕ)) (P : ℕ → Type 0) (up : (b : ℕ) → P b → (n : ℕ) × Parent (set_of list) b (Blank n) × P n) where
  abbrev Round : Node ℕ → Type 0
  Round (Iri iri) = ⊥
  Round (Blank b) = P b

  never_ends : {n : Node ℕ} → Ends (set_of list) n → ¬ (Round n)
  never_ends (at_iri {iri}) p = p
  never_ends (at_top {b} none) p = let r = up b p in none (Blank r.0) r.1
  never_ends (onward {b} {parent = n} q rest) p = let r = up b p in never_ends rest (subst Round (parent_once list r.1 q) r.2)

  never_inner : (b : ℕ) → P b → ¬ (Inner (set_of list) b)
  never_inner b p i = never_ends (onward i.has i.ends) p

-- ---- pairs

has_pair : (list : List (Triple ℕ)) (b : ℕ) (item after : Term ℕ) → said list b ≡ spo (Blank b) rdf_first item ∷ spo (Blank b) rdf_rest after ∷ [] → Pair (set_of list) b item after
has_pair list b item after e =
    let t : Triple ℕ = spo (Blank b) rdf_first item in
    let u : Triple ℕ = spo (Blank b) rdf_rest after in
    record {
      first = of_said list b t (subst (λ (z : List (Triple ℕ)). Among z t) (sym e) (inl refl));
      rest = of_said list b u (subst (λ (z : List (Triple ℕ)). Among z u) (sym e) (inr (inl refl)));
      alone = λ w m q. one_of_two t u w (subst (λ (z : List (Triple ℕ)). Among z w) e (said_in list b w m q));
    }

-- a node with a triple whose predicate is another is no cell
other_predicate : (list : List (Triple ℕ)) (b : ℕ) (t : Triple ℕ) → Among list t → t.subject ≡ Blank b → same_term nat_eq (Resource (Iri t.predicate)) (Resource (Iri rdf_first)) ≡ false
    → same_term nat_eq (Resource (Iri t.predicate)) (Resource (Iri rdf_rest)) ≡ false → ¬ (Cell (set_of list) b)
other_predicate list b t m s e f c =
    let two = cell_of list b c in
    elim (two.pair.alone t m s) [
      | inl q ↦ true≢false (sym ((exact_terms nat_eq exact_numbers (Resource (Iri t.predicate)) (Resource (Iri rdf_first))).1 (ap (λ (z : Triple ℕ). Resource (Iri z.predicate)) q)) ∙ e)
      | inr q ↦ true≢false (sym ((exact_terms nat_eq exact_numbers (Resource (Iri t.predicate)) (Resource (Iri rdf_rest))).1 (ap (λ (z : Triple ℕ). Resource (Iri z.predicate)) q)) ∙ f)
    ]

-- nor is one without triples
no_triples : (list : List (Triple ℕ)) (b : ℕ) → said list b ≡ [] → ¬ (Cell (set_of list) b)
no_triples list b e c =
    let two = cell_of list b c in
    subst (λ (z : List (Triple ℕ)). Among z (spo (Blank b) rdf_first two.item)) e (said_in list b (spo (Blank b) rdf_first two.item) two.pair.first refl)

-- nor one whose rest is an object that is neither rdf:nil nor a cell
rest_is : (list : List (Triple ℕ)) (b : ℕ) (after : Term ℕ) → Among list (spo (Blank b) rdf_rest after) → same_term nat_eq after (Resource (Iri rdf_nil)) ≡ false → ((c : ℕ) → after ≡ Resource (Blank c) → ¬ (Cell (set_of list) c)) → ¬ (Cell (set_of list) b)
rest_is list b after m not_nil none c =
    let two = cell_of list b c in
    let is : after ≡ two.after = rest_each list b two after (object_there list (spo (Blank b) rdf_rest after) m) in
    elim two.next [
      | inl e ↦ true≢false (sym ((exact_terms nat_eq exact_numbers after (Resource (Iri rdf_nil))).1 (is ∙ e)) ∙ not_nil)
      | inr d ↦ none d.0 (is ∙ d.1) d.2
    ]

-- ---- the examples

inner_by : (list : List (Triple ℕ)) (b : ℕ) (n : Node ℕ) → Parent (set_of list) b n → Ends (set_of list) n → Inner (set_of list) b
inner_by list b n p e = record { parent = n; has = p; ends = e }

-- an inner node below the page, and one below that
below_the_page : (list : List (Triple ℕ)) (b : ℕ) (p : Chars) → used list b ≡ spo page p (Resource (Blank b)) ∷ [] → Inner (set_of list) b
below_the_page list b p e = inner_by list b page (has_parent list b page p e) at_iri

below_it : (list : List (Triple ℕ)) (b c : ℕ) (p : Chars) → used list c ≡ spo (Blank b) p (Resource (Blank c)) ∷ [] → Inner (set_of list) b → Inner (set_of list) c
below_it list b c p e i = inner_by list c (Blank b) (has_parent list c (Blank b) p e) (onward i.has i.ends)

last_by : (list : List (Triple ℕ)) (b : ℕ) (item : Node ℕ) → Inner (set_of list) b → said list b ≡ spo (Blank b) rdf_first (Resource item) ∷ spo (Blank b) rdf_rest (Resource nil) ∷ [] → Cell (set_of list) b
last_by list b item i e = last_cell i (has_pair list b (Resource item) (Resource nil) e)

next_by : (list : List (Triple ℕ)) (b c : ℕ) (item : Node ℕ) → Inner (set_of list) b → said list b ≡ spo (Blank b) rdf_first (Resource item) ∷ spo (Blank b) rdf_rest (Resource (Blank c)) ∷ [] → Cell (set_of list) c → Cell (set_of list) b
next_by list b c item i e rest = next_cell i (has_pair list b (Resource item) (Resource (Blank c)) e) rest

abbrev In_cycle : ℕ → Type 0
In_cycle n = (n ≡ 0) ⊎ ((n ≡ 1) ⊎ (n ≡ 2))

cycle_up : (b : ℕ) → In_cycle b → (n : ℕ) × Parent (set_of cycle) b (Blank n) × In_cycle n
cycle_up b (inl e) = (1, subst (λ (z : ℕ). Parent (set_of cycle) z (Blank 1)) (sym e) (has_parent cycle 0 (Blank 1) knows refl), inr (inl refl))
cycle_up b (inr (inl e)) = (0, subst (λ (z : ℕ). Parent (set_of cycle) z (Blank 0)) (sym e) (has_parent cycle 1 (Blank 0) knows refl), inl refl)
cycle_up b (inr (inr e)) = (1, subst (λ (z : ℕ). Parent (set_of cycle) z (Blank 1)) (sym e) (has_parent cycle 2 (Blank 1) likes refl), inr (inl refl))

abbrev In_loop : ℕ → Type 0
In_loop n = n ≡ 0

loop_up : (b : ℕ) → In_loop b → (n : ℕ) × Parent (set_of self_loop) b (Blank n) × In_loop n
loop_up b e = (0, subst (λ (z : ℕ). Parent (set_of self_loop) z (Blank 0)) (sym e) (has_parent self_loop 0 (Blank 0) knows refl), refl)

third_no_cell : ¬ (Cell (set_of third_triple) 1)
third_no_cell = other_predicate third_triple 1 (spo (Blank 1) likes (Resource page)) (inr (inr (inr (inr (inr (inl refl)))))) refl refl refl

third_next : (c : ℕ) → Resource (Blank 1) ≡ Resource (Blank c) → ¬ (Cell (set_of third_triple) c)
third_next c e = let q : 1 ≡ c = cc in subst (λ (z : ℕ). ¬ (Cell (set_of third_triple) z)) q third_no_cell

pub examples_hold : ExamplesHold
examples_hold =
    let nested_0 : Inner (set_of nested) 0 = below_the_page nested 0 knows refl in
    let two_0 : Inner (set_of list_of_two) 0 = below_the_page list_of_two 0 knows refl in
    let two_1 : Inner (set_of list_of_two) 1 = below_it list_of_two 0 1 rdf_rest refl two_0 in
    let two_last : Cell (set_of list_of_two) 1 = last_by list_of_two 1 page two_1 refl in
    let third_0 : Inner (set_of third_triple) 0 = below_the_page third_triple 0 knows refl in
    let in_0 : Inner (set_of list_in_list) 0 = below_the_page list_in_list 0 knows refl in
    record {
      below_page = (nested_0, other_predicate nested 0 (spo (Blank 0) knows (Resource (Blank 1))) (inr (inl refl)) refl refl refl);
      below_inside = (below_it nested 0 1 knows refl nested_0, no_triples nested 1 refl);
      not_there = no_inner nested 2 (no_parent nested 2 refl);
      top = no_inner below_top 0 (no_parent below_top 0 refl);
      below_labelled = (inner_by below_top 1 (Blank 0) (has_parent below_top 1 (Blank 0) knows refl) (at_top (no_parent below_top 0 refl)), no_triples below_top 1 refl);
      two = no_inner two_parents 0 (two_have two_parents 0 (spo page knows (Resource (Blank 0))) (spo page likes (Resource (Blank 0))) refl refl);
      loop = never_inner self_loop In_loop loop_up 0 refl;
      round = never_inner cycle In_cycle cycle_up 0 (inl refl);
      round_again = never_inner cycle In_cycle cycle_up 1 (inr (inl refl));
      below_cycle = never_inner cycle In_cycle cycle_up 2 (inr (inr refl));
      first_cell = next_by list_of_two 0 1 page two_0 refl two_last;
      last_of_two = two_last;
      has_third = (below_it third_triple 0 1 rdf_rest refl third_0, third_no_cell);
      before_third = (third_0, rest_is third_triple 0 (Resource (Blank 1)) (inr (inr (inl refl))) refl third_next);
      outer_list = last_by list_in_list 0 (Blank 1) in_0 refl;
      inner_list = last_by list_in_list 1 page (below_it list_in_list 0 1 rdf_first refl in_0) refl;
      without_end = (below_the_page no_end 0 knows refl, rest_is no_end 0 (Resource page) (inr (inr (inl refl))) refl (λ c e. absurd (cc)));
      beside_nil = last_by nil_as_subject 0 page (below_the_page nil_as_subject 0 knows refl) refl;
      below_nil = (inner_by nil_as_subject 1 nil (has_parent nil_as_subject 1 nil likes refl) at_iri, no_triples nil_as_subject 1 refl);
      alone = no_inner list_alone 0 (no_parent list_alone 0 refl);
      places = refl;
    }
