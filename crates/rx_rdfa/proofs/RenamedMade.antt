-- Renaming goes through the list of a tree's triples.
use Rattle.rx_rdfa.proofs.Common.{◌≡◌, ℕ, suc, List, [], ◌∷◌, ◌++◌, map, refl, ap, ap₂, ◌∙◌, Chars, Node, Iri, Term, rename_node, rename_term, rename, Path, Naming, Nodes, element_text, Facts, Inherited, Standing, Resources, resources, below, inherited, up, at_page, TreePlace, places, in_order_from, in_order, standing, start, start_of, end', end_of, ListEntry, entries_of, entries_at, entries, cells, lists_below, lists_of, page_lists, end_and_lists, made, rename_entry, rename_inherited, rename_standing, AgreeAt, Agree}
use Rattle.rx_grammar.specs.Trees.{end, element, text}
use Rattle.rx_rdfa.proofs.RenamedResources.{resources_rename, below_rename}
use Rattle.rx_rdfa.proofs.RenamedElement.{start_rename, end_rename}
use Rattle.rx_rdfa.proofs.Sent.{map_both, map_flat}
use Rattle.rx_rdfa.proofs.RenamedLists.{entries_at_rename, cells_alike, cells_rename}

-- what is renamed of each place in order
pub in_order_rename : {A A' : Type 0} (h : A → A') (front back : TreePlace → List A) (front' back' : TreePlace → List A') → ((p : TreePlace) → map h (front p) ≡ front' p) → ((p : TreePlace) → map h (back p) ≡ back' p)
    → (above : List Facts) (path : Path) (i : ℕ) (nodes : Nodes Facts) → map h (in_order_from front back above path i nodes) ≡ in_order_from front' back' above path i nodes
in_order_rename h front back front' back' k l above path i end = refl
in_order_rename h front back front' back' k l above path i (text s rest) = in_order_rename h front back front' back' k l above path i rest
in_order_rename h front back front' back' k l above path i (element facts inside rest) =
    let p : TreePlace = record { above = above; facts = facts; path = i ∷ path; inside = inside } in
    map_both h (front p) _ _ _ (k p)
    (map_both h (in_order_from front back (facts ∷ above) (i ∷ path) 0 inside) _ _ _ (in_order_rename h front back front' back' k l (facts ∷ above) (i ∷ path) 0 inside)
    (map_both h (back p) _ _ _ (l p) (in_order_rename h front back front' back' k l above path (suc i) rest)))

module _ {B O C P : Type 0} (f : B → C) (g : O → P) (n : Naming B O) (m : Naming C P) (k : Agree f g n m) (base : Chars) where
  pub agree_at : (facts : Facts) (path : Path) → AgreeAt f g n m facts path
  agree_at facts path = record { author = λ label h. k.author label; made = k.made path; of = k.of path; below = k.below path; same = k.same }

  pub page_rename : rename_inherited f g (at_page n base) ≡ at_page m base
  page_rename = λ i. record { subject = Iri base; object = Iri base; hanging = []; owner = k.first i }

  pub inherited_rename : (above : List Facts) (path : Path) → rename_inherited f g (inherited n base above path) ≡ inherited m base above path
  inherited_rename [] path = page_rename
  inherited_rename (facts ∷ above) path =
      below_rename f g n m base (record { facts = facts; path = path; around = inherited n base above (up path) }) (agree_at facts path)
      ∙ ap (λ (z : Inherited C P). below m base (record { facts = facts; path = path; around = z })) (inherited_rename above (up path))

  standing_rename : (p : TreePlace) → rename_standing f g (standing n base p) ≡ standing m base p
  standing_rename p = ap (λ (z : Inherited C P). record { facts = p.facts; path = p.path; around = z }) (inherited_rename p.above (up p.path))

  start_is : (p : TreePlace) → map (rename f) (start n base p) ≡ start m base p
  start_is p = start_rename f g n m base (standing n base p) (agree_at p.facts p.path) ∙ ap (start_of m base) (standing_rename p)

  end_is : (p : TreePlace) → map (rename f) (end' n base p) ≡ end' m base p
  end_is p = end_rename f g n m base (standing n base p) (agree_at p.facts p.path) (element_text p.inside)
      ∙ ap (λ z. end_of m base z (element_text p.inside)) (standing_rename p)

  entries_of_is : (p : TreePlace) → map (rename_entry g (rename_term f)) (entries_of n base p) ≡ entries_of m base p
  entries_of_is p = entries_at_rename f g n m base (standing n base p) (agree_at p.facts p.path) (element_text p.inside)
      ∙ ap (λ z. entries_at m base z (element_text p.inside)) (standing_rename p)

  pub entries_rename : (tree : Nodes Facts) → map (rename_entry g (rename_term f)) (entries n base tree) ≡ entries m base tree
  entries_rename tree = map_flat (rename_entry g (rename_term f)) (entries_of n base) (entries_of m base) (places tree) (λ p h. entries_of_is p)

  cells_is : (all : List (ListEntry O (Term B))) (owner : O) (owner' : P) (subject : Node B) (subject' : Node C) → g owner ≡ owner' → rename_node f subject ≡ subject'
      → map (rename f) (cells n all owner subject) ≡ cells m (map (rename_entry g (rename_term f)) all) owner' subject'
  cells_is all owner owner' subject subject' e q =
      cells_rename f g n m k.same_owner all owner subject (λ p a. cells_alike f (n.cell owner p) (m.cell (g owner) p) (k.cell owner p) 0 _)
      ∙ ap₂ (cells m (map (rename_entry g (rename_term f)) all)) e q

  pub lists_below_rename : (all : List (ListEntry O (Term B))) (at : Standing B O) → map (rename f) (lists_below n base all at) ≡ lists_below m base (map (rename_entry g (rename_term f)) all) (rename_standing f g at)
  lists_below_rename all at = cells_is all (n.below at.path) (m.below at.path) (below n base at).object (below m base (rename_standing f g at)).object (k.below at.path)
      (ap (λ (z : Inherited C P). z.object) (below_rename f g n m base at (agree_at at.facts at.path)))

  pub lists_of_rename : (all : List (ListEntry O (Term B))) (at : Standing B O) → map (rename f) (lists_of n base all at) ≡ lists_of m base (map (rename_entry g (rename_term f)) all) (rename_standing f g at)
  lists_of_rename all at = cells_is all (n.of at.path) (m.of at.path) (resources n base at).subject (resources m base (rename_standing f g at)).subject (k.of at.path)
      (ap (λ (z : Resources C). z.subject) (resources_rename f g n m base at (agree_at at.facts at.path)))

  pub page_lists_rename : (all : List (ListEntry O (Term B))) → map (rename f) (page_lists n base all) ≡ page_lists m base (map (rename_entry g (rename_term f)) all)
  page_lists_rename all = cells_is all n.first m.first (Iri base) (Iri base) k.first refl

  end_and_lists_is : (all : List (ListEntry O (Term B))) (p : TreePlace) → map (rename f) (end_and_lists n base all p) ≡ end_and_lists m base (map (rename_entry g (rename_term f)) all) p
  end_and_lists_is all p = map_both (rename f) (end' n base p) _ _ _ (end_is p)
      (map_both (rename f) (lists_below n base all (standing n base p)) _ _ _ (lists_below_rename all (standing n base p)) (lists_of_rename all (standing n base p))
      ∙ ap (λ z. lists_below m base (map (rename_entry g (rename_term f)) all) z ++ lists_of m base (map (rename_entry g (rename_term f)) all) z) (standing_rename p))

  pub made_rename : (tree : Nodes Facts) → map (rename f) (made n base tree) ≡ made m base tree
  made_rename tree =
      let all = entries n base tree in
      map_both (rename f) (in_order (start n base) (end_and_lists n base all) tree) _ _ _
      (in_order_rename (rename f) (start n base) (end_and_lists n base all) (start m base) _ start_is (end_and_lists_is all) [] [] 0 tree)
      (page_lists_rename all)
      ∙ ap (λ z. in_order (start m base) (end_and_lists m base z) tree ++ page_lists m base z) (entries_rename tree)
