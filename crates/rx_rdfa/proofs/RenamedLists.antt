-- Renaming goes through the entries of an element, and the lists of an owner.
use Rattle.rx_rdfa.proofs.Common.{◌≡◌, ℕ, suc, Bool, cond, List, [], ◌∷◌, ◌++◌, map, filter, flat_map, filter_map, Option, Some, None, option_map, refl, sym, ap, ◌∙◌, bytes_eq, Chars, Among, distinct, spo, Node, Blank, Term, Resource, rename_node, rename_term, rename, rdf_first, rdf_rest, Naming, Hanging, Forward, InList, Standing, Resources, resources, listed, hangs, own_owner, rule, value, to_node, ListEntry, entry, linked, touched, valued, awaited, entries_by, of_owner, lists, items, cell_or_nil, chain, list_of, cells_from, rename_entry, rename_hanging, rename_standing, rename_resources, AgreeAt}
use Rattle.rx_rdfa.specs.Lists.{entries_at, cells}
use Rattle.rx_rdfa.proofs.RenamedResources.{owner_is, hangs_is, resources_rename}
use Rattle.rx_rdfa.proofs.RenamedElement.{rule_rename, value_rename}
use Rattle.rx_rdfa.proofs.Sent.{map_cond_nil, map_unless, map_both, map_each, map_filtered, map_found, map_flat}

-- ---- entries

module _ {B O C P T U : Type 0} (f : B → C) (g : O → P) (n : Naming B O) (m : Naming C P) (h : T → U) (full : Term B → T) (full' : Term C → U) (fulls : (x : Term B) → h (full x) ≡ full' (rename_term f x))
    (v : T) (at : Standing B O) (k : AgreeAt f g n m at.facts at.path) (here : Resources B) where
  abbrev there : Standing C P
  there = rename_standing f g at

  abbrev here' : Resources C
  here' = rename_resources f here

  linked_is : (object : Option (Node B)) → map (rename_entry g h) (linked n full v at here object) ≡ linked m full' (h v) there here' (option_map (rename_node f) object)
  linked_is None = refl
  linked_is (Some object) = map_each (rename_entry g h) (entry (own_owner n at here) (Some (full (Resource object)))) _ (listed at.facts.rel)
      (λ p i. entry (owner_is f g n m at k here i) (Some (fulls (Resource object) i)) p)

  touched_is : map (rename_entry g h) (touched n full v at here) ≡ touched m full' (h v) there here'
  touched_is = map_cond_nil (rename_entry g h) (hangs at.facts here) _ _
      (map_each (rename_entry g h) (entry (own_owner n at here) None) (entry (own_owner m (rename_standing f g at) (rename_resources f here)) None) (listed at.facts.rel) (λ p i. entry (owner_is f g n m at k here i) None p))
      ∙ ap (λ (b : Bool). cond b (map (entry (own_owner m (rename_standing f g at) (rename_resources f here)) None) (listed at.facts.rel)) []) (hangs_is f g n m at k here)

  valued_is : map (rename_entry g h) (valued n full v at here) ≡ valued m full' (h v) there here'
  valued_is = map_each (rename_entry g h) (entry (own_owner n at here) (Some v)) _ (listed at.facts.property) (λ p i. entry (owner_is f g n m at k here i) (Some (h v)) p)

  awaited_is : (x : Hanging O) → option_map (rename_entry g h) (awaited n full v at here x) ≡ awaited m full' (h v) there here' (rename_hanging g x)
  awaited_is (InList owner p) = λ i. Some (entry (g owner) (Some (fulls (Resource here.subject) i)) p)
  awaited_is (Forward p) = refl
  awaited_is _ = refl

  pub entries_by_rename : map (rename_entry g h) (entries_by n full v at here) ≡ entries_by m full' (h v) (rename_standing f g at) (rename_resources f here)
  entries_by_rename = map_unless (rename_entry g h) here.skipped _ _
      (map_both (rename_entry g h) (cond at.facts.inlist (linked n full v at here here.object ++ touched n full v at here ++ valued n full v at here) []) _ _ _
      (map_cond_nil (rename_entry g h) at.facts.inlist _ _
      (map_both (rename_entry g h) (linked n full v at here here.object ++ touched n full v at here) _ _ _
      (map_both (rename_entry g h) (linked n full v at here here.object) _ _ _ (linked_is here.object) touched_is)
      valued_is))
      (map_found (rename_entry g h) (awaited n full v at here) (awaited m full' (h v) there here') (rename_hanging g) awaited_is at.around.hanging))

pub entries_at_rename : {B O C P : Type 0} (f : B → C) (g : O → P) (n : Naming B O) (m : Naming C P) (base : Chars) (at : Standing B O) → AgreeAt f g n m at.facts at.path
    → (s : Chars) → map (rename_entry g (rename_term f)) (entries_at n base at s) ≡ entries_at m base (rename_standing f g at) s
unfolding entries_at
entries_at_rename f g n m base at k s =
    let here = resources n base at in
    let there = rename_standing f g at in
    entries_by_rename f g n m (rename_term f) (λ v. v) (λ v. v) (λ x. refl) (value (rule n base at.facts here) at.facts s) at k here
    ∙ ap (λ z. entries_by m (λ v. v) z there (rename_resources f here))
    (value_rename f (rule n base at.facts here) at.facts s ∙ ap (λ z. value z at.facts s) (rule_rename f g n m base at k here))
    ∙ ap (λ z. entries_by m (λ v. v) (value (rule m base at.facts z) at.facts s) there z) (resources_rename f g n m base at k)

-- ---- the lists of an owner

module _ {O P T U : Type 0} (g : O → P) (h : T → U) where
  pub of_owner_rename : (same : O → O → Bool) (same' : P → P → Bool) → ((a b : O) → same a b ≡ same' (g a) (g b))
      → (owner : O) (list : List (ListEntry O T)) → map (rename_entry g h) (of_owner same owner list) ≡ of_owner same' (g owner) (map (rename_entry g h) list)
  of_owner_rename same same' k owner list = map_filtered (rename_entry g h) (λ e. same e.owner owner) (λ e. same' e.owner (g owner)) (λ e. k e.owner owner) list

  pub lists_rename : (list : List (ListEntry O T)) → lists (map (rename_entry g h) list) ≡ lists list
  lists_rename list = ap (distinct bytes_eq) (map_each (λ (e : ListEntry P U). e.predicate) (rename_entry g h) (λ (e : ListEntry O T). e.predicate) list (λ e. refl))

  pub items_rename : (p : Chars) (list : List (ListEntry O T)) → map h (items p list) ≡ items p (map (rename_entry g h) list)
  items_rename p list =
      let here : ListEntry O T → Bool = λ e. bytes_eq e.predicate p in
      map_found h (λ (e : ListEntry O T). e.item) (λ (e : ListEntry P U). e.item) (rename_entry g h) (λ e. refl) (filter here list)
      ∙ ap (filter_map (λ (e : ListEntry P U). e.item)) (map_filtered (rename_entry g h) here (λ (e : ListEntry P U). bytes_eq e.predicate p) (λ e. refl) list)

-- ---- cells

-- the two ways of naming name the cells of a list alike, from number i on
abbrev pub CellsAlike : {B C T : Type 0} → (B → C) → (ℕ → B) → (ℕ → C) → ℕ → List T → Type 0
CellsAlike f cell cell' i [] = Unit {0}
CellsAlike f cell cell' i (x ∷ list) = (f (cell i) ≡ cell' i) × CellsAlike f cell cell' (suc i) list

module _ {B C : Type 0} (f : B → C) (cell : ℕ → B) (cell' : ℕ → C) where
  pub cells_alike : {T : Type 0} → ((i : ℕ) → f (cell i) ≡ cell' i) → (i : ℕ) (list : List T) → CellsAlike f cell cell' i list
  cells_alike k i [] = tt
  cells_alike k i (x ∷ list) = (k i, cells_alike k (suc i) list)

  cell_or_nil_is : (i : ℕ) (list : List (Term B)) → CellsAlike f cell cell' i list → rename_node f (cell_or_nil cell i list) ≡ cell_or_nil cell' i (map (rename_term f) list)
  cell_or_nil_is i [] k = refl
  cell_or_nil_is i (x ∷ list) k = ap Blank k.0

  chain_is : (i : ℕ) (list : List (Term B)) → CellsAlike f cell cell' i list → map (rename f) (chain cell i list) ≡ chain cell' i (map (rename_term f) list)
  chain_is i [] k = refl
  chain_is i (x ∷ list) k = λ j.
      spo (Blank (k.0 j)) rdf_first (rename_term f x) ∷ to_node (Blank (k.0 j)) rdf_rest (cell_or_nil_is (suc i) list k.1 j) ∷ chain_is (suc i) list k.1 j

  list_is : (subject : Node B) (p : Chars) (list : List (Term B)) → CellsAlike f cell cell' 0 list → map (rename f) (list_of cell subject p list) ≡ list_of cell' (rename_node f subject) p (map (rename_term f) list)
  list_is subject p list k = λ j. to_node (rename_node f subject) p (cell_or_nil_is 0 list k j) ∷ chain_is 0 list k j

module _ {B O C P : Type 0} (f : B → C) (g : O → P) (cell : Chars → ℕ → B) (cell' : Chars → ℕ → C) (subject : Node B) where
  pub cells_from_rename : (own : List (ListEntry O (Term B))) → ((p : Chars) → Among (lists own) p → CellsAlike f (cell p) (cell' p) 0 (items p own))
      → map (rename f) (cells_from cell subject own) ≡ cells_from cell' (rename_node f subject) (map (rename_entry g (rename_term f)) own)
  cells_from_rename own k = map_flat (rename f) (λ p. list_of (cell p) subject p (items p own)) (λ p. list_of (cell' p) (rename_node f subject) p (items p (map (rename_entry g (rename_term f)) own))) (lists own)
      (λ p a. list_is f (cell p) (cell' p) subject p (items p own) (k p a) ∙ ap (list_of (cell' p) (rename_node f subject) p) (items_rename g (rename_term f) p own))
      ∙ ap (flat_map (λ p. list_of (cell' p) (rename_node f subject) p (items p (map (rename_entry g (rename_term f)) own)))) (sym (lists_rename g (rename_term f) own))

pub cells_rename : {B O C P : Type 0} (f : B → C) (g : O → P) (n : Naming B O) (m : Naming C P) → ((a b : O) → n.same_owner a b ≡ m.same_owner (g a) (g b))
    → (all : List (ListEntry O (Term B))) (owner : O) (subject : Node B)
    → ((p : Chars) → Among (lists (of_owner n.same_owner owner all)) p → CellsAlike f (n.cell owner p) (m.cell (g owner) p) 0 (items p (of_owner n.same_owner owner all)))
    → map (rename f) (cells n all owner subject) ≡ cells m (map (rename_entry g (rename_term f)) all) (g owner) (rename_node f subject)
unfolding cells
cells_rename f g n m s all owner subject k =
    cells_from_rename f g (n.cell owner) (m.cell (g owner)) subject (of_owner n.same_owner owner all) k
    ∙ ap (cells_from (m.cell (g owner)) (rename_node f subject)) (of_owner_rename g (rename_term f) n.same_owner m.same_owner s owner all)
