-- Where the elements of one table stand for those of another, visits and JSON are alike.
use Rattle.rx_items.proofs.Common.{⊤, not, ◌&&◌, ◌||◌, ◌==◌, nat_le, ◌≡◌, ℕ, zero, suc, Bool, true, false, nat_lt, cond, codes, List, [], ◌∷◌, ◌++◌, map, filter, flat_map, Option, Some, None, option_map, option_or, list_any, refl, sym, ap, ◌∙◌, Chars, map-append, length-map, Kind, Cycle, ItemsTooNested, ItemsTooMany, Data, object, member, array, no_members, Value, Written, said, Placed, is_item, names_of, is_any, Visit, Bounds, is_cycle, items_in, visits_from, visits_by, fault_of, first_fault, Outcome, Given, refused, string_of, item_of, property_pairs, json_of_item, json_by, array_items, outcome_by, needed}

abbrev pub Each : {X : Type 0} → (X → Type 0) → List X → Type 0
Each P [] = ⊤
Each P (x ∷ xs) = P x × Each P xs

pub each_append : {X : Type 0} (P : X → Type 0) (a b : List X) → Each P a → Each P b → Each P (a ++ b)
each_append P [] b p q = q
each_append P (x ∷ a) b p q = (p.0, each_append P a b p.1 q)

map_compose : {X Y Z : Type 0} (f : X → Y) (g : Y → Z) (a : List X) → map g (map f a) ≡ map (λ x. g (f x)) a
map_compose f g [] = refl
map_compose f g (x ∷ a) = ap (λ l. g (f x) ∷ l) (map_compose f g a)

abbrev chosen : Bool → Data → Data → Data
chosen b nested plain = elim b as (λ nested. Data) [ true ↦ nested | false ↦ plain ]

abbrev with_name : Data → Chars → Chars × Data
with_name value name = (name, value)

-- the values of a property's names
one : (base : Chars) (names : List Chars) (b : Bool) (v : Value) (d e : Data) → (b ≡ true → d ≡ e)
    → map (with_name (chosen b d (string_of (said base (cond (not b && is_any names) v (Written [])))))) names
    ≡ map (with_name (chosen b e (string_of (said base v)))) names
one base [] b v d e h = refl
one base (n ∷ names) true v d e h = ap (λ x. map (with_name x) (n ∷ names)) (h refl)
one base (n ∷ names) false v d e h = refl

abbrev pub Item : (Placed → Type 0) → Placed → Type 0
Item Good e = Good e × (is_item e ≡ true)

module _ (place past : Placed → ℕ) (scope : Placed → Option ℕ) where
  abbrev pub moved : Placed → Placed
  moved e = record { place = place e; past = past e; scope = scope e; facts = needed e.facts }

  abbrev pub SamePlaces : (Placed → Type 0) → Type 0
  SamePlaces Good = (x y : Placed) → Good x → Good y → (place x == place y) ≡ (x.place == y.place)

  -- each item has the same properties in both
  pub record Moves (Good : Placed → Type 0) (from to : Placed → List Placed) : Type 0 where
    pub places : SamePlaces Good
    pub same : (root : Placed) → Item Good root → to (moved root) ≡ map moved (from root)
    pub stays : (root : Placed) → Item Good root → Each Good (from root)

  module _ (Good : Placed → Type 0) (from to : Placed → List Placed) (m : Moves Good from to) where
    module _ (base : Chars) where
      valued : (Placed → List Placed) → ℕ → Placed → List (Chars × Data)
      valued properties left e = property_pairs e (chosen (is_item e) (json_of_item properties base left e) (string_of (said base e.facts.value)))

      over : (left : ℕ) (xs : List Placed) → Each Good xs
          → ((e : Placed) → Item Good e → json_of_item to base left (moved e) ≡ json_of_item from base left e)
          → flat_map (valued to left) (map moved xs) ≡ flat_map (valued from left) xs
      unfolding valued
      over left [] g same = refl
      over left (x ∷ xs) g same =
          λ i. one base (names_of x) (is_item x) x.facts.value (json_of_item to base left (moved x)) (json_of_item from base left x) (λ b. same x (g.0, b)) i ++ over left xs g.1 same i

      pub item_alike : (left : ℕ) (root : Placed) → Item Good root → json_of_item to base left (moved root) ≡ json_of_item from base left root
      unfolding valued
      item_alike zero root g = refl
      item_alike (suc left) root g =
          ap (λ ps. item_of base root.facts (flat_map (valued to left) ps)) (m.same root g)
          ∙ ap (λ pairs. item_of base root.facts pairs) (over left (from root) (m.stays root g) (λ e h. item_alike left e h))

      items_alike : (left : ℕ) (items : List Placed) → Each (Item Good) items → map (json_of_item to base left) (map moved items) ≡ map (json_of_item from base left) items
      items_alike left [] g = refl
      items_alike left (x ∷ items) g = λ i. item_alike left x g.0 i ∷ items_alike left items g.1 i

      pub json_alike : (nested : ℕ) (items : List Placed) → Each (Item Good) items → json_by to base nested (map moved items) ≡ json_by from base nested items
      json_alike nested items g = ap (λ values. object (member (codes "items") (array (array_items values)) no_members)) (items_alike nested items g)

    any_alike : (last : Placed) (above : Visit) → Good last → Each Good above
        → list_any (λ (e : Placed). e.place == place last) (map moved above) ≡ list_any (λ (e : Placed). e.place == last.place) above
    any_alike last [] g h = refl
    any_alike last (x ∷ above) g h = λ i. m.places x last h.0 g i || any_alike last above g h.1 i

    cycle_alike : (visit : Visit) → Each Good visit → is_cycle (map moved visit) ≡ is_cycle visit
    cycle_alike [] g = refl
    cycle_alike (last ∷ above) g = any_alike last above g.0 g.1

    abbrev each_name : Placed → List Placed
    each_name e = map (λ (name : Chars). e) (names_of e)

    const_good : (x : Placed) (names : List Chars) → Item Good x → Each (Item Good) (map (λ (name : Chars). x) names)
    const_good x [] g = tt
    const_good x (n ∷ names) g = (g, const_good x names g)

    inner_alike : (ps : List Placed) → Each Good ps → (items_in (map moved ps) ≡ map moved (items_in ps)) × Each (Item Good) (items_in ps)
    inner_alike [] g = (refl, tt)
    inner_alike (x ∷ ps) g = by (is_item x) refl (inner_alike ps g.1)
      where
        by : (b : Bool) → is_item x ≡ b → (items_in (map moved ps) ≡ map moved (items_in ps)) × Each (Item Good) (items_in ps)
            → (flat_map each_name (cond b (moved x ∷ filter is_item (map moved ps)) (filter is_item (map moved ps))) ≡ map moved (flat_map each_name (cond b (x ∷ filter is_item ps) (filter is_item ps))))
            × Each (Item Good) (flat_map each_name (cond b (x ∷ filter is_item ps) (filter is_item ps)))
        by true e h =
            let head = sym (map_compose (λ (name : Chars). x) moved (names_of x)) in (
              (λ i. head i ++ h.0 i) ∙ sym (map-append moved (each_name x) (items_in ps)),
              each_append (Item Good) (each_name x) (items_in ps) (const_good x (names_of x) (g.0, e)) h.1,
            )
        by false e h = h

    -- these visits are those, of elements that are good
    abbrev AreMoved : List Visit → List Visit → Type 0
    AreMoved those these = (those ≡ map (map moved) these) × Each (Each Good) these

    abbrev onward : (Placed → List Placed) → ℕ → Visit → Placed → Bool → List Visit
    onward properties left above root b = elim b as (λ cycle. List Visit) [
      | true ↦ []
      | false ↦ flat_map (visits_from properties left (root ∷ above)) (items_in (properties root))
    ]

    flat_alike : (left : ℕ) (path : Visit) (xs : List Placed) → Each (Item Good) xs
        → ((e : Placed) → Item Good e → AreMoved (visits_from to left (map moved path) (moved e)) (visits_from from left path e))
        → AreMoved (flat_map (visits_from to left (map moved path)) (map moved xs)) (flat_map (visits_from from left path) xs)
    flat_alike left path [] g same = (refl, tt)
    flat_alike left path (x ∷ xs) g same =
        let head = same x g.0 in
        let rest = flat_alike left path xs g.1 same in (
          (λ i. head.0 i ++ rest.0 i) ∙ sym (map-append (map moved) (visits_from from left path x) (flat_map (visits_from from left path) xs)),
          each_append (Each Good) (visits_from from left path x) (flat_map (visits_from from left path) xs) head.1 rest.1,
        )

    onward_alike : (left : ℕ) (above : Visit) (root : Placed) → Item Good root → (b : Bool)
        → ((e : Placed) → Item Good e → AreMoved (visits_from to left (map moved (root ∷ above)) (moved e)) (visits_from from left (root ∷ above) e))
        → AreMoved (onward to left (map moved above) (moved root) b) (onward from left above root b)
    onward_alike left above root g true same = (refl, tt)
    onward_alike left above root g false same =
        let inner = inner_alike (from root) (m.stays root g) in
        let rest = flat_alike left (root ∷ above) (items_in (from root)) inner.1 same in (
          ap (λ ps. flat_map (visits_from to left (map moved (root ∷ above))) (items_in ps)) (m.same root g)
              ∙ ap (λ xs. flat_map (visits_from to left (map moved (root ∷ above))) xs) inner.0 ∙ rest.0,
          rest.1,
        )

    visits_alike : (left : ℕ) (above : Visit) (root : Placed) → Each Good above → Item Good root → AreMoved (visits_from to left (map moved above) (moved root)) (visits_from from left above root)
    visits_alike zero above root h g = (refl, tt)
    visits_alike (suc left) above root h g =
        let rest = onward_alike left above root g (is_cycle (root ∷ above)) (λ e k. visits_alike left (root ∷ above) e (g.0, h) k) in (
          ap (λ (vs : List Visit). map moved (root ∷ above) ∷ vs) (ap (onward to left (map moved above) (moved root)) (cycle_alike (root ∷ above) (g.0, h)) ∙ rest.0),
          ((g.0, h), rest.1),
        )

    abbrev moved_fault : Kind × Visit → Kind × Visit
    moved_fault found = (found.0, map moved found.1)

    fault_alike : (bounds : Bounds) (before : ℕ) (visit : Visit) → Each Good visit → fault_of bounds before (map moved visit) ≡ fault_of bounds before visit
    fault_alike bounds before visit g =
        λ i. cond (cycle_alike visit g i) (Some Cycle) (cond (nat_lt bounds.nested (length-map visit moved i)) (Some ItemsTooNested) (cond (nat_le bounds.visits before) (Some ItemsTooMany) None))

    first_alike : (bounds : Bounds) (before : ℕ) (visits : List Visit) → Each (Each Good) visits
        → first_fault bounds before (map (map moved) visits) ≡ option_map moved_fault (first_fault bounds before visits)
    first_alike bounds before [] g = refl
    first_alike bounds before (visit ∷ visits) g =
        (λ i. option_or (option_map (λ (kind : Kind). (kind, map moved visit)) (fault_alike bounds before visit g.0 i)) (first_alike bounds (suc before) visits g.1 i)) ∙ by (fault_of bounds before visit) (first_fault bounds (suc before) visits)
      where
        by : (o : Option Kind) (more : Option (Kind × Visit))
            → option_or (option_map (λ (kind : Kind). (kind, map moved visit)) o) (option_map moved_fault more)
            ≡ option_map moved_fault (option_or (option_map (λ (kind : Kind). (kind, visit)) o) more)
        by None more = refl
        by (Some kind) more = refl

    abbrev picked : Option (Kind × Visit) → Data → Outcome
    picked o value = elim o as (λ found. Outcome) [ None ↦ Given value | Some found ↦ refused found.0 found.1 ]

    refused_alike : (kind : Kind) (visit : Visit) → refused kind (map moved visit) ≡ refused kind visit
    refused_alike kind [] = refl
    refused_alike kind (root ∷ above) = refl

    picked_alike : (o : Option (Kind × Visit)) (d : Data) → picked (option_map moved_fault o) d ≡ picked o d
    picked_alike None d = refl
    picked_alike (Some found) d = refused_alike found.0 found.1

    pub outcome_alike : (bounds : Bounds) (base : Chars) (items : List Placed) → Each (Item Good) items
        → outcome_by to bounds base (map moved items) ≡ outcome_by from bounds base items
    outcome_alike bounds base items g =
        let visits = flat_alike (suc bounds.nested) [] items g (λ e k. visits_alike (suc bounds.nested) [] e tt k) in
        let found = ap (first_fault bounds 0) visits.0 ∙ first_alike bounds 0 (visits_by from bounds items) visits.1 in
        (λ i. picked (found i) ((json_alike base bounds.nested items g) i)) ∙ picked_alike (first_fault bounds 0 (visits_by from bounds items)) (json_by from base bounds.nested items)
