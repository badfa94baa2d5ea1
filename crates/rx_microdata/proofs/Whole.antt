-- Where no visit is faulty the JSON is whole.
use Rattle.rx_terms.proofs.Common.{nat_le, not, ◌&&◌, ◌==◌, ◌≡◌, ℕ, zero, suc, ◌+◌, nat_lt, Bool, true, false, cond, codes, List, [], ◌∷◌, ◌++◌, map, filter, flat_map, length, Contains, Option, Some, None, list_any, refl, sym, ap, subst, ◌∙◌, lt-ltb, none-some, Chars, inl, inr, arith}
use Rattle.std.specs.Option.{option_or, option_map}
use Rattle.serde_json.specs.Data.{Data, object, member, array, no_members}
use Rattle.rx_grammar.specs.declared.faults.Kind.{Kind}
use Rattle.rx_grammar.specs.declared.faults.Kind.TheVariants.{Cycle, ItemsTooNested, ItemsTooMany}
use Rattle.rx_microdata.specs.Elements.{Placed, is_item, names_of, is_top_level}
use Rattle.rx_microdata.specs.Properties.{is_any, properties, is_property, starts_of, reaches}
use Rattle.rx_microdata.specs.Facts.{said}
use Rattle.rx_microdata.specs.Visits.{Visit, Bounds, is_cycle, items_in, visits_from, visits_to, fault_of, first_fault}
use Rattle.rx_microdata.specs.Json.{json_of_item, item_of, property_pairs, array_items}
use Rattle.rx_microdata.specs.VisitLaws.{JsonIsWhole}
use Rattle.rx_microdata.proofs.Lists.{none, first, later, first_or_later, kept, keeps, of_one, and_parts, contradiction}
use Rattle.rx_microdata.proofs.VisitsAre.{goes_on}
use Rattle.rx_json.specs.Plain.{string_of}

flat_map_same : {X Y : Type 0} (f g : X → List Y) (xs : List X) → ((z : X) → Contains xs z → f z ≡ g z) → flat_map f xs ≡ flat_map g xs
flat_map_same f g [] h = refl
flat_map_same f g (x ∷ xs) h =
    let e = h x (first x xs) in
    let rest = flat_map_same f g xs (λ z l. h z (later x z xs l)) in
    λ i. e i ++ rest i

map_same : {X Y : Type 0} (f g : X → Y) (xs : List X) → ((z : X) → Contains xs z → f z ≡ g z) → map f xs ≡ map g xs
map_same f g [] h = refl
map_same f g (x ∷ xs) h =
    let e = h x (first x xs) in
    let rest = map_same f g xs (λ z l. h z (later x z xs l)) in
    λ i. e i ∷ rest i

-- a visit that is neither a cycle nor too deep
abbrev Sound : Bounds → Visit → Type 0
Sound bounds visit = (is_cycle visit ≡ false) × (nat_lt bounds.nested (length visit) ≡ false)

sound_by : (bounds : Bounds) (before : ℕ) (visit : Visit) (c d : Bool) → is_cycle visit ≡ c → nat_lt bounds.nested (length visit) ≡ d
    → cond c (Some Cycle) (cond d (Some ItemsTooNested) (cond (nat_le bounds.visits before) (Some ItemsTooMany) None)) ≡ None → Sound bounds visit
sound_by bounds before visit true d e g h = absurd (none-some Cycle (sym h))
sound_by bounds before visit false true e g h = absurd (none-some ItemsTooNested (sym h))
sound_by bounds before visit false false e g h = (e, g)

none_first : {X Y : Type 0} (f : X → Y) (a : Option X) (b : Option Y) → option_or (option_map f a) b ≡ None → a ≡ None
none_first f None b h = refl
none_first f (Some x) b h = absurd (none-some (f x) (sym h))

none_second : {X : Type 0} (a b : Option X) → option_or a b ≡ None → b ≡ None
none_second None b h = h
none_second (Some x) b h = absurd (none-some x (sym h))

all_sound : (bounds : Bounds) (before : ℕ) (visits : List Visit) → first_fault bounds before visits ≡ None → (visit : Visit) → Contains visits visit → Sound bounds visit
all_sound bounds before [] h visit l = none visit l
all_sound bounds before (v ∷ visits) h visit l =
    let o : Option (Kind × Visit) = option_map (λ (fault : Kind). (fault, v)) (fault_of bounds before v) in
    elim (first_or_later v visit visits l) as (λ _. Sound bounds visit) [
      | inl same ↦
          subst (Sound bounds) same
          (sound_by bounds before v (is_cycle v) (nat_lt bounds.nested (length v)) refl refl
          (none_first (λ (fault : Kind). (fault, v)) (fault_of bounds before v) (first_fault bounds (suc before) visits) h))
      | inr r ↦ all_sound bounds (suc before) visits (none_second o (first_fault bounds (suc before) visits) h) visit r
    ]

has_name : (names : List Chars) (e : Placed) → is_any names ≡ true → Contains (map (λ (name : Chars). e) names) e
has_name [] e h = contradiction false h refl
has_name (name ∷ names) e h = first e (map (λ (n : Chars). e) names)

module _ (page : List Placed) (base : Chars) (bounds : Bounds) (more : ℕ) where
  in_item : (root e : Placed) → Contains (properties page root) e → is_item e ≡ true → Contains (items_in (properties page root)) e
  in_item root e h i =
      let w = kept (is_property page root (starts_of page root)) page e h in
      let all = and_parts (not (root.place == e.place) && is_any (names_of e)) (list_any (reaches page e) (starts_of page root)) w.1 in
      let n = (and_parts (not (root.place == e.place)) (is_any (names_of e)) all.0).1 in
      of_one (λ x. map (λ name. x) (names_of x)) (filter is_item (properties page root)) e e (keeps is_item (properties page root) e h i) (has_name (names_of e) e n)

  abbrev valued : Bool → ℕ → Placed → Data
  valued b left e = elim b as (λ nested. Data) [ true ↦ json_of_item (properties page) base left e | false ↦ string_of (said base e.facts.value) ]

  value_same : (b : Bool) (left : ℕ) (e : Placed) → (b ≡ true → json_of_item (properties page) base left e ≡ json_of_item (properties page) base (left + more) e) → valued b left e ≡ valued b (left + more) e
  value_same true left e f = f refl
  value_same false left e f = refl

  item_same : (left : ℕ) (above : Visit) (root : Placed) → left + length above ≡ bounds.nested
      → ((v : Visit) → Contains (visits_from (properties page) (suc left) above root) v → Sound bounds v)
      → json_of_item (properties page) base left root ≡ json_of_item (properties page) base (left + more) root
  item_same zero above root d sound =
      let deep = (sound (root ∷ above) (first (root ∷ above) _)).1 in
      contradiction (nat_lt bounds.nested (length (root ∷ above))) (lt-ltb bounds.nested (length (root ∷ above)) (omega arith)) deep
  item_same (suc left) above root d sound =
      let calm = (sound (root ∷ above) (first (root ∷ above) _)).0 in
      let s : suc left + more ≡ suc (left + more) = omega arith in
      let below : (e : Placed) → Contains (properties page root) e → is_item e ≡ true → json_of_item (properties page) base left e ≡ json_of_item (properties page) base (left + more) e = λ e held i.
      item_same left (root ∷ above) e (omega arith) (λ v h.
      sound v (later (root ∷ above) v _ (goes_on page (suc left) root e above (is_cycle (root ∷ above)) calm (in_item root e held i) v h))) in
      let same : json_of_item (properties page) base (suc left) root ≡ json_of_item (properties page) base (suc (left + more)) root =
      ap (item_of base root.facts) (flat_map_same (λ e. property_pairs e (valued (is_item e) left e)) (λ e. property_pairs e (valued (is_item e) (left + more) e)) (properties page root)
      (λ e held. ap (property_pairs e) (value_same (is_item e) left e (below e held)))) in
      same ∙ sym (ap (λ n. json_of_item (properties page) base n root) s)

pub whole : JsonIsWhole
whole page base bounds more h =
    let sound = all_sound bounds 0 (visits_to page bounds) h in
    ap (λ values. object (member (codes "items") (array (array_items values)) no_members))
    (map_same (json_of_item (properties page) base bounds.nested) (json_of_item (properties page) base (bounds.nested + more)) (filter is_top_level page)
    (λ root held. item_same page base bounds more bounds.nested [] root (omega arith)
    (λ v l. sound v (of_one (visits_from (properties page) (suc bounds.nested) []) (filter is_top_level page) root v held l))))
