-- The JSON of items: texts in lists and objects whose names rise, nested no deeper than the items allow. So its compact text is read back.
use Rattle.rx_items.proofs.Common.{◌≡◌, ◌≤◌, ◌+◌, ◌*◌, ℕ, zero, suc, Bool, true, false, List, [], ◌∷◌, map, refl, subst, arith, Option, Some, None, Ordering, Less, Equal, Greater, nat_cmp, slice_cmp, Chars, codes, filter, flat_map, encode_utf8_all, Data, Members, null, number, array, object, no_members, member, depth, items_depth, members_depth, Kind, MicrodataFacts, said, Placed, is_item, names_of, is_top_level, properties, Bounds, Visit, standard_bounds, visits_by, first_fault, string_of, array_items, onto, with_member, grouped_members, with_types, with_id, item_of, property_pairs, json_of_item, json_by, Outcome, Given, refused, outcome_of}
use Rattle.std.specs.Ordering.{match_ordering}
use Rattle.rx_json.specs.Plain.{PrecedesMembers, IsPlain, ArePlain, MembersArePlain}
use Rattle.rx_json.proofs.PlainLemmas.{turned, leads_one, leads_through}
use Rattle.rx_json.proofs.ReadLemmas.{read_back}
use Rattle.rx_items.specs.JsonLaws.{JsonNests, JsonIsReadBack}
use Rattle.rx_items.proofs.Alike.{Each, each_append}

-- without numbers, with names that rise, and nested no deeper than this
abbrev Sound : ℕ → Data → Type 0
Sound n value = IsPlain value × (depth value ≤ n)

abbrev AreSound : ℕ → Members → Type 0
AreSound n members = MembersArePlain members × (members_depth members ≤ n)

texts_sound : (texts : List Chars) → ArePlain (array_items (map string_of texts)) × (items_depth (array_items (map string_of texts)) ≤ 0)
texts_sound [] = (tt, omega arith)
texts_sound (text ∷ texts) = let rest = texts_sound texts in ((tt, rest.0), omega (arith, rest.1))

onto_sound : (n : ℕ) (value values : Data) → Sound n value → Sound (suc n) values → Sound (suc n) (onto value values)
onto_sound n value (array values) v vs = ((v.0, vs.0), omega (arith, v.1, vs.1))
onto_sound n value (number x) v vs = absurd vs.0
onto_sound n value _ v vs = ((v.0, tt), omega (arith, v.1))

leads_added : (before name : List ℕ) (value : Data) (members : Members) → slice_cmp nat_cmp before name ≡ Less → PrecedesMembers before members → PrecedesMembers before (with_member name value members)
leads_added before name value no_members c l = (c, tt)
leads_added before name value (member first values more) c l =
    leads_one before (slice_cmp nat_cmp name first) (member name (onto value null) (member first values more)) (member first (onto value values) more) (member first values (with_member name value more))
    (c, (l.0, l.1)) (l.0, l.1) (l.0, leads_added before name value more c l.1)

added : (n : ℕ) (name : List ℕ) (value : Data) (members : Members) → Sound n value → AreSound (suc n) members → AreSound (suc n) (with_member name value members)
added n name value no_members v ms = let fresh = onto_sound n value null v (tt, omega arith) in ((fresh.0, tt, tt), omega (arith, fresh.1))
added n name value (member first values more) v ms = by (added n name value more v ((ms.0).2, omega (arith, ms.1))) (slice_cmp nat_cmp name first) refl
  where
    fresh : Sound (suc n) (onto value null)
    fresh = onto_sound n value null v (tt, omega arith)

    longer : Sound (suc n) (onto value values)
    longer = onto_sound n value values v ((ms.0).0, omega (arith, ms.1))

    by : AreSound (suc n) (with_member name value more) → (o : Ordering) → slice_cmp nat_cmp name first ≡ o
        → AreSound (suc n) (match_ordering o (member name (onto value null) (member first values more)) (member first (onto value values) more) (member first values (with_member name value more)))
    by ih Less c = ((fresh.0, (c, leads_through name first more c (ms.0).1), ms.0), omega (arith, fresh.1, ms.1))
    by ih Equal c = ((longer.0, (ms.0).1, (ms.0).2), omega (arith, longer.1, ms.1))
    by ih Greater c = (((ms.0).0, leads_added first name value more (turned name first Greater c) (ms.0).1, ih.0), omega (arith, ms.1, ih.1))

-- a name with such a value
abbrev HasSound : ℕ → Chars × Data → Type 0
HasSound n pair = Sound n pair.1

grouped_sound : (n : ℕ) (pairs : List (Chars × Data)) → Each (HasSound n) pairs → AreSound (suc n) (grouped_members pairs)
grouped_sound n [] p = (tt, omega arith)
grouped_sound n (pair ∷ pairs) p = added n (encode_utf8_all pair.0) pair.1 (grouped_members pairs) p.0 (grouped_sound n pairs p.1)

types_sound : (n : ℕ) (types : List Chars) → AreSound (suc n) (with_types types no_members)
types_sound n [] = (tt, omega arith)
types_sound n (name ∷ types) = let texts = texts_sound (name ∷ types) in ((texts.0, tt, tt), omega (arith, texts.1))

leads_types : (name : List ℕ) (types : List Chars) → slice_cmp nat_cmp name (codes "type") ≡ Less → PrecedesMembers name (with_types types no_members)
leads_types name [] c = tt
leads_types name (first ∷ types) c = (c, tt)

item_sound : (n : ℕ) (base : Chars) (root : MicrodataFacts) (pairs : List (Chars × Data)) → Each (HasSound n) pairs → Sound (n + 3) (item_of base root pairs)
item_sound n base root pairs p = by root.item_id (grouped_sound n pairs p) (types_sound n root.types)
  where
    by : (id : Option Chars) → AreSound (suc n) (grouped_members pairs) → AreSound (suc n) (with_types root.types no_members)
        → Sound (n + 3) (object (with_id base id (member (codes "properties") (object (grouped_members pairs)) (with_types root.types no_members))))
    by None group types = ((group.0, leads_types (codes "properties") root.types refl, types.0), omega (arith, group.1, types.1))
    by (Some id) group types =
        ((tt, (refl, leads_types (codes "id") root.types refl), (group.0, leads_types (codes "properties") root.types refl, types.0)), omega (arith, group.1, types.1))

abbrev pub both : Chars → Data → Chars × Data
both name value = (name, value)

named_sound : (n : ℕ) (names : List Chars) (value : Data) → Sound n value → Each (HasSound n) (map (λ name. both name value) names)
named_sound n [] value v = tt
named_sound n (name ∷ names) value v = (v, named_sound n names value v)

module _ (of_each : Placed → List Placed) (base : Chars) where
  abbrev value_in : ℕ → Placed → Data
  value_in left e = elim (is_item e) as (λ nested. Data) [
    | true ↦ json_of_item of_each base left e
    | false ↦ string_of (said base e.facts.value)
  ]

  pairs_sound : (left n : ℕ) → ((root : Placed) → Sound n (json_of_item of_each base left root)) → (es : List Placed) → Each (HasSound n) (flat_map (λ e. property_pairs e (value_in left e)) es)
  pairs_sound left n items [] = tt
  pairs_sound left n items (e ∷ es) =
      each_append (HasSound n) (property_pairs e (value_in left e)) (flat_map (λ e. property_pairs e (value_in left e)) es) (named_sound n (names_of e) (value_in left e) (by (is_item e))) (pairs_sound left n items es)
    where
      by : (b : Bool) → Sound n (elim b as (λ nested. Data) [ true ↦ json_of_item of_each base left e | false ↦ string_of (said base e.facts.value) ])
      by true = items e
      by false = (tt, omega arith)

  each_sound : (left : ℕ) (root : Placed) → Sound (left * 3) (json_of_item of_each base left root)
  each_sound zero root = (tt, omega arith)
  each_sound (suc left) root =
      let item = item_sound (left * 3) base root.facts (flat_map (λ e. property_pairs e (value_in left e)) (of_each root)) (pairs_sound left (left * 3) (λ r. each_sound left r) (of_each root)) in
      (item.0, omega (arith, item.1))

  all_sound : (left : ℕ) (items : List Placed) → ArePlain (array_items (map (json_of_item of_each base left) items)) × (items_depth (array_items (map (json_of_item of_each base left) items)) ≤ left * 3)
  all_sound left [] = (tt, omega arith)
  all_sound left (e ∷ items) = let one = each_sound left e in let rest = all_sound left items in ((one.0, rest.0), omega (arith, one.1, rest.1))

  pub json_sound : (left : ℕ) (items : List Placed) → Sound (left * 3 + 2) (json_by of_each base left items)
  json_sound left items = let all = all_sound left items in ((all.0, tt, tt), omega (arith, all.1))

-- ---- the value that is given is the JSON

not_given : (kind : Kind) (visit : Visit) (value : Data) → refused kind visit ≡ Given value → ⊥
not_given kind [] value e = cc
not_given kind (root ∷ above) value e = cc

given_sound : (bounds : Bounds) (page : List Placed) (base : Chars) (value : Data) → outcome_of bounds page base ≡ Given value → Sound (bounds.nested * 3 + 2) value
given_sound bounds page base value e = by (first_fault bounds 0 (visits_by (properties page) bounds (filter is_top_level page))) e
  where
    whole : Data
    whole = json_by (properties page) base bounds.nested (filter is_top_level page)

    by : (x : Option (Kind × Visit)) → elim x as (λ found. Outcome) [ None ↦ Given whole | Some found ↦ refused found.0 found.1 ] ≡ Given value → Sound (bounds.nested * 3 + 2) value
    by None k =
        let same : whole ≡ value = (cc) in
        subst (Sound (bounds.nested * 3 + 2)) same (json_sound (properties page) base bounds.nested (filter is_top_level page))
    by (Some found) k = absurd (not_given found.0 found.1 value k)

pub json_nests : JsonNests
json_nests page base value e = (given_sound standard_bounds page base value e).1

pub json_is_read_back : JsonIsReadBack
json_is_read_back page base value e = let s = given_sound standard_bounds page base value e in read_back value s.0 (omega (arith, s.1))
