-- The events of an item and of a page, part by part.
use Rattle.rx_items.proofs.Common.{take_all, Chars, flat_map, slice_get, OnOk, Result, Ok, Err, Data, array, object, item, Items, Members, no_members, member, Grows, data_events, members_events, each_events, resolved, MicrodataFacts, said, Placed, is_item, is_top_level, string_of, array_items, with_id, with_types, item_of, grouped_members, property_pairs, json_of_item, properties_in, AllStand, OfRows, data_of, name_keys, key_seen, keys_seen, opening, ending_events, events_behind, value_behind, value_if, value_at, grouped_at, page_data, top_data}
use Rattle.std.proofs.Common.{◌≡◌, ◌∙◌, ◌+◌, ◌-◌, ◌<◌, ◌≤◌, ℕ, zero, suc, Bool, true, false, true≢false, encode_utf8_all, List, [], ◌∷◌, ◌++◌, map, filter, length, take, drop, drop_of_length-le, get_or, codes, Option, Some, None, refl, sym, ap, arith, append_assoc, append-nil, ◌==◌}
use Rattle.serde.specs.Event as event
use Rattle.serde.specs.Event.{Event, Log, Logs}
use Rattle.serde.specs.declared.name.Case.TheVariants.{AsIs}
use Rattle.serde_json.specs.View.{items_of}
use Rattle.rx_json.proofs.GrowLemmas.{one, none, both, told_as, each_more, object_made, array_made, cut, row_turn}
use Rattle.rx_items.specs.declared.kept.Kept.{Kept}
use Rattle.rx_items.specs.declared.named.Named.{Named}
use Rattle.rx_items.proofs.NameLemmas.{keys_grouped}
use Rattle.rx_items.proofs.PageLemmas.{all_data}
use Rattle.rx_items.proofs.TakeLemmas.{flat_more}

pub same_list : (ds : List Data) → items_of ds ≡ array_items ds
same_list [] = refl
same_list (d ∷ ds) = ap (item d) (same_list ds)

-- ---- an item

id_first : (base : Chars) (id : Option Chars) (more : Members) → members_events (with_id base id more) ≡ members_events (with_id base id no_members) ++ members_events more
id_first base None more = refl
id_first base (Some reference) more = refl

-- behind the mark of the object: the id, the name of the properties, these, and the types
pub item_made : {old begun first keyed group last new : Log} (base : Chars) (root : MicrodataFacts) (pairs : List (Chars × Data)) (ms : Members) → Logs old begun (event.map_begins None)
    → Grows begun first (members_events (with_id base root.item_id no_members)) → Logs first keyed (event.field_key (codes "properties") AsIs)
    → Grows keyed group (data_events (object ms)) → ms ≡ grouped_members pairs → Grows group last (members_events (with_types root.types no_members)) → Logs last new event.map_ends
    → Grows old new (data_events (item_of base root pairs))
item_made {old} {begun} {first} {keyed} {group} {last} {new} base root pairs ms b i k g is t e =
    let types = members_events (with_types root.types no_members) in
    let props = data_events (object (grouped_members pairs)) in
    let more : Members = member (codes "properties") (object (grouped_members pairs)) (with_types root.types no_members) in
    let told : Grows keyed group props = told_as (data_events (object ms)) props (ap (λ (m : Members). data_events (object m)) is) g in
    let inside = both i (both (one first keyed (event.field_key (codes "properties") AsIs) k) (both told t)) in
    object_made ((members_events (with_id base root.item_id no_members)) ++ event.field_key (codes "properties") AsIs ∷ (props ++ types)) (with_id base root.item_id more) (sym (id_first base root.item_id more)) b inside e

-- an item that is not too deep
pub item_told : {old begun first keyed group last new : Log} (rows : List Placed) (base own : Chars) (left : ℕ) (root : Placed) → (left ≡ 0 → ⊥) → AllStand rows (properties_in rows root)
    → own ≡ base → Logs old begun (event.map_begins None) → Grows begun first (members_events (with_id own root.facts.item_id no_members)) → Logs first keyed (event.field_key (codes "properties") AsIs)
    → Grows keyed group (data_events (object (grouped_at rows base (left - 1) (name_keys (properties_in rows root)))))
    → Grows group last (members_events (with_types root.facts.types no_members)) → Logs last new event.map_ends → Grows old new (data_events (json_of_item (properties_in rows) base left root))
item_told {old} {begun} {first} {keyed} {group} {last} {new} rows base own left root some stand same b i k g t e =
    let next : left ≡ suc (left - 1) = by left some in
    let id : Grows begun first (members_events (with_id base root.facts.item_id no_members)) = told_as (members_events (with_id own root.facts.item_id no_members)) _ (ap (λ (o : Chars). members_events (with_id o root.facts.item_id no_members)) same) i in
    told_as (data_events (json_of_item (properties_in rows) base (suc (left - 1)) root)) (data_events (json_of_item (properties_in rows) base left root))
    (ap (λ (m : ℕ). data_events (json_of_item (properties_in rows) base m root)) (sym next))
    (item_made base root.facts (flat_map (λ (e : Placed). property_pairs e (data_of rows base [] (left - 1) e)) (properties_in rows root))
    (grouped_at rows base (left - 1) (name_keys (properties_in rows root))) b id k g
    (keys_grouped rows base (left - 1) (properties_in rows root) stand) t e)
  where
    by : (n : ℕ) → (n ≡ 0 → ⊥) → n ≡ suc (n - 1)
    by zero some = absurd (some refl)
    by (suc n) some = omega arith

-- ---- types

-- where there are some
types_told : (texts : List Chars) → (length texts ≡ 0 → ⊥) → event.field_key (codes "type") AsIs ∷ data_events (array (items_of (map string_of texts))) ≡ members_events (with_types texts no_members)
types_told [] some = absurd (some refl)
types_told (text ∷ texts) some =
    ap (λ (is : Items). event.field_key (codes "type") AsIs ∷ data_events (array is)) (same_list (map string_of (text ∷ texts)))
    ∙ ap (λ us. event.field_key (codes "type") AsIs ∷ us) (sym (append-nil (data_events (array (array_items (map string_of (text ∷ texts)))))))

pub several_made : {old begun each new : Log} (keyed : Log) (texts : List Chars) → (length texts ≡ 0 → ⊥) → Logs old keyed (event.field_key (codes "type") AsIs) → Logs keyed begun (event.seq_begins None)
    → Grows begun each (each_events (map string_of texts)) → Logs each new event.seq_ends → Grows old new (members_events (with_types texts no_members))
several_made {old} {begun} {each} {new} keyed texts some k b g e =
    told_as (event.field_key (codes "type") AsIs ∷ data_events (array (items_of (map string_of texts)))) (members_events (with_types texts no_members)) (types_told texts some)
    (both (one old keyed (event.field_key (codes "type") AsIs) k) (array_made (map string_of texts) b g e))

-- ---- a value

module _ (rows : List Placed) (base : Chars) (left place : ℕ) where
  pub value_none : slice_get rows place ≡ None → event.nothing ∷ [] ≡ data_events (value_at rows base left place)
  value_none row = sym (ap (λ (o : Option Placed). data_events (value_if rows base left o)) row)

  abbrev value_when : Placed → Bool → Data
  value_when e b = elim b as (λ item. Data) [ true ↦ json_of_item (properties_in rows) base left e | false ↦ string_of (said base e.facts.value) ]

  pub value_item : (e : Placed) → slice_get rows place ≡ Some e → is_item e ≡ true → json_of_item (properties_in rows) base left e ≡ value_at rows base left place
  value_item e row is = sym (ap (value_if rows base left) row ∙ ap (value_when e) is)

  pub value_plain : (e : Placed) → slice_get rows place ≡ Some e → is_item e ≡ false → string_of (said base e.facts.value) ≡ value_at rows base left place
  value_plain e row is = sym (ap (value_if rows base left) row ∙ ap (value_when e) is)

pub data_told : {old new : Log} (d e : Data) → d ≡ e → Grows old new (data_events d) → Grows old new (data_events e)
data_told d e same is = told_as (data_events d) (data_events e) (ap data_events same) is

-- ---- a page

pub page_made : {old opened each new : Log} (begun keyed closed : Log) (ds : List Data) → Logs old begun (event.map_begins None) → Logs begun keyed (event.field_key (codes "items") AsIs) → Logs keyed opened (event.seq_begins None)
    → Grows opened each (each_events ds) → Logs each closed event.seq_ends → Logs closed new event.map_ends → Grows old new (data_events (object (member (codes "items") (array (array_items ds)) no_members)))
page_made {old} {opened} {each} {new} begun keyed closed ds b k o g c e =
    object_made (event.field_key (codes "items") AsIs ∷ data_events (array (items_of ds))) (member (codes "items") (array (array_items ds)) no_members)
    (ap (λ (is : Items). event.field_key (codes "items") AsIs ∷ data_events (array is)) (same_list ds) ∙ ap (λ us. event.field_key (codes "items") AsIs ∷ us) (sym (append-nil (data_events (array (array_items ds))))))
    b (both (one begun keyed (event.field_key (codes "items") AsIs) k) (array_made ds o g c)) e

module _ (rows : List Placed) (base : Chars) where
  abbrev data_when : Placed → Bool → List Data
  data_when e b = elim b as (λ top. List Data) [ true ↦ json_of_item (properties_in rows) base 40 e ∷ [] | false ↦ [] ]

  pub top_nothing : (e : Placed) (log : Log) → is_top_level e ≡ false → Grows log log (each_events (top_data rows base e))
  top_nothing e log plain = told_as [] (each_events (top_data rows base e)) (ap (λ b. each_events (data_when e b)) (sym plain)) (none log)

  pub top_told : {old new : Log} (e : Placed) → is_top_level e ≡ true → Grows old new (data_events (json_of_item (properties_in rows) base 40 e)) → Grows old new (each_events (top_data rows base e))
  top_told e top g =
      told_as (data_events (json_of_item (properties_in rows) base 40 e)) (each_events (top_data rows base e))
      (sym (append-nil (data_events (json_of_item (properties_in rows) base 40 e))) ∙ ap (λ b. each_events (data_when e b)) (sym top)) g

  pub tops_on : {start old new : Log} (i : ℕ) (e : Placed) → i < length rows → e ≡ get_or rows i e → Grows start old (each_events (flat_map (top_data rows base) (take i rows)))
      → Grows old new (each_events (top_data rows base e)) → Grows start new (each_events (flat_map (top_data rows base) (take (i + 1) rows)))
  tops_on i e lt is was turn =
      told_as (each_events (flat_map (top_data rows base) (take i rows)) ++ each_events (top_data rows base e)) (each_events (flat_map (top_data rows base) (take (i + 1) rows)))
      (sym (each_more (flat_map (top_data rows base) (take i rows)) (top_data rows base e)) ∙ ap each_events (sym (flat_more (top_data rows base) rows i e lt is))) (both was turn)

  pub tops_told : {start new : Log} (i : ℕ) → length rows ≤ i → Grows start new (each_events (flat_map (top_data rows base) (take i rows)))
      → Grows start new (each_events (map (json_of_item (properties_in rows) base 40) (filter is_top_level rows)))
  tops_told i over g =
      told_as (each_events (flat_map (top_data rows base) (take i rows))) (each_events (map (json_of_item (properties_in rows) base 40) (filter is_top_level rows)))
      (ap (λ (ps : List Placed). each_events (flat_map (top_data rows base) ps)) (take_all i rows over) ∙ ap each_events (all_data rows base)) g

-- ---- texts

pub text_told : {old new : Log} (text : List ℕ) (chars : Chars) → text ≡ encode_utf8_all chars → Logs old new (event.text text) → Grows old new (data_events (string_of chars))
text_told {old} {new} text chars same l = told_as (event.text text ∷ []) (data_events (string_of chars)) (ap (λ (t : List ℕ). event.text t ∷ []) same) (one old new (event.text text) l)

-- texts in a row: one more is written
pub text_turn : (texts : List Chars) (i : ℕ) (text other : Chars) → i < length texts → text ≡ get_or texts i other → data_events (string_of text) ++ each_events (map string_of (drop (i + 1) texts)) ≡ each_events (map string_of (drop i texts))
text_turn texts i text other lt is =
    ap (λ (t : Chars). data_events (string_of t) ++ each_events (map string_of (drop (i + 1) texts))) is ∙ row_turn string_of texts i other lt

pub not_none : {X : Type 0} (xs : List X) (empty : Bool) → empty ≡ (length xs == 0) → empty ≡ false → length xs ≡ 0 → ⊥
not_none xs empty is full none = true≢false (sym (is ∙ ap (λ n. n == 0) none) ∙ full)

-- ---- the members of an item's properties

module _ (rows : List Placed) (base : Chars) (left : ℕ) (list : List Named) (i : ℕ) where
  -- one more is written
  pub member_turn : (d : Named) (before : Option (List ℕ)) → i < length list
      → value_behind rows base left before (key_seen (get_or list i d)) ++ events_behind rows base left (Some (get_or list i d).name.now) (keys_seen (drop (i + 1) list)) ≡ events_behind rows base left before (keys_seen (drop i list))
  member_turn d before lt =
      append_assoc (opening before (get_or list i d).name.now) (data_events (value_at rows base left (get_or list i d).place)) _
      ∙ sym (ap (λ (l : List Named). events_behind rows base left before (keys_seen l)) (cut list i d lt))

  -- none is left
  pub member_end : (before : Option (List ℕ)) → length list ≤ i → ending_events before ≡ events_behind rows base left before (keys_seen (drop i list))
  member_end before over = sym (ap (λ (l : List Named). events_behind rows base left before (keys_seen l)) (drop_of_length-le list over))

-- ---- what is so of whatever rows are held

pub of_all : {X E : Type 0} (kept : Kept) (old new : Log) (r : Result X E) → OfRows kept (λ rows base. OnOk r (Grows old new (data_events (page_data rows base))))
    → OnOk r (OfRows kept (λ rows base. Grows old new (data_events (page_data rows base))))
of_all kept old new (Ok x) all = all
of_all kept old new (Err e) all = tt

-- ---- an id

pub id_told : {old property_pairs new : Log} (base : Chars) (text token : Chars) → text ≡ token → Logs old property_pairs (event.field_key (codes "id") AsIs) → Grows property_pairs new (data_events (string_of (resolved base text)))
    → Grows old new (members_events (with_id base (Some token) no_members))
id_told {old} {property_pairs} {new} base text token same k g =
    told_as (event.field_key (codes "id") AsIs ∷ data_events (string_of (resolved base text))) (members_events (with_id base (Some token) no_members))
    (ap (λ (t : Chars). event.field_key (codes "id") AsIs ∷ data_events (string_of (resolved base t))) same) (both (one old property_pairs (event.field_key (codes "id") AsIs) k) g)
