-- A list's value has no number, the keys of its objects rise, so that each stands once, and it nests six levels deep at most.
use Rattle.rx_jsonld.proofs.Common.{◌≡◌, ◌∙◌, ℕ, false, List, [], ◌∷◌, map, filter, bytes_eq, codes, Option, Some, None, Ordering, Less, Equal, Greater, nat_cmp, refl, sym, ap, suc, ◌≤◌, arith, not, is_eq, slice_cmp, Chars, Data, number, array, Items, no_items, item, Members, no_members, member, depth, items_depth, members_depth, items_of, Kind, Plain, Tagged, Typed, Node, Blank, Term, Resource, Literal, Triple, rdf_first, Shape, about, object_at, first_cell, cells_at, string_of, id_text, literal_members, term_value, list_value, item_by, item_value, is_empty_list, plain_value, type_of, object_by, said_by, with_all, node_value, tops, jsonld, items_and, value_appended, with_last, ValuesAreFlat, keys, KeysDiffer}
use Rattle.rx_terms.proofs.Common.{match_ordering, by_test, is_eq-slice_cmp}
use Rattle.rx_json.specs.Plain.{PrecedesMembers, IsPlain, ArePlain, MembersArePlain}
use Rattle.rx_json.proofs.PlainLemmas.{turned, leads_one, leads_through, no_float}

-- ---- keys that rise

leads_apart : (key : List ℕ) (ms : Members) → PrecedesMembers key ms → filter (λ other. not (bytes_eq key other)) (keys ms) ≡ keys ms
leads_apart key no_members l = refl
leads_apart key (member other value more) l =
    let apart : bytes_eq key other ≡ false = sym (is_eq-slice_cmp key other) ∙ ap is_eq l.0 in
    rw apart (ap (λ (ks : List (List ℕ)). other ∷ ks) (leads_apart key more l.1))

pub rising_differ : (ms : Members) → MembersArePlain ms → KeysDiffer ms
rising_differ no_members p = refl
rising_differ (member key value more) p =
    ap (λ (ks : List (List ℕ)). key ∷ filter (λ other. not (bytes_eq key other)) ks) (rising_differ more p.2)
    ∙ ap (λ (ks : List (List ℕ)). key ∷ ks) (leads_apart key more p.1)

-- ---- the value

-- plain, and no deeper than this
abbrev Fits : ℕ → Data → Type 0
Fits n d = IsPlain d × (depth d ≤ n)

abbrev ItemsFit : ℕ → Items → Type 0
ItemsFit n ds = ArePlain ds × (items_depth ds ≤ n)

abbrev MembersFit : ℕ → Members → Type 0
MembersFit n ms = MembersArePlain ms × (members_depth ms ≤ n)

items_and_fit : (n : ℕ) (values : Items) (value : Data) → ItemsFit n values → Fits n value → ItemsFit n (items_and values value)
items_and_fit n no_items value p q = ((q.0, tt), omega (arith, q.1))
items_and_fit n (item first values) value p q =
    let more = items_and_fit n values value (p.0.1, omega (arith, p.1)) q in
    ((p.0.0, more.0), omega (arith, p.1, more.1))

behind_fits : (n : ℕ) (value values : Data) → Fits n value → Fits (suc n) values → Fits (suc n) (value_appended value values)
behind_fits n value (number m) p q = absurd q.0
behind_fits n value (array values) p q = let all = items_and_fit n values value (q.0, omega (arith, q.1)) p in (all.0, omega (arith, all.1))
behind_fits n value _ p q = ((p.0, tt), omega (arith, p.1))

leads_last : (before key : List ℕ) (value : Data) (members : Members) → slice_cmp nat_cmp before key ≡ Less → PrecedesMembers before members → PrecedesMembers before (with_last key value members)
leads_last before key value no_members c l = (c, tt)
leads_last before key value (member first values more) c l =
    leads_one before (slice_cmp nat_cmp key first) (member key (array (item value no_items)) (member first values more)) (member first (value_appended value values) more) (member first values (with_last key value more))
    (c, (l.0, l.1)) (l.0, l.1) (l.0, leads_last before key value more c l.1)

with_last_fit : (n : ℕ) (key : List ℕ) (value : Data) (members : Members) → Fits n value → MembersFit (suc n) members → MembersFit (suc n) (with_last key value members)
with_last_fit n key value no_members v p = (((v.0, tt), tt, tt), omega (arith, v.1))
with_last_fit n key value (member first values more) v p = by (with_last_fit n key value more v (p.0.2, omega (arith, p.1))) (slice_cmp nat_cmp key first) refl
  where
    by : MembersFit (suc n) (with_last key value more) → (o : Ordering) → slice_cmp nat_cmp key first ≡ o
        → MembersFit (suc n) (match_ordering o (member key (array (item value no_items)) (member first values more)) (member first (value_appended value values) more) (member first values (with_last key value more)))
    by ih Less c = (((v.0, tt), (c, leads_through key first more c p.0.1), p.0), omega (arith, v.1, p.1))
    by ih Equal c = let b = behind_fits n value values v (p.0.0, omega (arith, p.1)) in ((b.0, p.0.1, p.0.2), omega (arith, p.1, b.1))
    by ih Greater c = ((p.0.0, leads_last first key value more (turned key first Greater c) p.0.1, ih.0), omega (arith, p.1, ih.1))

literal_fits : (text : Chars) (kind : Kind) → MembersFit 0 (literal_members text kind)
literal_fits text Plain = ((tt, tt, tt), omega arith)
literal_fits text (Tagged tag) = ((tt, (refl, tt), (tt, tt, tt)), omega arith)
literal_fits text (Typed datatype) = ((tt, (refl, tt), (tt, tt, tt)), omega arith)

term_fits : (o : Term ℕ) → Fits 1 (term_value o)
term_fits (Resource node) = ((tt, tt, tt), omega arith)
term_fits (Literal text kind) = let fits = literal_fits text kind in (fits.0, omega (arith, fits.1))

all_fit : {A : Type 0} (n : ℕ) (f : A → Data) → ((a : A) → Fits n (f a)) → (list : List A) → ItemsFit n (items_of (map f list))
all_fit n f h [] = (tt, omega arith)
all_fit n f h (a ∷ list) = let more = all_fit n f h list in (((h a).0, more.0), omega (arith, (h a).1, more.1))

module _ (list : List (Triple ℕ)) (shapes : ℕ → Shape) where
  item_fits : (o : Option (Term ℕ)) → Fits 1 (item_by o)
  item_fits (Some o) = term_fits o
  item_fits None = (tt, omega arith)

  list_fits : (cells : List ℕ) → Fits 3 (list_value (map (item_value list) cells))
  list_fits cells = let all = all_fit 1 (item_value list) (λ b. item_fits (object_at list (Blank b) rdf_first)) cells in ((all.0, tt, tt), omega (arith, all.1))

  plain_fits : (predicate : Chars) (o : Term ℕ) → Fits 3 (plain_value predicate o)
  plain_fits predicate o =
      let fits = term_fits o in
      by_test (is_empty_list predicate o) (λ e. rw e (list_fits [])) (λ e. rw e (fits.0, omega (arith, fits.1)))

  object_fits : (t : Triple ℕ) (o : Option ℕ) → Fits 3 (object_by list shapes t o)
  object_fits t (Some b) = list_fits (cells_at shapes list t)
  object_fits t None = plain_fits t.predicate t.object

  said_fit : (t : Triple ℕ) (o : Option (Node ℕ)) (members : Members) → MembersFit 4 members → MembersFit 4 (said_by list shapes t o members)
  said_fit t (Some node) members h = with_last_fit 3 (codes "@type") (string_of (id_text node)) members (tt, omega arith) h
  said_fit t None members h = with_last_fit 3 _ _ members (object_fits t (first_cell shapes t)) h

  all_said_fit : (ts : List (Triple ℕ)) (members : Members) → MembersFit 4 members → MembersFit 4 (with_all list shapes ts members)
  all_said_fit [] ms h = h
  all_said_fit (t ∷ ts) ms h = all_said_fit ts _ (said_fit t (type_of t) ms h)

  pub id_said_fit : (subject : Node ℕ) → MembersFit 4 (with_all list shapes (about list subject) (member (codes "@id") (string_of (id_text subject)) no_members))
  id_said_fit subject = all_said_fit (about list subject) (member (codes "@id") (string_of (id_text subject)) no_members) ((tt, tt, tt), omega arith)

  node_fits : (subject : Node ℕ) → Fits 5 (node_value list shapes subject)
  node_fits subject = let all = id_said_fit subject in (all.0, omega (arith, all.1))

  value_fits : Fits 6 (jsonld list shapes)
  value_fits = let all = all_fit 5 (node_value list shapes) node_fits (tops list shapes) in (all.0, omega (arith, all.1))

  pub value_plain : IsPlain (jsonld list shapes)
  value_plain = value_fits.0

  pub value_flat : depth (jsonld list shapes) ≤ 6
  value_flat = value_fits.1

pub values_are_flat : ValuesAreFlat
values_are_flat = record { levels = λ list shapes. value_flat list shapes; no_float = λ list shapes. no_float (jsonld list shapes) (value_plain list shapes) }
