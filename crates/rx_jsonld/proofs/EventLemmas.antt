-- The events of lists, of values in a row, of literals, and of what a triple says.
use Rattle.rx_jsonld.proofs.Common.{◌≡◌, ◌∙◌, ◌+◌, ◌<◌, ◌≤◌, ℕ, Bool, true, if◌then◌else◌, List, [], ◌∷◌, ◌++◌, length, map, drop, drop_of_length-le, get_or, codes, encode_utf8_all, Option, Some, None, refl, sym, ap, append_assoc, append-nil, OnOk, Result, Ok, Err, AsIs, Data, Grows, data_events, each_events, members_events, both, told_as, each_items, cut, Chars, Kind, Tagged, Typed, Node, Triple, Shape, IsWritable, value_by, value_said, chain, first_cell, numbers_from, item_value, list_from, list_value, literal_members, node_value, object_by, object_value, plain_value, type_of}
use Rattle.serde.specs.Event as event
use Rattle.serde.specs.Event.{Event, Log}

abbrev list_begun : List Event
list_begun = event.map_begins None ∷ event.field_key (codes "@list") AsIs ∷ event.seq_begins None ∷ []

abbrev list_ended : List Event
list_ended = event.seq_ends ∷ event.map_ends ∷ []

last_ends : (es : List Event) → es ++ list_ended ≡ ((es ++ event.seq_ends ∷ []) ++ []) ++ event.map_ends ∷ []
last_ends es = sym (ap (λ us. us ++ event.map_ends ∷ []) (append-nil (es ++ event.seq_ends ∷ [])) ∙ append_assoc es (event.seq_ends ∷ []) (event.map_ends ∷ []))

pub list_made : {old begun each new : Log} (ds : List Data) → Grows old begun list_begun → Grows begun each (each_events ds) → Grows each new list_ended → Grows old new (data_events (list_value ds))
list_made ds b g e =
    told_as (list_begun ++ (each_events ds ++ list_ended)) (data_events (list_value ds))
    (ap (λ es. list_begun ++ es) (last_ends (each_events ds))
    ∙ ap (λ es. list_begun ++ (((es ++ event.seq_ends ∷ []) ++ []) ++ event.map_ends ∷ [])) (sym (each_items ds)))
    (both b (both g e))

-- what is so of a list whose terms are written as they are
pub of_writable : {X E : Type 0} (list : List (Triple ℕ)) (old new : Log) (value : Data) (r : Result X E) → (IsWritable list → OnOk r (Grows old new (data_events value)))
    → OnOk r (IsWritable list → Grows old new (data_events value))
of_writable list old new value (Ok x) all = all
of_writable list old new value (Err e) all = tt

-- ---- values in a row

pub cells_turn : {A : Type 0} (f : ℕ → Data) (g : A → ℕ) (xs : List A) (i : ℕ) (x : A) → i < length xs
    → data_events (f (g (get_or xs i x))) ++ each_events (map f (map g (drop (i + 1) xs))) ≡ each_events (map f (map g (drop i xs)))
cells_turn {A} f g xs i x lt = sym (ap (λ (ys : List A). each_events (map f (map g ys))) (cut xs i x lt))

pub cells_end : {A : Type 0} (f : ℕ → Data) (g : A → ℕ) (xs : List A) (i : ℕ) → length xs ≤ i → each_events (map f (map g (drop i xs))) ≡ []
cells_end {A} f g xs i done = ap (λ (ys : List A). each_events (map f (map g ys))) (drop_of_length-le xs done)

-- ---- literals

abbrev named : List ℕ → List ℕ → List Event
named name text = event.field_key name AsIs ∷ event.text text ∷ []

pub tagged_told : {old between new : Log} (text tag : Chars) (kind : Kind) (a b : List ℕ) → kind ≡ Tagged tag → a ≡ encode_utf8_all tag → b ≡ encode_utf8_all text
    → Grows old between (named (codes "@language") a) → Grows between new (named (codes "@value") b) → Grows old new (members_events (literal_members text kind))
tagged_told text tag kind a b k p q g h =
    told_as (named (codes "@language") a ++ named (codes "@value") b) (members_events (literal_members text kind))
    ((λ i. named (codes "@language") (p i) ++ named (codes "@value") (q i)) ∙ sym (ap (λ (x : Kind). members_events (literal_members text x)) k)) (both g h)

pub typed_told : {old between new : Log} (text datatype : Chars) (kind : Kind) (a b : List ℕ) → kind ≡ Typed datatype → a ≡ encode_utf8_all datatype → b ≡ encode_utf8_all text
    → Grows old between (named (codes "@type") a) → Grows between new (named (codes "@value") b) → Grows old new (members_events (literal_members text kind))
typed_told text datatype kind a b k p q g h =
    told_as (named (codes "@type") a ++ named (codes "@value") b) (members_events (literal_members text kind))
    ((λ i. named (codes "@type") (p i) ++ named (codes "@value") (q i)) ∙ sym (ap (λ (x : Kind). members_events (literal_members text x)) k)) (both g h)

-- ---- the value that a triple puts under its key

module _ (list : List (Triple ℕ)) (shapes : ℕ → Shape) (t : Triple ℕ) where
  abbrev object_of : Option ℕ → Option ℕ → Data
  object_of None cells = plain_value t.predicate t.object
  object_of (Some b) cells = list_value (map (item_value list) (numbers_from (chain list (length list)) cells))

  -- its object begins a list
  pub first_told : (b : ℕ) → Some b ≡ first_cell shapes t → list_from list b ≡ object_value list shapes t
  first_told b is = ap (λ (o : Option ℕ). object_of o o) is ∙ by (first_cell shapes t)
    where
      by : (o : Option ℕ) → object_of o (first_cell shapes t) ≡ object_by list shapes t o
      by None = refl
      by (Some c) = refl

  -- it gives no type
  pub object_told : None ≡ type_of t → object_value list shapes t ≡ value_said list shapes t
  object_told is = ap (λ (o : Option (Node ℕ)). value_by list shapes t o) is

module _ (list : List (Triple ℕ)) (shapes : ℕ → Shape) where
  abbrev node_if : Node ℕ → Bool → List Data
  node_if subject b = if b then node_value list shapes subject ∷ [] else []

  -- a node object is written at the place where its subject comes first
  pub node_told : (subject : Node ℕ) (begins : Bool) → begins ≡ true → data_events (node_value list shapes subject) ≡ each_events (node_if subject begins)
  node_told subject begins is = sym (append-nil (data_events (node_value list shapes subject))) ∙ ap (λ (b : Bool). each_events (node_if subject b)) (sym is)
