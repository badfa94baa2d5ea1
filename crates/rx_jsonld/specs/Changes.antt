-- What a call changes: values of a list, events of a text, places under keys.
use Rattle.std.specs.Prelude.{◌≡◌, ℕ, List, ◌∷◌, None, Result, OnOk}
use Rattle.serde.specs.Event.{Log, field_key}
use Rattle.serde.specs.declared.name.Case.TheVariants.{AsIs}
use Rattle.serde_json.specs.Data.{Data, Members, no_members}
use Rattle.rx_model.specs.Terms.{Triple}
use Rattle.rx_shapes.specs.declared.shapes.Shape.{Shape}
use Rattle.rx_json.specs.Events.{Grows, data_events, each_events}
use Rattle.rx_jsonld.specs.Members.{with_last}
use Rattle.rx_jsonld.specs.Groups.{Gathered, Group, grouped, places_under, value_at}
use Rattle.rx_jsonld.specs.Places.{with_places}

-- the members for which the places stand became what this makes of them
abbrev pub Regroups : List (Triple ℕ) → (ℕ → Shape) → (Members → Members) → List Group → List Group → Type 0
Regroups list shapes by old new = grouped list shapes new ≡ by (grouped list shapes old)

-- the members for which the places under their keys stand are those that the places give
abbrev pub AreGroups : List (Triple ℕ) → (ℕ → Shape) → List ℕ → List Group → Type 0
AreGroups list shapes places groups = grouped list shapes groups ≡ with_places list shapes places no_members

-- a call by which the members became what this makes of them, whatever the shapes
abbrev pub Files : {E : Type 0} → Result (Unit {0}) E → (List (Triple ℕ) → (ℕ → Shape) → Members → Members) → List (Triple ℕ) → Gathered → Gathered → Type 0
Files result by list old new = (shapes : ℕ → Shape) → OnOk result (Regroups list shapes (by list shapes) old.entries new.entries)

-- a call by which a key got a place at its end, whatever the graph and the shapes
abbrev pub FilesUnder : {E : Type 0} → Result (Unit {0}) E → List ℕ → ℕ → Gathered → Gathered → Type 0
FilesUnder result key place old new = (list : List (Triple ℕ)) → Files result (λ triples shapes. with_last key (value_at triples shapes place)) list old new

-- the same of a key that had no place
abbrev pub StartsUnder : {E : Type 0} → Result (Unit {0}) E → List ℕ → ℕ → Gathered → Gathered → Type 0
StartsUnder result key place old new =
    (list : List (Triple ℕ)) (shapes : ℕ → Shape)
    → OnOk result (places_under old key ≡ None → Regroups list shapes (with_last key (value_at list shapes place)) old.entries new.entries)

-- the events got a value at their end
abbrev pub Writes : Data → Log → Log → Type 0
Writes value old new = Grows old new (data_events value)

-- they got a key with a value at their end
abbrev pub WritesUnder : List ℕ → Data → Log → Log → Type 0
WritesUnder key value old new = Grows old new (field_key key AsIs ∷ data_events value)

-- they got values in a row at their end
abbrev pub WritesEach : List Data → Log → Log → Type 0
WritesEach values old new = Grows old new (each_events values)
