-- What a value of JSON is for serde: one event after another.
use Rattle.std.specs.Prelude.{◌≡◌, List, [], ◌∷◌, ◌++◌, Some, None}
use Rattle.serde.specs.Event as event
use Rattle.serde.specs.Event.{Event, Log}
use Rattle.serde.specs.declared.name.Case.TheVariants.{AsIs}
use Rattle.serde_json.specs.Events.{number_event}
use Rattle.serde_json.specs.Data.{Data, null, boolean, number, string, array, object, Items, no_items, item, Members, no_members, member}

abbrev mutual
  pub data_events : Data → List Event
  data_events null = event.nothing ∷ []
  data_events (boolean b) = event.boolean b ∷ []
  data_events (number n) = number_event n ∷ []
  data_events (string s) = event.text s ∷ []
  data_events (array ds) = event.seq_begins None ∷ (items_events ds ++ event.seq_ends ∷ [])
  data_events (object ms) = event.map_begins None ∷ (members_events ms ++ event.map_ends ∷ [])

  -- without the marks around them
  pub items_events : Items → List Event
  items_events no_items = []
  items_events (item d ds) = data_events d ++ items_events ds

  pub members_events : Members → List Event
  members_events no_members = []
  members_events (member k d ms) = event.field_key k AsIs ∷ (data_events d ++ members_events ms)

-- values in a row
abbrev pub each_events : List Data → List Event
each_events [] = []
each_events (d ∷ ds) = data_events d ++ each_events ds

-- where the events so far are known, these come behind them
abbrev pub Grows : Log → Log → List Event → Type 0
Grows old new more = (before : List Event) → old ≡ Some before → new ≡ Some (before ++ more)

-- what writes so from the start tells this value
abbrev pub TellsValue : (Log → Log → Type 0) → Data → Type 0
TellsValue writes told = (log : Log) → writes (Some []) log → log ≡ Some (data_events told)
