-- What the text of a page's items is.
use Rattle.std.specs.Prelude.{◌≡◌, ℕ, List, Result, Ok, Err}
use Rattle.rx_rdfa.specs.Common.{Chars, Tree, Stop}
use Rattle.rx_grammar.specs.declared.stops.Stop.TheVariants as stop
use Rattle.rx_microdata.specs.Base.{base_in}
use Rattle.rx_microdata.specs.Json.{Refused, outcome}
use Rattle.rx_microdata.specs.Visits.{standard_bounds}
use Rattle.rx_items.specs.Held.{HoldsRows}
use Rattle.rx_items.specs.Rows.{rows_of}
use Rattle.rx_items.specs.declared.kept.Kept.{Kept}
use Rattle.rx_page.specs.Texts.{JsonText}

-- these are the items of a tree that was read from an address
abbrev pub AreItems : Chars → Tree → Kept → Type 0
AreItems address tree kept = HoldsRows kept (rows_of tree) (base_in address tree)

-- the text, or the fault of an item
abbrev pub JsonTextGives : {V : Type 0} → (V → List ℕ) → Chars → Tree → Result V Stop → Type 0
JsonTextGives bytes address tree (Ok text) = JsonText address tree (bytes text)
JsonTextGives bytes address tree (Err (stop.Fault fault)) = outcome standard_bounds address tree ≡ Refused fault
JsonTextGives bytes address tree (Err stop.NoMemory) = Unit {0}
