-- What was answered comes again: a fault, and want of memory.
use Rattle.std.specs.Prelude.{◌≡◌, ◌⊎◌, Bool, true, false, Option, Some, None, Result, Ok, Err}
use Rattle.rx_grammar.specs.declared.faults.Fault.{Fault}
use Rattle.rx_grammar.specs.declared.stops.Stop.{Stop}
use Rattle.rx_grammar.specs.declared.stops.Stop.TheVariants as stop

-- after this nothing else is answered
abbrev pub FallsBy : Stop → Option Fault → Bool → Type 0
FallsBy (stop.Fault fault) failed out_of_memory = (failed ≡ Some fault) × (out_of_memory ≡ false)
FallsBy stop.NoMemory failed out_of_memory = out_of_memory ≡ true

-- what was answered, once this is
abbrev pub Answered : {A : Type 0} → Result A Stop → Option Fault → Bool → Type 0
Answered (Ok done) failed out_of_memory = (failed ≡ None) × (out_of_memory ≡ false)
Answered (Err why) failed out_of_memory = FallsBy why failed out_of_memory

-- It is answered only where neither a fault nor want of memory was; a fault comes again, and want of memory.
abbrev pub MayAnswer : {A : Type 0} → Option Fault → Bool → Result A Stop → Type 0
MayAnswer failed out_of_memory (Ok done) = (failed ≡ None) × (out_of_memory ≡ false)
MayAnswer failed out_of_memory (Err (stop.Fault fault)) = (out_of_memory ≡ false) × ((failed ≡ None) ⊎ (failed ≡ Some fault))
MayAnswer failed out_of_memory (Err stop.NoMemory) = (out_of_memory ≡ true) ⊎ (failed ≡ None)
