-- What was answered comes again: a fault, and want of memory.
use Rattle.std.specs.Prelude.{◌≡◌, Bool, true, false, ◌||◌, Option, Some, None, is_some, Result, Ok, Err}
use Rattle.rx_grammar.specs.declared.faults.Fault.{Fault}
use Rattle.rx_grammar.specs.declared.stops.Stop.{Stop}
use Rattle.rx_grammar.specs.declared.stops.Stop.TheVariants as stop

-- the fault that was answered, and want of memory
pub record Latched : Type 0 where
  pub failed : Option Fault
  pub out_of_memory : Bool

-- what was answered, if anything was
abbrev pub latched : Option Stop → Latched
latched None = record { failed = None; out_of_memory = false }
latched (Some (stop.Fault fault)) = record { failed = Some fault; out_of_memory = false }
latched (Some stop.NoMemory) = record { failed = None; out_of_memory = true }

abbrev pub nothing_answered : Latched
nothing_answered = latched None

-- this is answered from now on
abbrev pub latched_by : Stop → Latched
latched_by why = latched (Some why)

abbrev pub has_answered : Latched → Bool
has_answered l = is_some l.failed || l.out_of_memory

abbrev pub Repeats : Latched → Result (Unit {0}) Stop → Type 0
Repeats l (Ok done) = (l.failed ≡ None) × (l.out_of_memory ≡ false)
Repeats l (Err (stop.Fault fault)) = (l.out_of_memory ≡ false) × (l.failed ≡ Some fault)
Repeats l (Err stop.NoMemory) = l.out_of_memory ≡ true
