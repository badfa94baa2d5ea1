-- What a listener makes of a page's signs.
use Rattle.std.specs.Prelude.{◌≡◌, Bool, true, false, List, ◌++◌, Option, Some, Result, Ok, Err}
use Rattle.rx_grammar.specs.declared.faults.Fault.{Fault}
use Rattle.rx_grammar.specs.declared.stops.Stop.{Stop}
use Rattle.rx_grammar.specs.declared.stops.Stop.TheVariants as stop
use Rattle.rx_nest.specs.declared.nests.Event.{Event}
use Rattle.rx_nest.specs.declared.nests.Event.TheVariants as event
use Rattle.rx_nest.specs.Signs.{Sign}
use Rattle.rx_nest.specs.Fronts.{IsFront}
use Rattle.rx_nest.specs.Ways.{Way}

-- the listener stands for some signs, and these may come next
pub record MayHear {S L : Type 0} (way : S → Way) (knows : S → L → List Sign → Type 0) (listener : L) (more : List Sign) : Type 0 where
  pub setting : S
  pub signs : List Sign
  pub known : knows setting listener signs
  pub front : IsFront (way setting).limits.depth (signs ++ more)

-- it stands for these signs too, or one of their start tags is refused
abbrev pub Hears : {L : Type 0} → (List Sign → Option Fault) → (L → List Sign → Type 0) → List Sign → List Sign → Result (Unit {0}) Stop → L → Type 0
Hears refused knows signs more (Ok done) new = knows new (signs ++ more)
Hears refused knows signs more (Err (stop.Fault fault)) new = refused (signs ++ more) ≡ Some fault
Hears refused knows signs more (Err stop.NoMemory) new = Unit {0}

-- no element begins or ends
abbrev pub is_calm : Event → Bool
is_calm event.More = true
is_calm event.Skipped = true
is_calm (event.Text text) = true
is_calm (event.Begin t) = false
is_calm event.Finish = false

-- What a listener hears behind the signs for which it stands, whatever they are and whatever it was made with.
abbrev pub HearsMore : {S L : Type 0} → (S → Way) → (S → L → List Sign → Type 0) → L → List Sign → Result (Unit {0}) Stop → L → Type 0
HearsMore {S} way knows old more result new =
    (setting : S) (signs : List Sign) → knows setting old signs → IsFront (way setting).limits.depth (signs ++ more)
    → Hears (way setting).refused (knows setting) signs more result new
