-- A text on its way to a sink: what waits to be sent, and what the sink has told so far.
use Rattle.std.specs.Prelude.{◌≡◌, ℕ, ◌≤◌, Bool, true, false, List, [], ◌++◌, Option}
use Rattle.rx_ports.specs.Counts.{Rose}
use Rattle.rx_ports.specs.Shelves.{WhereKnown, GrowsBy, GrowsByPart}

-- what a sink tells to hold has grown by these bytes
abbrev pub Sends : List ℕ → Option (List ℕ) → Option (List ℕ) → Type 0
Sends bytes old new = WhereKnown (GrowsBy bytes) old new

-- it has grown by a proper front of them
abbrev pub SendsPart : List ℕ → Option (List ℕ) → Option (List ℕ) → Type 0
SendsPart bytes old new = WhereKnown (GrowsByPart bytes) old new

-- bytes that wait to be sent, and whether the sink failed, which is given nothing more then
pub record Underway : Type 0 where
  pub waiting : List ℕ
  pub failed : Bool

-- with what the sink tells to hold, and its count of faults
pub record Delivery : Type 0 where
  pub underway : Underway
  pub held : Option (List ℕ)
  pub faults : ℕ

abbrev pub delivery : Underway → Option (List ℕ) → ℕ → Delivery
delivery underway held faults = record { underway = underway; held = held; faults = faults }

-- nothing waits, and the sink did or didn't fail
abbrev pub nothing_waits : Bool → Underway
nothing_waits failed = record { waiting = []; failed = failed }

abbrev pub keeps : Underway → List ℕ → Underway
keeps underway bytes = record { waiting = underway.waiting ++ bytes; failed = underway.failed }

-- the sink holds all of the text but what waits; where it failed, a proper front of the text
abbrev pub SentBut : Bool → List ℕ → List ℕ → List ℕ → List ℕ → Type 0
SentBut true waiting text old new = GrowsByPart text old new
SentBut false waiting text old new = (sent : List ℕ) × (new ≡ old ++ sent) × (text ≡ sent ++ waiting)

-- so much of a text was handed over, since the sink told to hold `start` and its count of faults was `before`
pub record IsHandedOver (start : Option (List ℕ)) (before : ℕ) (text : List ℕ) (now : Delivery) : Type 0 where
  pub told : WhereKnown (SentBut now.underway.failed now.underway.waiting text) start now.held
  pub later : before ≤ now.faults
  pub steady : now.underway.failed ≡ false → now.faults ≡ before
  pub cause : now.underway.failed ≡ true → Rose before now.faults

-- the bytes were handed over, whatever was before
pub record AddsBytes (old new : Delivery) (bytes : List ℕ) : Type 0 where
  pub stands : (start : Option (List ℕ)) (before : ℕ) (text : List ℕ) → IsHandedOver start before text old → IsHandedOver start before (text ++ bytes) new

-- a call handed the bytes over: `out` and `sink` became the next ones, where a sink tells what it holds, and its count of faults
abbrev pub PushesBytes : {S : Type 0} → (S → Option (List ℕ)) → (S → ℕ) → Underway → S → Underway → S → List ℕ → Type 0
PushesBytes held faults out sink next_out next_sink bytes =
    AddsBytes (delivery out (held sink) (faults sink)) (delivery next_out (held next_sink) (faults next_sink)) bytes
