-- What reads a page in pieces, and what its calls answer.
use Rattle.std.specs.Prelude.{◌≡◌, ℕ, List, [], ◌++◌, length, None, Result, Ok, Err}
use Rattle.std.proofs.Common.{◌∙◌, ap, append-nil}
use Rattle.rx_grammar.specs.declared.stops.Stop.{Stop}
use Rattle.rx_grammar.specs.declared.stops.Stop.TheVariants as stop
use Rattle.rx_pages.specs.PageReader.{Progress, page_read}
use Rattle.rx_nest.specs.Faults.{StopGives}
use Rattle.rx_nest.specs.Nests as nests
use Rattle.rx_nest.specs.Nests.{Nested}
use Rattle.rx_nest.specs.Readings.{OwesNone}
use Rattle.rx_nest.specs.Signs.{Sign, Sight, sees, nothing_seen}
use Rattle.rx_nest.specs.Ways.{Way}
use Rattle.rx_page.specs.Settings.{HasFirst}

-- bytes that were read without a fault
pub record IsReadPage (way : Way) (bytes : List ℕ) : Type 0 where
  pub now : Progress
  pub read : page_read way.syntax way.limits bytes ≡ Ok now
  pub accepted : way.refused (sees nothing_seen now.told).signs ≡ None

pub shown_read : (way : Way) (bytes : List ℕ) (nest : Nested) (signs : List Sign) → nests.NestStands way.syntax way.limits nest bytes signs → OwesNone nest → way.refused signs ≡ None → IsReadPage way bytes
shown_read way bytes nest signs shown paid accepted =
    let signs_are : (sees nothing_seen shown.told).signs ≡ signs = ap (λ (x : Sight). x.signs) shown.sight ∙ (ap (λ x. signs ++ x) paid ∙ append-nil signs) in
    record { now = record { now = shown.at.now; told = shown.told }; read = shown.at.read; accepted = ap way.refused signs_are ∙ accepted }

-- a piece was taken, or one of its bytes decides a fault, whatever follows
abbrev pub PageFeedGives : {R : Type 0} → Way → (R → List ℕ → Type 0) → List ℕ → List ℕ → Result (Unit {0}) Stop → R → Type 0
PageFeedGives way stands bytes piece (Ok done) new = stands new (bytes ++ piece)
PageFeedGives way stands bytes piece (Err why) new = StopGives way (bytes ++ piece) why

-- that the bytes end here is their first fault, or there was no memory
abbrev pub EndStops : Way → List ℕ → Stop → Type 0
EndStops way bytes (stop.Fault fault) = HasFirst way bytes fault × (fault.at ≡ length bytes)
EndStops way bytes stop.NoMemory = Unit {0}

-- the bytes are a page that gives this, or they stop the reader
abbrev pub PageEndGives : {A : Type 0} → Way → (List ℕ → A → Type 0) → List ℕ → Result A Stop → Type 0
PageEndGives way gives bytes (Ok given) = gives bytes given
PageEndGives way gives bytes (Err why) = EndStops way bytes why

-- What a call does, whatever the reader was made with, and whatever bytes lead to where it stands.
module _ {S R : Type 0} (way : S → Way) (stands : S → R → List ℕ → Type 0) where
  abbrev pub Feeds : R → List ℕ → Result (Unit {0}) Stop → R → Type 0
  Feeds old piece result new = (setting : S) (bytes : List ℕ) → stands setting old bytes → PageFeedGives (way setting) (stands setting) bytes piece result new

  abbrev pub Finishes : {A : Type 0} → (S → List ℕ → A → Type 0) → R → Result A Stop → Type 0
  Finishes gives reader result = (setting : S) (bytes : List ℕ) → stands setting reader bytes → PageEndGives (way setting) (gives setting) bytes result
