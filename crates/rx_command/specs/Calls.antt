-- What a call says of a shelf that may tell its files.
use Rattle.std.specs.Prelude.{◌≡◌, ◌⊎◌, ℕ, List, Option, Result, Ok, Err, IfOk, IsErrOf, encode_utf8_all}
use Rattle.rx_rdfa.specs.Common.{Chars, Fault, Context}
use Rattle.rx_ports.specs.Counts.{Rose}
use Rattle.rx_ports.specs.Shelves.{ShelfContent, WhereKnown, Lacks}
use Rattle.rx_command.specs.declared.errors.InputError.{InputError}
use Rattle.rx_command.specs.declared.errors.InputError.TheVariants as error
use Rattle.rx_job.specs.Words.{Task}
use Rattle.rx_nest.specs.Ways.{Way}
use Rattle.rx_command.specs.Reading.{ReadsClean}
use Rattle.rx_command.specs.Inputs.{PageText, PageRefused, TellsThat}
use Rattle.rx_page.specs.declared.outcomes.Outcome.{Outcome}

-- where the call gives something, the shelf moved so
abbrev pub MovesShelf :
    {A : Type 0} → Result A InputError → (A → ShelfContent → ShelfContent → Type 0) → Option ShelfContent → Option ShelfContent → Type 0
MovesShelf result step old new = IfOk result (λ given. WhereKnown (step given) old new)

-- where it refuses the page with a fault, the shelf moved so
abbrev pub RefusesBy :
    {A : Type 0} → Result A InputError → (Fault → ShelfContent → ShelfContent → Type 0) → Option ShelfContent → Option ShelfContent → Type 0
RefusesBy result step old new = (fault : Fault) → result ≡ Err (error.Refused fault) → WhereKnown (step fault) old new

-- where the call gives an outcome, the page of this name is there, and its text is what the task makes of it
abbrev pub GivesText : Result Outcome InputError → Task → Context → Chars → Option ShelfContent → Option ShelfContent → Type 0
GivesText result task context page old new = MovesShelf result (PageText task context (encode_utf8_all page)) old new

-- where it refuses the page, that is there, and has the fault
abbrev pub RefusesPage : Result Outcome InputError → Task → Context → Chars → Option ShelfContent → Option ShelfContent → Type 0
RefusesPage result task context page old new = RefusesBy result (PageRefused task context (encode_utf8_all page)) old new

-- where the call failed, what was read of the file holds no fault but that it ends
abbrev pub StopsBy : {A : Type 0} → Result A InputError → Way → List ℕ → Option ShelfContent → Option ShelfContent → Type 0
StopsBy result way name old new = IsErrOf result error.Failed → WhereKnown (ReadsClean way name) old new

-- the shelf failed, or tells its files, and this holds of them
abbrev pub FailedOr : {F : Type 0} → (F → Option ShelfContent) → (F → ℕ) → F → F → (ShelfContent → Type 0) → Type 0
FailedOr told faults old new lacks = Rose (faults old) (faults new) ⊎ TellsThat lacks (told old)

-- the shelf failed, or tells that this file is missing
abbrev pub FailedOrLacks : {F : Type 0} → (F → Option ShelfContent) → (F → ℕ) → F → F → List ℕ → Type 0
FailedOrLacks told faults old new name = Rose (faults old) (faults new) ⊎ Lacks (told old) name

-- unless the shelf failed, its count of faults stayed
abbrev pub SteadyBut : InputError → ℕ → ℕ → Type 0
SteadyBut error.Failed before now = Unit {0}
SteadyBut (error.Refused fault) before now = now ≡ before
SteadyBut error.BadContext before now = now ≡ before
SteadyBut error.NoMemory before now = now ≡ before

abbrev pub Steady : {A : Type 0} → Result A InputError → ℕ → ℕ → Type 0
Steady (Ok given) before now = now ≡ before
Steady (Err why) before now = SteadyBut why before now
