-- The numbers of answers, which are those that the command ends with, and 8.
use Rattle.std.specs.Prelude.{ℕ, Result, Ok, Err}
use Rattle.rx_session.specs.declared.errors.OpenError.{OpenError}
use Rattle.rx_session.specs.declared.errors.OpenError.TheVariants as open_error
use Rattle.rx_session.specs.declared.errors.SessionError.{SessionError}
use Rattle.rx_session.specs.declared.errors.SessionError.TheVariants as error
use Rattle.rx_session.specs.declared.sessions.State.{State}
use Rattle.rx_session.specs.declared.sessions.State.TheVariants as state

-- a piece was taken, or the text is there; the page has a fault; the page was finished before; there was no memory
abbrev pub answer_code : Result (Unit {0}) SessionError → ℕ
answer_code (Ok done) = 0
answer_code (Err (error.Refused fault)) = 1
answer_code (Err error.Finished) = 2
answer_code (Err error.NoMemory) = 5

abbrev pub open_code : OpenError → ℕ
open_code open_error.Usage = 2
open_code open_error.BadContext = 6
open_code open_error.NoMemory = 5

-- the page is being read; its text is there; it has a fault; there was no memory
abbrev pub state_code : State → ℕ
state_code (state.Reads work) = 8
state_code (state.Gave given) = 0
state_code (state.Refused fault) = 1
state_code state.Spent = 5
