-- How text with references is read, one character at a time.
use Rattle.std.specs.Prelude.{ℕ, Bool, true, false, ◌==◌, [], ◌∷◌, ◌++◌, Option, Some, None, Result, Ok, Err, if◌then◌else◌}
use Rattle.rx_grammar.specs.Common.{ampersand, Chars, Syntax, Html, Xhtml, is_plain, value_char}
use Rattle.rx_grammar.specs.declared.faults.Kind.{Kind}
use Rattle.rx_grammar.specs.declared.faults.Kind.TheVariants.{StrictText, UnknownReference, BadReference}
use Rattle.rx_reader.specs.declared.phases.RunPhase.{RunPhase}
use Rattle.rx_reader.specs.declared.phases.RunPhase.TheVariants as run
use Rattle.rx_reader.specs.declared.phases.RunMove.{RunMove}
use Rattle.rx_reader.specs.declared.phases.RunMove.TheVariants.{Goes, Closes, Stops}
use Rattle.rx_reader.specs.Tables.{run_move}

-- A value so far: what is known of it, and the run after an `&` that may become a reference.
pub record PartialValue : Type 0 where
  pub phase : RunPhase
  pub known : Chars
  pub run : Chars

abbrev pub no_value_yet : PartialValue
no_value_yet = record { phase = run.Plain; known = []; run = [] }

abbrev pub known_as : Chars → PartialValue
known_as text = record { phase = run.Plain; known = text; run = [] }

-- the fault of a reference that stands for nothing
abbrev pub no_meaning : RunPhase → Kind
no_meaning run.Named = UnknownReference
no_meaning _ = BadReference

abbrev pub plain_step : Syntax → Chars → ℕ → Result PartialValue Kind
plain_step syntax known c =
    if c == ampersand then Ok (record { phase = run.Ampersand; known = known; run = [] })
    else if is_plain syntax c then Ok (known_as (known ++ value_char syntax c ∷ []))
    else Err StrictText

abbrev pub meant : PartialValue → Option ℕ → Result PartialValue Kind
meant value (Some c) = Ok (known_as (value.known ++ c ∷ []))
meant value None = Err (no_meaning value.phase)

-- the run was text
abbrev pub stopped : Syntax → PartialValue → ℕ → Result PartialValue Kind
stopped Html value c = plain_step Html (value.known ++ ampersand ∷ value.run) c
stopped Xhtml value c = Err StrictText

abbrev pub run_step : Syntax → (Chars → Option ℕ) → PartialValue → ℕ → RunMove → Result PartialValue Kind
run_step syntax means value c (Goes p) = Ok (record { phase = p; known = value.known; run = value.run ++ c ∷ [] })
run_step syntax means value c Closes = meant value (means value.run)
run_step syntax means value c Stops = stopped syntax value c

abbrev pub is_run : RunPhase → Bool
is_run run.Plain = false
is_run _ = true

-- one more character of a value
abbrev pub value_step : Syntax → (Chars → Option ℕ) → PartialValue → ℕ → Result PartialValue Kind
value_step syntax means value c =
    if is_run value.phase then run_step syntax means value c (run_move value.phase c) else plain_step syntax value.known c

abbrev pub run_end : Syntax → PartialValue → Result Chars Kind
run_end Html value = Ok (value.known ++ ampersand ∷ value.run)
run_end Xhtml value = Err StrictText

-- the value, where it ends
abbrev pub value_end : Syntax → PartialValue → Result Chars Kind
value_end syntax value = if is_run value.phase then run_end syntax value else Ok value.known

abbrev pub step_on : Syntax → (Chars → Option ℕ) → Result PartialValue Kind → ℕ → Result PartialValue Kind
step_on syntax means (Ok value) c = value_step syntax means value c
step_on syntax means (Err kind) c = Err kind

abbrev pub value_on : Syntax → (Chars → Option ℕ) → Result PartialValue Kind → Chars → Result PartialValue Kind
value_on syntax means reached [] = reached
value_on syntax means reached (c ∷ text) = value_on syntax means (step_on syntax means reached c) text

abbrev pub finished_value : Syntax → Result PartialValue Kind → Result Chars Kind
finished_value syntax (Ok value) = value_end syntax value
finished_value syntax (Err kind) = Err kind

-- the value that this text denotes, or the fault that stands in it first
abbrev pub value_read : Syntax → (Chars → Option ℕ) → Chars → Result Chars Kind
value_read syntax means text = finished_value syntax (value_on syntax means (Ok no_value_yet) text)
