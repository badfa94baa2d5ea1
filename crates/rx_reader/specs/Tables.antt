-- What each character does in a tag, and in a run that may become a reference.
use Rattle.std.specs.Prelude.{ℕ, Bool, true, false, ◌==◌, Option, Some, None, if◌then◌else◌}
use Rattle.rx_grammar.specs.Common.{quotation_mark, number_sign, apostrophe, solidus, semicolon, equals_sign, greater_than_sign, is_letter, is_digit, is_letter_or_digit, is_white_space, Syntax, Html, Xhtml, is_hexadecimal_digit, is_x}
use Rattle.rx_grammar.specs.Shapes.{begins_tag, is_tag_char, begins_attribute, continues_attribute}
use Rattle.rx_reader.specs.declared.phases.TagPhase.{TagPhase}
use Rattle.rx_reader.specs.declared.phases.TagPhase.TheVariants as phase
use Rattle.rx_reader.specs.declared.phases.TagAction.{TagAction}
use Rattle.rx_reader.specs.declared.phases.TagAction.TheVariants as action
use Rattle.rx_reader.specs.declared.phases.RunPhase.{RunPhase}
use Rattle.rx_reader.specs.declared.phases.RunPhase.TheVariants as run
use Rattle.rx_reader.specs.declared.phases.RunMove.{RunMove}
use Rattle.rx_reader.specs.declared.phases.RunMove.TheVariants.{Goes, Closes, Stops}

abbrev pub Move : Type 0
Move = Option (TagPhase × TagAction)

abbrev pub go : TagPhase → TagAction → Move
go phase action = Some (phase, action)

-- HTML has names without a value, values without quotes, and `/` anywhere between attributes.
abbrev pub is_html_syntax : Syntax → Bool
is_html_syntax Html = true
is_html_syntax Xhtml = false

abbrev pub only_in_html : Syntax → Move → Move
only_in_html syntax move = if is_html_syntax syntax then move else None

abbrev pub at_start : Syntax → ℕ → Move
at_start syntax c = if begins_tag syntax c then go phase.Name action.Name else if c == solidus then go phase.EndStart action.Skip else None

abbrev pub in_attribute_name : Syntax → ℕ → Move
in_attribute_name syntax c =
    if is_white_space c then go phase.Gap action.Skip else if c == solidus then go phase.Solidus action.Skip
    else if c == greater_than_sign then go phase.Opened action.Skip else if is_tag_char syntax c then go phase.Name action.Name else None

abbrev pub in_gap : Syntax → ℕ → Move
in_gap syntax c =
    if is_white_space c then go phase.Gap action.Skip else if c == solidus then go phase.Solidus action.Skip
    else if c == greater_than_sign then go phase.Opened action.Skip else if begins_attribute syntax c then go phase.Key action.Key else None

abbrev pub after_solidus : Syntax → ℕ → Move
after_solidus syntax c = if c == greater_than_sign then go phase.Emptied action.Skip else only_in_html syntax (in_gap syntax c)

abbrev pub in_key : Syntax → ℕ → Move
in_key syntax c =
    if is_white_space c then go phase.AfterKey action.Skip else if c == equals_sign then go phase.BeforeValue action.Skip
    else if c == solidus then only_in_html syntax (go phase.Solidus action.Add)
    else if c == greater_than_sign then only_in_html syntax (go phase.Opened action.Add)
    else if continues_attribute syntax c then go phase.Key action.Key else None

abbrev pub after_key : Syntax → ℕ → Move
after_key syntax c =
    if is_white_space c then go phase.AfterKey action.Skip else if c == equals_sign then go phase.BeforeValue action.Skip
    else only_in_html syntax
    (if c == solidus then go phase.Solidus action.Add else if c == greater_than_sign then go phase.Opened action.Add
    else if begins_attribute syntax c then go phase.Key action.AddKey else None)

abbrev pub before_value : Syntax → ℕ → Move
before_value syntax c =
    if is_white_space c then go phase.BeforeValue action.Skip else if c == quotation_mark then go phase.DoubleQuoted action.Skip
    else if c == apostrophe then go phase.SingleQuoted action.Skip else if c == greater_than_sign then None
    else only_in_html syntax (go phase.Unquoted action.Value)

abbrev pub in_unquoted : ℕ → Move
in_unquoted c =
    if is_white_space c then go phase.Gap action.Add else if c == greater_than_sign then go phase.Opened action.Add
    else go phase.Unquoted action.Value

abbrev pub after_value : Syntax → ℕ → Move
after_value syntax c =
    if is_white_space c then go phase.Gap action.Skip else if c == solidus then go phase.Solidus action.Skip
    else if c == greater_than_sign then go phase.Opened action.Skip
    else only_in_html syntax (if begins_attribute syntax c then go phase.Key action.Key else None)

abbrev pub in_end_name : Syntax → ℕ → Move
in_end_name syntax c =
    if is_white_space c then go phase.EndGap action.Skip else if c == greater_than_sign then go phase.Closed action.Skip
    else if is_tag_char syntax c then go phase.EndName action.Name else None

abbrev pub in_end_gap : ℕ → Move
in_end_gap c = if is_white_space c then go phase.EndGap action.Skip else if c == greater_than_sign then go phase.Closed action.Skip else None

-- the phase after a character and what it does, or none where no tag goes on so
abbrev pub move_of : Syntax → TagPhase → ℕ → Move
move_of syntax phase.Start c = at_start syntax c
move_of syntax phase.Name c = in_attribute_name syntax c
move_of syntax phase.Gap c = in_gap syntax c
move_of syntax phase.Solidus c = after_solidus syntax c
move_of syntax phase.Key c = in_key syntax c
move_of syntax phase.AfterKey c = after_key syntax c
move_of syntax phase.BeforeValue c = before_value syntax c
move_of syntax phase.DoubleQuoted c = if c == quotation_mark then go phase.AfterValue action.Add else go phase.DoubleQuoted action.Value
move_of syntax phase.SingleQuoted c = if c == apostrophe then go phase.AfterValue action.Add else go phase.SingleQuoted action.Value
move_of syntax phase.Unquoted c = in_unquoted c
move_of syntax phase.AfterValue c = after_value syntax c
move_of syntax phase.EndStart c = if begins_tag syntax c then go phase.EndName action.Name else None
move_of syntax phase.EndName c = in_end_name syntax c
move_of syntax phase.EndGap c = in_end_gap c
move_of syntax phase.Opened c = None
move_of syntax phase.Emptied c = None
move_of syntax phase.Closed c = None

abbrev pub is_last : TagPhase → Bool
is_last phase.Opened = true
is_last phase.Emptied = true
is_last phase.Closed = true
is_last _ = false

-- what a character does to a run
abbrev pub after_ampersand : ℕ → RunMove
after_ampersand c = if is_letter c then Goes run.Named else if c == number_sign then Goes run.Hash else Stops

abbrev pub after_hash : ℕ → RunMove
after_hash c = if is_digit c then Goes run.Decimal else if is_x c then Goes run.Mark else Stops

abbrev pub run_move : RunPhase → ℕ → RunMove
run_move run.Plain c = Stops
run_move run.Ampersand c = after_ampersand c
run_move run.Named c = if is_letter_or_digit c then Goes run.Named else if c == semicolon then Closes else Stops
run_move run.Hash c = after_hash c
run_move run.Decimal c = if is_digit c then Goes run.Decimal else if c == semicolon then Closes else Stops
run_move run.Mark c = if is_hexadecimal_digit c then Goes run.Hexadecimal else Stops
run_move run.Hexadecimal c = if is_hexadecimal_digit c then Goes run.Hexadecimal else if c == semicolon then Closes else Stops
