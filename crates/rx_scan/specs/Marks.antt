-- What each character does, by the mark of the characters since the last token.
use Rattle.std.specs.Prelude.{ℕ, ◌+◌, Bool, true, false, not, ◌&&◌, ◌==◌, [], ◌∷◌, length, codes, slice_get, Option, Some, None, if◌then◌else◌}
use Rattle.rx_grammar.specs.Common.{ampersand, hyphen, solidus, less_than_sign, greater_than_sign, question_mark, left_bracket, right_bracket, lowered_char, is_white_space, Chars, Syntax, Html, Xhtml, name_of_raw, cased_char, exclamation_mark, has_references, keeps_runs, has_sections, has_less_than, is_text, begins_markup}
use Rattle.rx_grammar.specs.declared.contents.Content.{Content}
use Rattle.rx_grammar.specs.declared.contents.Content.TheVariants as content
use Rattle.rx_grammar.specs.declared.faults.Kind.TheVariants.{BadTag, BadDoctype, Outside, StrictText}
use Rattle.rx_grammar.specs.Shapes.{ends_name}
use Rattle.rx_reader.specs.declared.phases.RunPhase.TheVariants as run
use Rattle.rx_reader.specs.declared.phases.RunMove.{RunMove}
use Rattle.rx_reader.specs.declared.phases.RunMove.TheVariants as run_moves
use Rattle.rx_reader.specs.Tables.{is_html_syntax, run_move}
use Rattle.rx_scan.specs.declared.marks.Word.{Word}
use Rattle.rx_scan.specs.declared.marks.Word.TheVariants as word
use Rattle.rx_scan.specs.declared.marks.CommentPhase.{CommentPhase}
use Rattle.rx_scan.specs.declared.marks.CommentPhase.TheVariants as comment
use Rattle.rx_scan.specs.declared.marks.StrictPhase.{StrictPhase}
use Rattle.rx_scan.specs.declared.marks.StrictPhase.TheVariants as strict
use Rattle.rx_scan.specs.declared.marks.DoctypePhase.{DoctypePhase}
use Rattle.rx_scan.specs.declared.marks.DoctypePhase.TheVariants as doctype
use Rattle.rx_scan.specs.declared.marks.Brackets.{Brackets}
use Rattle.rx_scan.specs.declared.marks.Brackets.TheVariants as brackets
use Rattle.rx_scan.specs.declared.marks.TokenState.{TokenState}
use Rattle.rx_scan.specs.declared.marks.TokenState.TheVariants as mark
use Rattle.rx_scan.specs.declared.marks.Whole.TheVariants as whole
use Rattle.rx_scan.specs.declared.marks.First.{First}
use Rattle.rx_scan.specs.declared.marks.First.TheVariants as first
use Rattle.rx_scan.specs.declared.marks.Move.{Move}
use Rattle.rx_scan.specs.declared.marks.Move.TheVariants as move

-- `/` and the name of a raw element
abbrev pub end_word : Content → Chars
end_word (content.Raw name) = solidus ∷ name_of_raw name
end_word (content.Rcdata name) = solidus ∷ name_of_raw name
end_word _ = []

-- `<` begins markup, or in raw text the element's end tag
abbrev pub less_than_mark : Content → TokenState
less_than_mark (content.Raw name) = mark.RawEnd 0
less_than_mark (content.Rcdata name) = mark.RawEnd 0
less_than_mark _ = mark.LessThan

abbrev pub at_first : Content → ℕ → First
at_first inside c =
    if c == less_than_sign then first.Begins (less_than_mark inside) else if c == ampersand && has_references inside then first.Begins (mark.Run run.Ampersand)
    else if is_text inside c then first.EmitText else first.Refuses Outside

abbrev pub of_first : First → Move
of_first (first.Begins m) = move.Begins m
of_first first.EmitText = move.EmitText
of_first (first.Refuses kind) = move.Refuses kind

abbrev pub question : Syntax → TokenState
question Html = mark.Bogus
question Xhtml = mark.Instruction false

abbrev pub less_than_stops : Content → Move
less_than_stops inside = if has_less_than inside then move.Reconsume else move.Refuses Outside

abbrev pub at_less_than : Syntax → Content → ℕ → Move
at_less_than syntax inside c =
    if c == exclamation_mark then move.Continue mark.Opened else if c == question_mark then move.Continue (question syntax)
    else if is_html_syntax syntax && not (begins_markup c) then less_than_stops inside else move.Tags

-- the next character of the end tag, or none where its name is whole
abbrev pub in_end : Option ℕ → ℕ → ℕ → Move
in_end (Some d) n c = if lowered_char c == d then move.KeepsTag (n + 1) else move.Reconsume
in_end None n c = if ends_name c then move.Tags else move.Reconsume

abbrev pub after_run : Content → RunMove → Move
after_run inside (run_moves.Goes p) = move.Keeps (mark.Run p)
after_run inside run_moves.Closes = move.Closes
after_run inside run_moves.Stops = if keeps_runs inside then move.Reconsume else move.Refuses StrictText

-- in HTML `<!` and what begins nothing else is a comment
abbrev pub in_bogus : ℕ → Move
in_bogus c = if c == greater_than_sign then move.Ends whole.Comment else move.Continue mark.Bogus

abbrev pub unlike : Syntax → ℕ → Move
unlike Html c = in_bogus c
unlike Xhtml c = move.Refuses BadTag

-- HTML has CDATA sections in some contents alone; XHTML refuses one at its last `[`
abbrev pub looks_for : Syntax → Content → Word → Bool
looks_for Html inside word.Section = has_sections inside
looks_for syntax inside _ = true

abbrev pub opening_text : Syntax → Word → Chars
opening_text syntax word.Dashes = codes "--"
opening_text Html word.Doctype = codes "doctype"
opening_text Xhtml word.Doctype = codes "DOCTYPE"
opening_text syntax word.Section = codes "[CDATA["

-- HTML reads the word of a document type in lower case
abbrev pub opening_char : Syntax → Word → ℕ → ℕ
opening_char Html word.Doctype c = lowered_char c
opening_char syntax _ c = c

abbrev pub begun_word : Syntax → Content → Word → Move
begun_word Html inside word.Dashes = move.Continue (mark.Comment comment.Start)
begun_word Xhtml inside word.Dashes = move.Continue (mark.StrictComment strict.Text)
begun_word syntax inside word.Doctype = move.Continue (mark.Doctype doctype.Keyword)
begun_word syntax inside word.Section = if has_sections inside then move.Continue (mark.Section brackets.None) else move.Refuses Outside

-- one more character of a word
abbrev pub more_of_word : Syntax → Content → Word → ℕ → Move
more_of_word syntax inside w n = if n == length (opening_text syntax w) then begun_word syntax inside w else move.Continue (mark.Opening w n)

abbrev pub continues_word : Syntax → Word → ℕ → ℕ → Bool
continues_word syntax w d c = opening_char syntax w c == d

abbrev pub in_word : Syntax → Content → Word → Option ℕ → ℕ → ℕ → Move
in_word syntax inside w (Some d) n c = if continues_word syntax w d c then more_of_word syntax inside w (n + 1) else unlike syntax c
in_word syntax inside w None n c = unlike syntax c

abbrev pub doctype_letter : Syntax → ℕ
doctype_letter Html = 100
doctype_letter Xhtml = 68

abbrev pub at_opened : Syntax → Content → ℕ → Move
at_opened syntax inside c =
    if c == hyphen then move.Continue (mark.Opening word.Dashes 1) else if cased_char syntax c == doctype_letter syntax then move.Continue (mark.Opening word.Doctype 1)
    else if c == left_bracket && looks_for syntax inside word.Section then move.Continue (mark.Opening word.Section 1) else unlike syntax c

-- where a `>` ends the comment
abbrev pub may_close : CommentPhase → Bool
may_close comment.Text = false
may_close comment.Dash = false
may_close _ = true

abbrev pub after_dash : CommentPhase → CommentPhase
after_dash comment.Start = comment.StartDash
after_dash comment.StartDash = comment.Dashes
after_dash comment.Dash = comment.Dashes
after_dash comment.Dashes = comment.Dashes
after_dash _ = comment.Dash

abbrev pub after_bang : CommentPhase → CommentPhase
after_bang comment.Dashes = comment.Bang
after_bang _ = comment.Text

abbrev pub in_comment : CommentPhase → ℕ → Move
in_comment p c =
    if c == greater_than_sign && may_close p then move.Ends whole.Comment
    else move.Continue (mark.Comment (if c == hyphen then after_dash p else if c == exclamation_mark then after_bang p else comment.Text))

abbrev pub after_strict_dash : StrictPhase → StrictPhase
after_strict_dash strict.Text = strict.Dash
after_strict_dash _ = strict.Dashes

abbrev pub after_strict : StrictPhase → ℕ → Move
after_strict strict.Dashes c = if c == greater_than_sign then move.Ends whole.Comment else move.Refuses StrictText
after_strict p c = move.Continue (mark.StrictComment (if c == hyphen then after_strict_dash p else strict.Text))

abbrev pub in_instruction : Bool → ℕ → Move
in_instruction asked c = if c == greater_than_sign && asked then move.Ends whole.Comment else move.Continue (mark.Instruction (c == question_mark))

-- what a character does that may be the next one of the name
abbrev pub in_doctype_name : Syntax → Option ℕ → ℕ → ℕ → Move
in_doctype_name syntax (Some d) n c = if cased_char syntax c == d then move.Continue (mark.Doctype (doctype.Name (n + 1))) else move.Refuses BadDoctype
in_doctype_name syntax None n c = if is_white_space c then move.Continue (mark.Doctype doctype.Passed) else if c == greater_than_sign then move.Ends whole.Doctype else move.Refuses BadDoctype

abbrev pub doctype_char : Syntax → DoctypePhase → ℕ → Move
doctype_char syntax doctype.Keyword c = if is_white_space c then move.Continue (mark.Doctype doctype.Spaces) else move.Refuses BadDoctype
doctype_char syntax doctype.Spaces c = if is_white_space c then move.Continue (mark.Doctype doctype.Spaces) else in_doctype_name syntax (slice_get (codes "html") 0) 0 c
doctype_char syntax (doctype.Name n) c = in_doctype_name syntax (slice_get (codes "html") n) n c
doctype_char syntax doctype.Passed c =
    if c == greater_than_sign then move.Ends whole.Doctype else if c == left_bracket then move.Refuses BadDoctype else move.Continue (mark.Doctype doctype.Passed)

abbrev pub at_bracket : Brackets → Move
at_bracket brackets.None = move.Continue (mark.Section brackets.One)
at_bracket brackets.One = move.Continue (mark.Section brackets.Two)
at_bracket brackets.Two = move.Keeps (mark.Section brackets.Two)

abbrev pub are_two : Brackets → Bool
are_two brackets.Two = true
are_two _ = false

abbrev pub after_section : Brackets → ℕ → Move
after_section b c = if c == right_bracket then at_bracket b else if c == greater_than_sign && are_two b then move.Ends whole.Section else move.KeepsAfter b

abbrev pub scan_move : Syntax → Content → TokenState → ℕ → Move
scan_move syntax inside mark.Nothing c = of_first (at_first inside c)
scan_move syntax inside mark.LessThan c = at_less_than syntax inside c
scan_move syntax inside (mark.RawEnd n) c = in_end (slice_get (end_word inside) n) n c
scan_move syntax inside mark.Tag c = move.Tags
scan_move syntax inside (mark.Run p) c = after_run inside (run_move p c)
scan_move syntax inside mark.Opened c = at_opened syntax inside c
scan_move syntax inside (mark.Opening w n) c = in_word syntax inside w (slice_get (opening_text syntax w) n) n c
scan_move syntax inside (mark.Comment p) c = in_comment p c
scan_move syntax inside (mark.StrictComment p) c = after_strict p c
scan_move syntax inside mark.Bogus c = in_bogus c
scan_move syntax inside (mark.Instruction asked) c = in_instruction asked c
scan_move syntax inside (mark.Doctype p) c = doctype_char syntax p c
scan_move syntax inside (mark.Section b) c = after_section b c
