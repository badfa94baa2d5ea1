-- How the tokens of a page are told apart, one character after another: what the next character says of the characters since the last token.
use Rattle.std.specs.Prelude.{◌≡◌, ℕ, ◌-◌, Bool, not, ◌||◌, ◌&&◌, ◌==◌, [], ◌∷◌, ◌++◌, length, take, drop, codes, Option, Some, None, Result, Ok, Err, if◌then◌else◌}
use Rattle.rx_grammar.specs.Common.{ampersand, semicolon, less_than_sign, greater_than_sign, question_mark, left_bracket, is_white_space, Chars, lowered, begins_with, Syntax, Html, Xhtml, is_name, is_body, is_begun, meaning, Token, tag, character, reference, kept, section, comment, doctype, cased_char, exclamation_mark, ends_with, has_references, keeps_runs, has_sections, has_less_than, is_text, begins_markup, raw_name, begins_end, stops_end, ends_comment, meets_opening}
use Rattle.rx_grammar.specs.declared.contents.Content.{Content}
use Rattle.rx_grammar.specs.declared.faults.Kind.{Kind}
use Rattle.rx_grammar.specs.declared.faults.Kind.TheVariants.{BadTag, BadDoctype, BadReference, Outside, StrictText, UnknownReference}
use Rattle.rx_reader.specs.Tables.{is_html_syntax, is_last}
use Rattle.rx_reader.specs.TagReader.{TagState, fresh, tag_on, tag_of}

-- What a character says of those before it, since the last token.
pub data Verdict : Type 0 where
  goes_on : Verdict  -- with it they begin a token, and are none yet
  whole : Token → Verdict  -- they are this token with it
  ended : Token → Verdict  -- they were this token before it
  refused : Kind → Verdict  -- it decides this fault

abbrev pub whole_if : Bool → Token → Verdict
whole_if test token = if test then whole token else goes_on

-- in a tag, whose characters so far are `text`
abbrev pub told_of_tag : Result TagState Kind → Verdict
told_of_tag (Ok s) = whole_if (is_last s.phase) (tag (tag_of s))
told_of_tag (Err kind) = refused kind

abbrev pub in_tag : Syntax → Chars → ℕ → Verdict
in_tag syntax text c = told_of_tag (tag_on syntax (meaning syntax) (Ok fresh) (text ++ c ∷ []))

-- after `&` and a run
abbrev pub told_of_reference : Chars → Option ℕ → Verdict
told_of_reference run (Some d) = whole (reference d)
told_of_reference run None = refused (if is_name run then UnknownReference else BadReference)

abbrev pub in_run : Syntax → Content → Chars → ℕ → Verdict
in_run syntax inside run c =
    if is_begun (run ++ c ∷ []) then goes_on else if c == semicolon && is_body run then told_of_reference run (meaning syntax run)
    else if keeps_runs inside then ended (kept (ampersand ∷ run)) else refused StrictText

-- in raw text after `<`
abbrev pub in_raw : Syntax → Chars → Chars → ℕ → Verdict
in_raw syntax name text c =
    if begins_end name (text ++ c ∷ []) then goes_on else if begins_end name text && stops_end name text c then ended (kept (less_than_sign ∷ text)) else in_tag syntax text c

-- What is read of a document type after its first word.
pub data DoctypePhase : Type 0 where
  keyword : DoctypePhase  -- the word
  spaces : DoctypePhase  -- white space behind it
  naming : Chars → DoctypePhase  -- what is left of the name
  passed : DoctypePhase  -- white space behind the name, and what follows
  closed : DoctypePhase  -- its `>`

abbrev pub in_name : Syntax → Chars → ℕ → Option DoctypePhase
in_name syntax [] c = if is_white_space c then Some passed else if c == greater_than_sign then Some closed else None
in_name syntax (d ∷ more) c = if cased_char syntax c == d then Some (naming more) else None

abbrev pub doctype_move : Syntax → DoctypePhase → ℕ → Option DoctypePhase
doctype_move syntax keyword c = if is_white_space c then Some spaces else None
doctype_move syntax spaces c = if is_white_space c then Some spaces else in_name syntax (codes "html") c
doctype_move syntax (naming left) c = in_name syntax left c
doctype_move syntax passed c = if c == greater_than_sign then Some closed else if c == left_bracket then None else Some passed
doctype_move syntax closed c = None

abbrev pub doctype_move_on : Syntax → Option DoctypePhase → ℕ → Option DoctypePhase
doctype_move_on syntax None c = None
doctype_move_on syntax (Some phase) c = doctype_move syntax phase c

abbrev pub doctype_on : Syntax → Option DoctypePhase → Chars → Option DoctypePhase
doctype_on syntax reached [] = reached
doctype_on syntax reached (c ∷ text) = doctype_on syntax (doctype_move_on syntax reached c) text

abbrev pub told_of_doctype : Option DoctypePhase → Verdict
told_of_doctype None = refused BadDoctype
told_of_doctype (Some closed) = whole doctype
told_of_doctype (Some phase) = goes_on

abbrev pub in_doctype : Syntax → Chars → ℕ → Verdict
in_doctype syntax text c = told_of_doctype (doctype_on syntax (Some keyword) (text ++ c ∷ []))

-- a section's text so far ends with `]]>` or doesn't
abbrev pub in_section : Chars → ℕ → Verdict
in_section text c = whole_if (ends_with (codes "]]>") (text ++ c ∷ [])) (section (take (length text - 2) text))

-- XML 1.0, 2.5: after `--` a comment ends
abbrev pub in_strict_comment : Chars → ℕ → Verdict
in_strict_comment text c = if ends_with (codes "--") text then (if c == greater_than_sign then whole comment else refused StrictText) else goes_on

-- XHTML: `<!` before what begins a comment, a section or a document type, and before what doesn't
abbrev pub in_opening : Content → Chars → Verdict
in_opening inside text =
    if begins_with (codes "[CDATA[") text && not (has_sections inside) then refused Outside
    else if meets_opening (exclamation_mark ∷ text) then goes_on else refused BadTag

-- after `<!` and `text`
abbrev pub after_mark : Syntax → Content → Chars → ℕ → Verdict
after_mark Html inside text c =
    if begins_with (codes "--") text then whole_if (ends_comment (drop 2 text ++ c ∷ [])) comment
    else if begins_with (codes "doctype") (lowered text) then in_doctype Html (drop 7 text) c
    else if has_sections inside && begins_with (codes "[CDATA[") text then in_section (drop 7 text) c
    else whole_if (ends_with (codes ">") (text ++ c ∷ [])) comment
after_mark Xhtml inside text c =
    if begins_with (codes "--") text then in_strict_comment (drop 2 text) c
    else if begins_with (codes "DOCTYPE") text then in_doctype Xhtml (drop 7 text) c
    else if begins_with (codes "[CDATA[") text then in_section (drop 7 text) c
    else in_opening inside (text ++ c ∷ [])

-- after `<?` and `text`
abbrev pub after_question : Syntax → Chars → ℕ → Verdict
after_question Html text c = whole_if (ends_with (codes ">") (text ++ c ∷ [])) comment
after_question Xhtml text c = whole_if (ends_with (codes "?>") (text ++ c ∷ [])) comment

-- after `<`
abbrev pub is_markup_sign : ℕ → Bool
is_markup_sign c = c == exclamation_mark || c == question_mark

abbrev pub less_than_text : Content → Verdict
less_than_text inside = if has_less_than inside then ended (kept (less_than_sign ∷ [])) else refused Outside

abbrev pub in_markup : Syntax → Content → Chars → ℕ → Verdict
in_markup syntax inside [] c = if is_markup_sign c then goes_on else if is_html_syntax syntax && not (begins_markup c) then less_than_text inside else in_tag syntax [] c
in_markup syntax inside (d ∷ text) c = if d == exclamation_mark then after_mark syntax inside text c else if d == question_mark then after_question syntax text c else in_tag syntax (d ∷ text) c

abbrev pub after_less_than : Syntax → Content → Option Chars → Chars → ℕ → Verdict
after_less_than syntax inside None text c = in_markup syntax inside text c
after_less_than syntax inside (Some name) text c = in_raw syntax name text c

abbrev pub first_verdict : Content → ℕ → Verdict
first_verdict inside c = if c == less_than_sign || (c == ampersand && has_references inside) then goes_on else if is_text inside c then whole (character c) else refused Outside

-- in this content, after these characters since the last token
abbrev pub verdict : Syntax → Content → Chars → ℕ → Verdict
verdict syntax inside [] c = first_verdict inside c
verdict syntax inside (d ∷ run) c = if d == less_than_sign then after_less_than syntax inside (raw_name inside) run c else in_run syntax inside run c

-- Each of these characters goes on, after those before it.
abbrev pub CharactersGoOn : Syntax → Content → Chars → Chars → Type 0
CharactersGoOn syntax inside before [] = Unit {0}
CharactersGoOn syntax inside before (c ∷ text) = (verdict syntax inside before c ≡ goes_on) × CharactersGoOn syntax inside (before ++ c ∷ []) text

-- The characters are read as this token: at their last one, or at the next one where that tells that they are text.
pub data ReadAs (syntax : Syntax) (inside : Content) : Chars → Option ℕ → Token → Type 0 where
  at_last : {next : Option ℕ} (text : Chars) (c : ℕ) (token : Token) → CharactersGoOn syntax inside [] text → verdict syntax inside text c ≡ whole token
      → ReadAs syntax inside (text ++ c ∷ []) next token
  at_next : (text : Chars) (c : ℕ) (token : Token) → CharactersGoOn syntax inside [] text → verdict syntax inside text c ≡ ended token
      → ReadAs syntax inside text (Some c) token
