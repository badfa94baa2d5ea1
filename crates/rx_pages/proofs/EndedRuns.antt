-- A token that the next character tells is a run that stays text.
use Rattle.rx_reader.proofs.Common.{◌≡◌, ℕ, Bool, true, false, [], ◌∷◌, ◌++◌, sym, Option, Some, None, Result, Ok, Err, ◌&&◌, ◌==◌, not, if◌then◌else◌, ◌-◌, codes, length, take, drop, ampersand, less_than_sign, greater_than_sign, Chars, begins_with, Syntax, Html, Xhtml, is_name, meaning, Token, tag, character, reference, kept, section, comment, doctype, ends_with, has_sections, has_less_than, begins_markup, raw_name, exclamation_mark, meets_opening, Content, Kind, BadDoctype, BadReference, BadTag, Outside, StrictText, UnknownReference, is_html_syntax, TagState, fresh, tag_on, tag_of}
use Rattle.rx_pages.specs.Scanner.{Verdict, goes_on, whole, ended, refused, told_of_tag, in_tag, told_of_reference, in_run, DoctypePhase, keyword, closed, told_of_doctype, in_doctype, in_section, after_mark, after_question, after_less_than, is_markup_sign, doctype_on, verdict}
use Rattle.rx_pages.proofs.TokenWalk.{IsKept, is_kept}

abbrev Keeps : Verdict → Type 0
Keeps v = (token : Token) → v ≡ ended token → IsKept token

on : Keeps goes_on
on token h = absurd (cc)

is_whole : (t : Token) → Keeps (whole t)
is_whole t token h = absurd (cc)

is_refused : (kind : Kind) → Keeps (refused kind)
is_refused kind token h = absurd (cc)

is_ended : (text : Chars) → Keeps (ended (kept text))
is_ended text token h = is_kept text (let same : kept text ≡ token = cc in sym same)

choose : (b : Bool) {x y : Verdict} → Keeps x → Keeps y → Keeps (if b then x else y)
choose true k l = k
choose false k l = l

of_reference : (run : Chars) (o : Option ℕ) → Keeps (told_of_reference run o)
of_reference run (Some d) = is_whole (reference d)
of_reference run None = is_refused (if is_name run then UnknownReference else BadReference)

run_keeps : (s : Syntax) (i : Content) (run : Chars) (c : ℕ) → Keeps (in_run s i run c)
run_keeps s i run c = choose _ on (choose _ (of_reference run (meaning s run)) (choose _ (is_ended (ampersand ∷ run)) (is_refused StrictText)))

tag_keeps : (s : Syntax) (text : Chars) (c : ℕ) → Keeps (in_tag s text c)
tag_keeps s text c = by (tag_on s (meaning s) (Ok fresh) (text ++ c ∷ []))
  where
    by : (r : Result TagState Kind) → Keeps (told_of_tag r)
    by (Ok s) = choose _ (is_whole (tag (tag_of s))) on
    by (Err kind) = is_refused kind

doctype_keeps : (s : Syntax) (text : Chars) (c : ℕ) → Keeps (in_doctype s text c)
doctype_keeps s text c = by (doctype_on s (Some keyword) (text ++ c ∷ []))
  where
    by : (o : Option DoctypePhase) → Keeps (told_of_doctype o)
    by None = is_refused BadDoctype
    by (Some closed) = is_whole doctype
    by _ = on

section_keeps : (text : Chars) (c : ℕ) → Keeps (in_section text c)
section_keeps text c = choose _ (is_whole (section (take (length text - 2) text))) on

mark_keeps : (s : Syntax) (i : Content) (text : Chars) (c : ℕ) → Keeps (after_mark s i text c)
mark_keeps Html i text c = choose _ (choose _ (is_whole comment) on) (choose _ (doctype_keeps Html (drop 7 text) c) (choose _ (section_keeps (drop 7 text) c) (choose _ (is_whole comment) on)))
mark_keeps Xhtml i text c =
    choose (begins_with (codes "--") text) (choose (ends_with (codes "--") (drop 2 text)) (choose (c == greater_than_sign) (is_whole comment) (is_refused StrictText)) on)
    (choose (begins_with (codes "DOCTYPE") text) (doctype_keeps Xhtml (drop 7 text) c)
    (choose (begins_with (codes "[CDATA[") text) (section_keeps (drop 7 text) c) (choose (begins_with (codes "[CDATA[") (text ++ c ∷ []) && not (has_sections i)) (is_refused Outside) (choose (meets_opening (exclamation_mark ∷ (text ++ c ∷ []))) on (is_refused BadTag)))))

question_keeps : (s : Syntax) (text : Chars) (c : ℕ) → Keeps (after_question s text c)
question_keeps Html text c = choose _ (is_whole comment) on
question_keeps Xhtml text c = choose _ (is_whole comment) on

less_keeps : (s : Syntax) (i : Content) (name : Option Chars) (text : Chars) (c : ℕ) → Keeps (after_less_than s i name text c)
less_keeps s i None [] c = choose (is_markup_sign c) on (choose (is_html_syntax s && not (begins_markup c)) (choose (has_less_than i) (is_ended (less_than_sign ∷ [])) (is_refused Outside)) (tag_keeps s [] c))
less_keeps s i None (d ∷ text) c = choose _ (mark_keeps s i text c) (choose _ (question_keeps s text c) (tag_keeps s (d ∷ text) c))
less_keeps s i (Some name) text c = choose _ on (choose _ (is_ended (less_than_sign ∷ text)) (tag_keeps s text c))

pub ended_kept : (s : Syntax) (i : Content) (run : Chars) (c : ℕ) (token : Token) → verdict s i run c ≡ ended token → IsKept token
ended_kept s i [] c = choose _ on (choose _ (is_whole (character c)) (is_refused Outside))
ended_kept s i (d ∷ run) c = choose _ (less_keeps s i (raw_name i) run c) (run_keeps s i run c)
