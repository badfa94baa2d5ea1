-- The names of a tag that most proofs here and above cite, passed on from one place. Declares nothing.
pub use Rattle.rx_chars.proofs.Utf8Answers.{first_whole}
pub use Rattle.rx_chars.proofs.Utf8Exact.{answers_from}
pub use Rattle.rx_chars.proofs.Utf8Forms.{character_of_form, form_of}
pub use Rattle.rx_chars.specs.Utf8.{Answers, BeginNone}
pub use Rattle.rx_grammar.proofs.Common.{AllFit, Attribute, Bad, Before, BeginsCharacter, BeginsTag, Begun, Bool, Char, Chars, Document, Err, FaultAt, Faulty, Fits, Html, IsBefore, IsCharacter, IsDoctype, IsFirst, IsPending, IsRead, IsShort, Item, Line, List, MatchBool, More, None, Ok, Open, Option, Page, Phase, Place, PlacedCharacter, Reached, Result, RunFault, Shape, Some, Spelled, Spells, SpellsTag, Stands, StartTag, Syntax, Tag, TagFault, Token, Tree, Unfinished, Utf8Step, Xhtml, [], a_bogus_comment, a_character, a_child, a_comment, a_doctype, a_kept_run, a_less_than, a_question, a_raw_run, a_reference, a_root, a_section, a_start, a_strict_comment, a_tag, after, after_end, after_text, all_scalars, ampersand, an_end, an_end_of_raw, an_instruction, and_from, and_parts, answer_is, answer_of, ap, apostrophe, append-nil, append_assoc, arith, as_line_end, bad, before, begins, begins_attribute, begins_declaration, begins_end, begins_markup, begins_number, begins_tag, begins_with, both, by_test, byte_order_mark, bytes_decides, carriage_return, cased, cased_char, cases_lt, character, codes, comment, common_steps, cond, cond-false, cond-true, continues_attribute, doctype, doctype_word, drop, drops_line_feed, either, element, encode, encode_utf8_all, encodes, encodes-append, end, ended, enders, enders_of, ends_comment, ends_name, ends_with, eqb-false, eqb-true, equals_sign, false, false_from_ne_true, first_row, get_or, greater_than_sign, has_element, has_ended, has_less_than, has_markup, has_no_nul, has_references, has_repeat, has_sections, hides, html_in_svg, if◌then◌else◌, in_html, inl, inr, inside_html, inside_of, is_alone, is_among, is_ascii, is_before_root, is_begun, is_body, is_digit, is_ended_by, is_held, is_hexadecimal_digit, is_innermost, is_known_tag, is_letter, is_letter_or_digit, is_line_feed, is_literal, is_name, is_omissible, is_opening_begun, is_plain, is_plaintext, is_repeated, is_self_closed, is_strict_char, is_strict_literal, is_strict_start, is_tag_char, is_text, is_white_space, is_x, keeps_runs, kept, last_from, le-leb, leb-true, len_utf8, length, length-append, length-drop, length-encode, length-take-le, less_than_sign, line_end_entry, line_feed, list_all, list_all-append, list_any, lowered, lowered_char, lt-ltb, ltb-true, map-append, meaning, meets_opening, name_of_raw, nat_le, nat_lt, nat_tests, next_of, no_more, no_reference, no_section_end, not, not_begun, not_both_ways, number_sign, one, one_or_more, or-false, or_left, or_parts, or_right, outside, parent_of, place_inside, placed, preprocessed, quotation_mark, raw_name, reference, refl, right_bracket, same, scalar, section, semicolon, solidus, split, start_tag_of, still_open, stops_at, stops_end, subst, suc, sym, tag, tag_rows, take, take-add, take-append-drop, take_rest, text, text_of, token_of, true, under_start, unknown, untrue, values, within, without_mark, zero, ℕ, ⊎_elim, ◌&&◌, ◌++◌, ◌+◌, ◌-◌, ◌<◌, ◌==◌, ◌||◌, ◌∙◌, ◌∷◌, ◌≡◌, ◌≢◌, ◌≤◌, ◌⊎◌}
pub use Rattle.rx_grammar.specs.Contents.{inside_at, inside_foreign, raw_names, raw_place, rcdata_names}
pub use Rattle.rx_grammar.specs.Laws.{NotBoth, OneFault, PageOrFault}
pub use Rattle.rx_grammar.specs.PageFaults.{BeginsDoctype, BeginsNoDoctype, GoesOn, IsPart, begins_one, decided, ends_in_brackets, is_known_after, is_known_end, is_known_raw, is_one, known_too_long, not_utf8, nul, opening_begun, openings, page_too_long, run_begun, tag_begun, tag_too_long, token_begun, unended}
pub use Rattle.rx_grammar.specs.Shapes.{is_tag_name}
pub use Rattle.rx_grammar.specs.Spelling.{exclamation_mark}
pub use Rattle.rx_grammar.specs.declared.contents.Content.{Content}
pub use Rattle.rx_grammar.specs.declared.contents.RawName.{RawName}
pub use Rattle.rx_grammar.specs.declared.faults.Fault.{Fault}
pub use Rattle.rx_grammar.specs.declared.faults.Kind.{Kind}
pub use Rattle.rx_grammar.specs.declared.faults.Kind.TheVariants.{BadDoctype, BadReference, BadTag, NotUtf8, Nul, Outside, PageTooLong, StrictText, TagTooLong, Unended, UnknownReference}
pub use Rattle.rx_grammar.specs.declared.limits.Limits.{Limits}
pub use Rattle.rx_reader.proofs.Classes.{of_one, of_white, unless}
pub use Rattle.rx_reader.proofs.Fronts.{begins_append, begins_front, begins_more, begun_front, begun_no_mark, equal, has_end, two_fronts}
pub use Rattle.rx_reader.proofs.EndTags.{RawEnd, amp_no_text, keeps_has, kept_case, less_markup, less_no_text, not_front, raw_end, run_not_end, same_self, section_markup, tag_first}
pub use Rattle.rx_reader.proofs.TagFaultLaws.{begins_from, is_refused, parts, reads_on, refuses_each_fault}
pub use Rattle.rx_reader.proofs.TagLaws.{last_none, on_err, reads_each, repeats_once, spells_each, stuck, tag_on-append}
pub use Rattle.rx_reader.proofs.ValueFaults.{snoc_front, snoc_last}
pub use Rattle.rx_reader.specs.Laws.{ReadsOn}
pub use Rattle.rx_reader.specs.Tables.{Move, go, is_html_syntax, is_last, move_of, run_move}
pub use Rattle.rx_reader.specs.TagReader.{TagState, checked, fresh, moved, parts_of, tag_of, tag_on, tag_step, tag_step_on, with_attribute, with_value}
pub use Rattle.rx_reader.specs.Values.{PartialValue, is_run, known_as, meant, no_meaning, no_value_yet, plain_step, run_step, value_end, value_step}
pub use Rattle.rx_terms.proofs.Common.{IsScalar, OnErr, OnOk, add-one, and-false, and-true, and_right, ascii-same, both_ways, drop-append_seam, is_err, length-map, map, ne_eqb, or_from, subst₂, take-append_seam, take_more}
pub use Rattle.rx_terms.specs.Ascii.{between, left_bracket, question_mark}
pub use Rattle.std.proofs.lemmas.Bool.{lt-leb}
pub use Rattle.std.proofs.lemmas.Str.{len_utf8_ascii}
pub use Rattle.std.specs.Prelude.{slice_get}
pub use lib.Utf8.{low_scalar}
