-- The names of definitions that most proofs here cite, passed on from one place. Declares nothing.
pub use Rattle.rx_chars.proofs.DecodingLemmas.{scalars-append}
pub use Rattle.rx_grammar.proofs.Common.{OneTree, Rows, after_start, append_cancel_left, append_cancel_right, ap₂, chars, chars-append, encode_ascii, encode_utf8, end_rows, ends_by_token, eq-eqb, has_row, is_empty, is_foreign, is_foreign_root, is_html, is_void, names_listed, not-false, omissible_rows, root_name, row_among, row_of, shown, start_rows, tables_agree}
pub use Rattle.rx_grammar.specs.Laws.{IsSameToken, OneToken}
pub use Rattle.rx_grammar.specs.PageFaults.{at_tag, in_comment, is_no_line, late_doctype, no_doctype, no_markup, outside_less_than, outside_section, outside_text, section_end}
pub use Rattle.rx_grammar.specs.Pages.{Drops, Holds, IsEndTag, IsStartTag, Lead, a_comment, a_line_feed, a_text, alone, another, is_between, nothing, unclosed}
pub use Rattle.rx_grammar.specs.declared.contents.RawName.TheVariants.{Script}
pub use Rattle.rx_grammar.specs.declared.faults.Kind.TheVariants.{Mismatch, NothingOpen, Plaintext, RootNotHtml, SelfClosed, TooDeep}
pub use Rattle.rx_grammar.specs.declared.stops.Stop.{Stop}
pub use Rattle.rx_pages.specs.Closings.{AllEnd, Bare, ClosedTells, IsPage, IsPageFront, IsWide, TellsEvents, closing, end_tag, end_tags}
pub use Rattle.rx_pages.specs.Faults.{Decides, by_character, by_section_end, by_token}
pub use Rattle.rx_pages.specs.Fronts.{IsUnderway, NothingUnfinished, ReadsTo, ReadsWhatIsUnderway, UnfinishedFollowsFront}
pub use Rattle.rx_pages.specs.Laws.{FaultsAreDecided, FaultsFollowFronts, FaultsStay, FindsOnlyFaults, FrontsClose, FrontsLead, FrontsStand, FrontsTell, IsPageRead, OnePlace, PageIsRead, PagesGoOn, ReadsEachToken, ReadsOnlyPages, SpellsEachToken, UnfinishedGoesOn}
pub use Rattle.rx_pages.specs.Nesting.{Event, Goes, IsAt, Nesting, Step, begun_under, content_at, doctype_step, ended_by_end, ended_by_start, ended_under, finishes, goes, going_on, line_above, nest_step, over, says, stands, step_by, tag_passes, text_step, told_trees, unless_refused, with_element, with_text}
pub use Rattle.rx_pages.specs.PageReader.{PageReading, Progress, Scanned, Scanning, Spot, after_token, completed, entering, fault_in, first_of, holding, is_doctype, is_none_left, is_over, is_too_long, item_of_run, may_lead, nest_step_on, nested_items, no_bytes, no_page, no_progress, no_step, page_byte, page_byte_on, page_ended, page_may_end, page_on, page_read, progress_of, read_answer, read_byte, read_char, read_entry, scan_byte_on, scan_from, scan_on, spot_of, starts_at, steps_on, telling, token_at, told, told_first, with_events, with_item, with_items}
pub use Rattle.rx_pages.specs.Scanner.{CharactersGoOn, DoctypePhase, ReadAs, Verdict, after_less_than, after_mark, at_last, at_next, closed, doctype_move, doctype_move_on, doctype_on, ended, first_verdict, goes_on, in_doctype, in_markup, in_name, in_raw, in_run, in_section, in_tag, is_markup_sign, keyword, naming, passed, refused, spaces, told_of_doctype, told_of_reference, told_of_tag, verdict, whole, whole_if}
pub use Rattle.rx_reader.proofs.Common.{AllFit, Answers, Bad, BadDoctype, BadReference, BadTag, Before, BeginNone, BeginsCharacter, BeginsDoctype, BeginsNoDoctype, Begun, Bool, Char, Chars, Content, Document, Err, Fault, FaultAt, Faulty, Fits, Html, IsBefore, IsCharacter, IsDoctype, IsFirst, IsPart, IsPending, IsRead, IsScalar, IsShort, Item, Kind, Limits, Line, List, MatchBool, More, None, NotBoth, NotUtf8, Nul, Ok, OneFault, Open, Option, Outside, Page, PageTooLong, Phase, Place, PlacedCharacter, RawEnd, RawName, Reached, ReadsOn, Result, RunFault, Shape, Some, Spelled, Spells, SpellsTag, Stands, StartTag, StrictText, Syntax, Tag, TagFault, TagState, TagTooLong, Token, Tree, Unended, Unfinished, UnknownReference, Utf8Step, Xhtml, [], a_bogus_comment, a_character, a_child, a_doctype, a_kept_run, a_less_than, a_question, a_raw_run, a_reference, a_root, a_section, a_start, a_strict_comment, a_tag, after, after_end, after_text, all_scalars, amp_no_text, ampersand, an_end, an_end_of_raw, an_instruction, and-false, and-true, and_from, and_parts, and_right, answer_is, answer_of, answers_from, ap, append-nil, append_assoc, arith, as_line_end, bad, before, begins, begins_append, begins_declaration, begins_end, begins_from, begins_front, begins_markup, begins_more, begins_tag, begins_with, begun_front, begun_no_mark, between, both, by_test, byte_order_mark, bytes_decides, carriage_return, cased, cased_char, character, character_of_form, checked, codes, comment, common_steps, cond, cond-false, cond-true, decided, doctype, doctype_word, drop, drop-append_seam, drops_line_feed, either, element, encode, encode_utf8_all, encodes, encodes-append, end, enders, enders_of, ends_comment, ends_in_brackets, ends_name, ends_with, eqb-false, eqb-true, equal, false, false_from_ne_true, first_row, first_whole, form_of, fresh, get_or, greater_than_sign, has_element, has_end, has_ended, has_less_than, has_markup, has_no_nul, has_references, has_sections, hides, html_in_svg, if◌then◌else◌, in_html, inl, inr, inside_at, inside_foreign, inside_html, inside_of, is_alone, is_among, is_before_root, is_begun, is_body, is_ended_by, is_held, is_innermost, is_known_after, is_known_end, is_known_raw, is_known_tag, is_last, is_letter, is_line_feed, is_literal, is_name, is_omissible, is_opening_begun, is_plaintext, is_refused, is_self_closed, is_strict_literal, is_tag_name, is_text, is_white_space, keeps_has, keeps_runs, kept, kept_case, known_too_long, last_from, last_none, leb-true, left_bracket, len_utf8, length, length-append, length-drop, length-encode, length-map, length-take-le, less_markup, less_no_text, less_than_sign, line_feed, list_all, list_all-append, list_any, lowered, lowered_char, lt-leb, map, map-append, meaning, meets_opening, moved, name_of_raw, nat_le, nat_lt, nat_tests, ne_eqb, next_of, no_more, no_reference, no_section_end, not, not_begun, not_both_ways, not_front, not_utf8, nul, of_one, of_white, on_err, one, one_or_more, opening_begun, openings, or-false, or_from, or_left, or_parts, or_right, outside, page_too_long, parent_of, parts, parts_of, place_inside, placed, preprocessed, raw_end, raw_name, raw_names, raw_place, rcdata_names, reads_each, reads_on, reference, refl, refuses_each_fault, repeats_once, right_bracket, run_begun, run_not_end, same, same_self, scalar, section, section_markup, semicolon, slice_get, snoc_front, snoc_last, solidus, spells_each, split, start_tag_of, still_open, stops_at, stops_end, stuck, subst, subst₂, suc, sym, tag, tag_begun, tag_first, tag_of, tag_on, tag_on-append, tag_rows, tag_step, tag_step_on, tag_too_long, take, take-append-drop, take-append_seam, take_more, text, text_of, token_begun, token_of, true, two_fronts, under_start, unended, unknown, unless, untrue, values, within, without_mark, zero, ℕ, ⊎_elim, ◌&&◌, ◌++◌, ◌+◌, ◌-◌, ◌<◌, ◌==◌, ◌||◌, ◌∙◌, ◌∷◌, ◌≡◌, ◌≢◌, ◌≤◌, ◌⊎◌}
pub use Rattle.rx_reader.proofs.InTables.{no_end}
pub use Rattle.rx_reader.proofs.TextComplete.{body_begun}
pub use Rattle.rx_reader.proofs.ValueRefusals.{name_body}
pub use Rattle.rx_reader.specs.TagReader.{is_closing}
pub use Rattle.rx_terms.proofs.Common.{IsUtf8-string_bytes, len_utf8_bounds, lit<, option_or, or-true, same_truth, slice_get-get_or, ◌^◌}
pub use Rattle.std.proofs.Math.Bool.{and_assoc, and_comm}
pub use Rattle.std.proofs.lemmas.Bool.{and_left, leb-false}
pub use Rattle.std.specs.Prelude.{IfOk, option_map}
pub use Rattle.std.specs.String.{string_bytes}
