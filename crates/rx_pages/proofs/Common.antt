-- The names of a page in pieces that most proofs here and above cite, passed on from one place. Declares nothing.
pub use Rattle.rx_pages.proofs.Words.{AllEnd, AllFit, Answers, Bad, BadDoctype, BadTag, Bare, BeginsCharacter, Begun, Bool, Char, CharactersGoOn, Chars, ClosedTells, Content, Err, Event, Fault, FaultAt, Faulty, Fits, FrontsTell, Goes, Html, IfOk, IsAt, IsCharacter, IsPageFront, IsPart, IsPending, IsScalar, IsUtf8-string_bytes, IsWide, Item, Kind, Limits, Line, List, MatchBool, Mismatch, More, Nesting, None, NotUtf8, NothingOpen, Nul, Ok, OnePlace, Option, Outside, Page, PageReading, PageTooLong, PagesGoOn, Phase, Place, PlacedCharacter, Plaintext, Progress, RawName, ReadAs, ReadsTo, Result, RootNotHtml, Rows, Scanned, Scanning, SelfClosed, Some, Spelled, Spells, Spot, StartTag, Step, Stop, StrictText, Syntax, Tag, TagState, TagTooLong, TellsEvents, Token, TooDeep, Tree, Unended, Utf8Step, Verdict, Xhtml, [], after, after_end, after_start, after_text, after_token, all_scalars, ampersand, and-false, and-true, and_assoc, and_comm, and_from, and_left, and_parts, and_right, answer_is, answer_of, answers_from, ap, append-nil, append_assoc, append_cancel_left, append_cancel_right, ap₂, arith, as_line_end, at_last, at_next, before, begins_append, begins_declaration, begins_with, begun_under, both, by_test, byte_order_mark, carriage_return, cased_char, character, character_of_form, chars, chars-append, closing, codes, comment, common_steps, completed, cond, cond-false, cond-true, content_at, doctype, doctype_step, drop, drop-append_seam, drops_line_feed, either, element, encode, encode_ascii, encode_utf8, encode_utf8_all, encodes, encodes-append, end, end_rows, ended, ended_by_end, ended_by_start, ended_under, enders, ends_comment, ends_with, entering, eq-eqb, eqb-false, eqb-true, equal, false, false_from_ne_true, fault_in, finishes, first_of, first_row, first_verdict, first_whole, form_of, fresh, get_or, goes, goes_on, going_on, greater_than_sign, has_element, has_ended, has_markup, has_no_nul, has_references, has_row, has_sections, hides, html_in_svg, if◌then◌else◌, in_html, inl, inr, inside_at, inside_foreign, inside_html, inside_of, is_alone, is_among, is_before_root, is_closing, is_doctype, is_empty, is_held, is_html, is_innermost, is_known_tag, is_last, is_line_feed, is_literal, is_no_line, is_none_left, is_omissible, is_over, is_plaintext, is_self_closed, is_strict_literal, is_text, is_too_long, is_white_space, item_of_run, kept, last_from, leb-false, leb-true, len_utf8, len_utf8_bounds, length, length-append, length-drop, length-encode, length-map, length-take-le, less_than_sign, line_above, line_feed, list_all, lit<, lowered, lowered_char, lt-leb, map, map-append, may_lead, meaning, meets_opening, name_of_raw, names_listed, nat_le, nat_lt, nat_tests, ne_eqb, nest_step, nest_step_on, nested_items, next_of, no_bytes, no_more, no_page, no_progress, no_section_end, no_step, not, not_both_ways, one, option_map, option_or, or-false, or-true, or_from, or_left, or_parts, or_right, over, page_byte, page_byte_on, page_ended, page_may_end, page_on, page_read, parent_of, parts_of, place_inside, placed, progress_of, raw_names, raw_place, rcdata_names, read_answer, read_byte, read_char, read_entry, reference, refl, refused, right_bracket, root_name, same, same_truth, says, scalar, scan_from, section, shown, slice_get, slice_get-get_or, snoc_front, snoc_last, split, spot_of, stands, start_rows, start_tag_of, starts_at, step_by, steps_on, string_bytes, subst, suc, sym, tables_agree, tag, tag_of, tag_on, tag_on-append, tag_passes, tag_rows, tag_step, take, take-append-drop, take_more, telling, text, text_of, token_at, told, told_first, told_trees, true, two_fronts, under_start, unless_refused, untrue, values, verdict, whole, with_element, with_events, with_item, with_text, within, zero, ℕ, ⊎_elim, ◌&&◌, ◌++◌, ◌+◌, ◌-◌, ◌<◌, ◌==◌, ◌^◌, ◌||◌, ◌∙◌, ◌∷◌, ◌≡◌, ◌≢◌, ◌≤◌, ◌⊎◌}
pub use Rattle.rx_pages.proofs.ByteFacts.{byte_is, item_first, item_last, token_of_item}
pub use Rattle.rx_pages.proofs.FaultWalk.{fault_stays}
pub use Rattle.rx_pages.proofs.FaultsRead.{fault_is_read, item_content, no_literal, pending_goes}
pub use Rattle.rx_pages.proofs.LastToken.{LastByte, last_byte}
pub use Rattle.rx_pages.proofs.OneOf.{ok_is}
pub use Rattle.rx_pages.proofs.OnlyPages.{found_fault, read_page}
pub use Rattle.rx_pages.proofs.PageRead.{page_is_read, page_is_told}
pub use Rattle.rx_pages.proofs.ScanSteps.{from_there, page_append, page_byte_fault, page_last, page_scan, scan_fault}
pub use Rattle.rx_pages.proofs.Sizes.{AllSized, all_sized, read_size}
pub use Rattle.rx_pages.proofs.TokenWalk.{IsKept, is_kept}
pub use Rattle.rx_pages.proofs.Tokens.{values_append}
pub use Rattle.rx_pages.proofs.Trees.{one_tree}
pub use Rattle.rx_pages.proofs.Underway.{is_underway, nothing_unfinished, reads_to, reads_what_is_underway, unfinished_follows_front}
pub use Rattle.rx_pages.specs.Closings.{closed}
pub use Rattle.rx_pages.specs.Nesting.{begins}
