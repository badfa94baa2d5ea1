-- The names that most proofs here cite, passed on from one place. Declares nothing.
pub use Rattle.rx_grammar.proofs.Common.{IsUtf8, chars-nil, or_cases, same-ascii}
pub use Rattle.rx_nest.specs.Falling.{FallsBy}
pub use Rattle.rx_nest.specs.FaultPlaces.{BeginsNone, BeginsRefused, IsAcceptedFront, IsAcceptedPage, LiesInPiece, PlaceGives, PlaceLaw, of_form, of_meaning}
pub use Rattle.rx_nest.specs.Faults.{MeaningAt, StopGives, for_form, for_meaning}
pub use Rattle.rx_nest.specs.Follows.{AreLevels, Follows, flags_of, own_signs, own_tag, phase_at, tag_by}
pub use Rattle.rx_nest.specs.Fronts.{Lie, ShowsMore}
pub use Rattle.rx_nest.specs.Levels.{Levels, Opened, ends_by, hidden_under, innermost_first, name_under}
pub use Rattle.rx_nest.specs.Lines.{EndTagEnds, GivesBy, Lines, StartTagBegins, TagGives, ended_at_start, is_none_open, is_open_named, is_room, kept_at_start, level_under, own_of_end, says_text, shown_under, start_refusals}
pub use Rattle.rx_nest.specs.Listening.{Hears, is_calm}
pub use Rattle.rx_nest.specs.Nests.{At, Completes, DidLends, DidOf, Done, FaultGives, Heeds, IsATag, IsBetween, Lends, LendsStart, NestEnded, NestReadGives, NestStands, NestStepped, Nested, OpenBefore, StaysAtFault, StopsInPiece, TakesBytes, TokenOf, Unshown, a_doctype, a_skipped_one, a_tag, begins_own, did_more, did_signs, did_skipped, event_signs, gives_text, heard_signs, hears_more, hears_skipped, is_tag_heard, last_tag, last_text, left, owed_signs, owes_begin, read_before, read_now, setting_of, some_text, start_seen}
pub use Rattle.rx_nest.specs.Ordinary.{IsOrdinary, IsPlain, omissible_names, ordinary_names}
pub use Rattle.rx_nest.specs.Quiets.{HasMemory, QuietAt}
pub use Rattle.rx_nest.specs.Readings.{OwesNone, Read, ReadingStands}
pub use Rattle.rx_nest.specs.RefusedTags.{ReaderRefuses, RefusedTagsAreLast, RefusesLast}
pub use Rattle.rx_nest.specs.Rows.{row_seen}
pub use Rattle.rx_nest.specs.Signs.{Flags, Sight, Sign, begun, ended_sight, finished, finishing, is_hidden, nothing_seen, said, see, sees, signs_of}
pub use Rattle.rx_nest.specs.TreeTokens.{TakesTagToken, TakesToken, token_result}
pub use Rattle.rx_nest.specs.Ways.{IsAtOne, IsAtTag, IsRefusal, Way}
pub use Rattle.rx_pages.proofs.ClosedTold.{fronts_tell}
pub use Rattle.rx_pages.proofs.Common.{AllEnd, AllSized, Bad, Bare, Begun, Bool, Char, Chars, ClosedTells, Content, Err, Event, Fault, FaultAt, Goes, Html, IsAt, IsKept, IsPageFront, IsWide, Item, Kind, LastByte, Limits, Line, List, Mismatch, More, Nesting, None, NotUtf8, NothingOpen, Ok, Option, Page, PageReading, PageTooLong, Phase, Place, PlacedCharacter, Progress, RawName, ReadsTo, Result, Rows, Scanned, Scanning, Some, Spot, StartTag, Step, Stop, Syntax, Tag, Token, TooDeep, Tree, Unended, Utf8Step, Verdict, Xhtml, [], after, after_end, after_start, after_text, after_token, all_sized, ampersand, and_from, answer_of, ap, append-nil, append_assoc, append_cancel_left, ap₂, arith, as_line_end, before, begins, begun_under, both, by_test, byte_is, byte_order_mark, carriage_return, character, chars, closed, codes, comment, completed, cond, content_at, doctype, doctype_step, drop, drops_line_feed, element, end, end_rows, ended, ended_by_end, ended_by_start, ended_under, enders, eqb-true, equal, false, fault_in, fault_is_read, fault_stays, finishes, first_of, first_row, first_verdict, found_fault, from_there, get_or, goes, goes_on, going_on, greater_than_sign, has_ended, has_references, has_row, hides, html_in_svg, if◌then◌else◌, in_html, inl, inr, inside_at, inside_foreign, inside_html, inside_of, is_alone, is_among, is_before_root, is_doctype, is_held, is_html, is_innermost, is_kept, is_line_feed, is_literal, is_no_line, is_none_left, is_omissible, is_over, is_plaintext, is_self_closed, is_text, is_too_long, is_underway, item_first, item_last, item_of_run, kept, last_byte, length, length-append, length-take-le, less_than_sign, line_above, line_feed, lit<, map, map-append, may_lead, name_of_raw, names_listed, nat_le, nat_lt, nat_tests, nest_step, nest_step_on, nested_items, next_of, no_bytes, no_page, no_progress, no_step, not, nothing_unfinished, ok_is, one_tree, or_parts, over, page_append, page_byte, page_byte_fault, page_byte_on, page_ended, page_is_read, page_is_told, page_last, page_may_end, page_on, page_read, page_scan, parent_of, place_inside, progress_of, raw_names, raw_place, rcdata_names, read_answer, read_byte, read_char, read_page, read_size, reads_to, reference, refl, refused, root_name, same, says, scan_from, section, shown, slice_get, split, spot_of, stands, start_rows, start_tag_of, starts_at, step_by, steps_on, subst, suc, sym, tag, tag_passes, tag_rows, take, take-append-drop, take_more, telling, text, text_of, token_at, token_of_item, told_first, told_trees, true, two_fronts, under_start, unfinished_follows_front, unless_refused, untrue, values, verdict, whole, with_element, with_events, with_item, with_text, within, zero, ℕ, ⊎_elim, ◌&&◌, ◌++◌, ◌+◌, ◌-◌, ◌<◌, ◌==◌, ◌||◌, ◌∙◌, ◌∷◌, ◌≡◌, ◌≢◌, ◌≤◌, ◌⊎◌}
pub use Rattle.rx_pages.proofs.FaultFronts.{faults_follow_fronts}
pub use Rattle.rx_pages.specs.Nesting.{not_begun, text_step, told}
pub use Rattle.rx_reader.proofs.Common.{take-append_seam, take_rest}
pub use Rattle.rx_scan.specs.Entries.{IsNoMemory}
pub use Rattle.rx_scan.specs.Latches.{Latched, Repeats, latched_by}
pub use Rattle.rx_scan.specs.Scanner.{Scanner}
pub use Rattle.rx_scan.specs.Steps.{Are, Faults, HasMark, IsTag, Shows, ShowsTag, Skips, a_comment, a_line_feed, a_mark, an_empty_section, ends_leading, is_of_syntax, is_quiet, joined, keeps_first, mark_bytes, setting_behind, shows_skipped, shows_tag, texts_of, wants_more}
pub use Rattle.rx_scan.specs.declared.places.Setting.{Setting}
pub use Rattle.rx_tags.specs.Seen.{tag_seen}
pub use Rattle.rx_terms.proofs.Common.{length-set, length-take, rules, take_all}
pub use Rattle.std.proofs.lemmas.List.{take-append-le}
