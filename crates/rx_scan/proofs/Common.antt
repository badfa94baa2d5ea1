-- The names that most proofs here cite, passed on from one place. Declares nothing.
pub use Rattle.rx_chars.specs.Held.{fits_second, is_none_held}
pub use Rattle.rx_grammar.proofs.Common.{IfSome, IsUtf8, IsUtf8-append, IsUtf8-encode, ascii-utf8, chars_from_encodes, is_in, is_well_formed, scalar_value, tail}
pub use Rattle.rx_pages.proofs.CharSteps.{entry_at, passes}
pub use Rattle.rx_pages.proofs.CharWalk.{ends_return, len_positive, no_mark, no_return}
pub use Rattle.rx_pages.proofs.Comments.{bogus_at, section_text}
pub use Rattle.rx_pages.proofs.Common.{Bad, BadDoctype, BadTag, Bool, Char, Chars, Content, Err, Fault, Html, IfOk, IsScalar, IsUtf8-string_bytes, Item, Kind, Limits, List, MatchBool, More, None, NotUtf8, Nul, Ok, Option, Outside, PageTooLong, PlacedCharacter, RawName, Result, Scanned, Scanning, Some, Spot, Stop, StrictText, Syntax, TagState, TagTooLong, Token, Utf8Step, Xhtml, [], after_token, all_scalars, ampersand, and-false, and-true, and_from, and_parts, and_right, answer_is, answer_of, answers_from, ap, append-nil, append_assoc, arith, as_line_end, begins_append, begins_declaration, begins_with, both, by_test, byte_order_mark, carriage_return, cased_char, character, chars, chars-append, codes, comment, common_steps, completed, cond, cond-false, cond-true, doctype, drop, drop-append_seam, either, encode_ascii, encode_utf8, encode_utf8_all, ends_comment, ends_with, entering, eq-eqb, eqb-false, eqb-true, equal, false, fault_in, first_of, first_whole, fresh, get_or, has_markup, has_references, has_sections, if◌then◌else◌, inl, inr, is_closing, is_doctype, is_empty, is_known_tag, is_last, is_line_feed, is_literal, is_strict_literal, is_text, is_too_long, is_white_space, item_content, item_first, item_last, item_of_run, kept, leb-false, leb-true, len_utf8_bounds, length, length-append, length-drop, length-encode, length-map, length-take-le, less_than_sign, line_feed, list_all, lit<, lowered, lowered_char, lt-leb, map, map-append, meaning, meets_opening, name_of_raw, nat_le, nat_tests, ne_eqb, not, not_both_ways, or_from, or_left, or_parts, or_right, parts_of, read_answer, read_byte, read_char, read_entry, reference, refl, same, scan_fault, scan_from, section, slice_get, slice_get-get_or, snoc_front, snoc_last, split, starts_at, string_bytes, subst, suc, sym, tables_agree, tag, tag_of, tag_on, tag_on-append, tag_step, take, take-append-drop, take_more, text_of, token_at, token_of_item, told, told_first, true, untrue, values, values_append, with_item, zero, ℕ, ◌&&◌, ◌++◌, ◌+◌, ◌-◌, ◌<◌, ◌==◌, ◌^◌, ◌||◌, ◌∙◌, ◌∷◌, ◌≡◌, ◌≢◌, ◌≤◌, ◌⊎◌}
pub use Rattle.rx_pages.proofs.EndedRuns.{ended_kept}
pub use Rattle.rx_pages.proofs.FrontOn.{goes_more, no_nul_more}
pub use Rattle.rx_pages.proofs.KnownTags.{TagVerdict, a_tag, known_more, known_verdict, one_unknown}
pub use Rattle.rx_pages.proofs.Pending.{goes_at, not_whole}
pub use Rattle.rx_pages.proofs.Pends.{occurs}
pub use Rattle.rx_pages.proofs.Reading.{markup_is, raw_is}
pub use Rattle.rx_pages.proofs.Spellings.{reads_each}
pub use Rattle.rx_pages.proofs.TokensWalk.{flags_behind, item_is, kept_literal, two_lasts}
pub use Rattle.rx_pages.specs.PageReader.{holding, passed_over, scan_on, with_items}
pub use Rattle.rx_reader.proofs.Common.{BadReference, UnknownReference, add-one, ascii-same, begins, begins_end, begins_markup, begins_tag, between, both_ways, cases_lt, checked, ends_name, has_less_than, is_ascii, is_begun, is_body, is_digit, is_hexadecimal_digit, is_html_syntax, is_known_after, is_known_end, is_known_raw, is_letter, is_letter_or_digit, is_name, is_tag_char, is_x, keeps_runs, list_all-append, lt-ltb, move_of, moved, no_meaning, raw_name, run_move, same_self, solidus, stops_end, take-add, take-append_seam, take_rest}
pub use Rattle.rx_reader.specs.declared.phases.RunMove.{RunMove}
pub use Rattle.rx_reader.specs.declared.phases.RunPhase.{RunPhase}
pub use Rattle.rx_scan.specs.Buffers.{Buffered}
pub use Rattle.rx_scan.specs.Bytes.{IsOfTag}
pub use Rattle.rx_scan.specs.Fronts.{FeedsFront, TellsFront, tells_text, with_state}
pub use Rattle.rx_scan.specs.Marks.{after_bang, after_dash, after_section, after_strict, after_strict_dash, are_two, at_bracket, end_word, in_bogus, in_comment, in_instruction, may_close}
pub use Rattle.rx_scan.specs.Meant.{Goes, Means}
pub use Rattle.rx_scan.specs.Openings.{OpensFront, OpensTag, ReadsFront, of_opening, of_tag, of_text, with_tag_mark}
pub use Rattle.rx_scan.specs.Pending.{Behind, CommentEnds, DoctypeEnds, DoctypeIs, InLessThan, InOpened, InOpening, InRawEnd, InRun, InTag, Pending, Pends, PendsAs, SectionEnds, StrictEnds, bracket_text, end_phase, first_char, has_bang, has_dash, has_dashes, has_strict_dash, has_strict_dashes, is_one, is_start, is_start_dash, judge_of, phase_of, run_on}
pub use Rattle.rx_scan.specs.Places.{begun, cut, ended, entered, fed, text_passed}
pub use Rattle.rx_scan.specs.Plain.{ends_ascii, is_plain_ascii, is_plain_char, is_stop}
pub use Rattle.rx_scan.specs.Scanner.{Reading, Scanner, reading_spot}
pub use Rattle.rx_scan.specs.Spelled.{AllBefore, AllInside, AllMayCome, EntersCharacter, FirstFault, FitsWith, IsNoToken, Left, MayCome, RefusesByte, RefusesWhatIsFaulty, ScanSpells, ScansWhatIsSpelled, StepAnswers, StepsSpell, TokensAreWhole, brackets_behind, decided, ends_in_return, has_character, is_over, known_too_long, late_doctype, not_utf8, nul, page_too_long, section_end, spelled_entries, tag_too_long}
pub use Rattle.rx_scan.specs.Steps.{Advances, Faults, HasMark, IsOne, MarkAlone, MayLend, Prepared, ReadsAs, Runs, ScanStands, Skips, Steps, TellsTokens, Took, a_comment, a_line_feed, a_mark, after_some, an_empty_section, is_nothing, is_of_syntax, is_quiet, is_tag, is_token, joined, keeps_first, mark_bytes, moved_inside, setting_after, skips_token, stopped_at, texts_of}
pub use Rattle.rx_scan.specs.WholeReferences.{BeginsReference, IsReference, TellsLineEnd, TellsReference, TellsText, body_from, body_length}
pub use Rattle.rx_tags.proofs.TakeLemmas.{match_by, some_count}
pub use Rattle.rx_tags.specs.Fronts.{GoesBy, GoesTo, is_printed}
pub use Rattle.rx_tags.specs.TagBufs.{MayStep, StepGives, TagSoFar, TakesMore, TakesWhole, no_tag}
pub use Rattle.rx_terms.proofs.Common.{encodes-chars, zip2_splat}
