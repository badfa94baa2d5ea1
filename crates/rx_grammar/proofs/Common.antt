-- The names of a page that most proofs above cite, passed on from one place. Declares nothing.
pub use Rattle.rx_chars.proofs.Utf8Exact.{answer_is}
pub use Rattle.rx_chars.proofs.Utf8Forms.{tables_agree}
pub use Rattle.rx_chars.specs.Characters.{IsRead, PlacedCharacter, as_line_end, byte_order_mark, line_end_entry, placed, preprocessed, without_mark}
pub use Rattle.rx_chars.specs.Utf8.{BeginsCharacter, IsCharacter, Leaves, answer_of, is_in, is_well_formed, scalar_value, tail}
pub use Rattle.rx_chars.specs.declared.syntax.Syntax.{Syntax}
pub use Rattle.rx_chars.specs.declared.syntax.Syntax.TheVariants.{Html, Xhtml}
pub use Rattle.rx_chars.specs.declared.utf8.Utf8Step.{Utf8Step}
pub use Rattle.rx_chars.specs.declared.utf8.Utf8Step.TheVariants.{Bad, Char, More}
pub use Rattle.rx_grammar.specs.Begun.{Begun, Line, Open, Phase, Stands, a_child, a_root, after, before, ended, enders_of, inside_of, not_begun, parent_of, still_open, within}
pub use Rattle.rx_grammar.specs.Contents.{Place, drops_line_feed, hides, html_in_svg, in_html, inside_html, is_alone, is_foreign, is_foreign_root, is_html, is_plaintext, is_self_closed, is_void, outside, place_inside}
pub use Rattle.rx_grammar.specs.Items.{AllFit, Fits, Item, Spelled, is_line_feed, is_literal, is_strict_literal, last_from, next_of, no_more, no_section_end, one, start_tag_of, text_of, values}
pub use Rattle.rx_grammar.specs.Kinds.{is_of_meaning}
pub use Rattle.rx_grammar.specs.Laws.{OneTree}
pub use Rattle.rx_grammar.specs.Names.{holding_names, is_among, name_of_raw, omissible_rows, row_among, row_of, same, void_names}
pub use Rattle.rx_grammar.specs.Omission.{enders, ends_by_token, has_row, is_ended_by, is_held, is_omissible, names_listed}
pub use Rattle.rx_grammar.specs.PageFaults.{Before, FaultAt, Faulty, IsPending, IsShort, Reached, Rows, Unfinished, after_end, after_start, end_rows, first_row, has_ended, is_before_root, is_innermost, is_known_tag, is_opening_begun, meets_opening, start_rows, tag_rows, token_of, under_start}
pub use Rattle.rx_grammar.specs.Pages.{Document, Page, has_no_nul, root_name, shown}
pub use Rattle.rx_grammar.specs.References.{Denotes, begins_number, digit_value, is_begun, is_body, is_hexadecimal_digit, is_name, is_plain, is_x, meaning, number_from, one_or_more, stops_at}
pub use Rattle.rx_grammar.specs.Shapes.{Shape, a_start, an_end, begins, begins_attribute, begins_tag, continues_attribute, ends_in_solidus, ends_name, first_then, is_attribute_char, is_gap, is_last_gap, is_quote, is_strict_char, is_strict_end, is_strict_start, is_tag_char, is_unquoted, is_unquoted_char}
pub use Rattle.rx_grammar.specs.Spelling.{IsBefore, IsDoctype, IsFirst, Spells, a_bogus_comment, a_character, a_comment, a_doctype, a_kept_run, a_less_than, a_question, a_raw_run, a_reference, a_section, a_strict_comment, a_tag, an_end_of_raw, an_instruction, begins_declaration, begins_end, begins_markup, doctype_word, ends_comment, ends_with, has_less_than, has_markup, has_references, has_sections, is_text, keeps_runs, raw_name, stops_end}
pub use Rattle.rx_grammar.specs.TagFaults.{BeginsNoShape, BeginsShape, BeginsTag, DecidesValue, EndsValue, Faultless, IsInValue, RunFault, TagFault, ValueFault, bad, bad_tag, double, in_run, in_value, less_than, no_mark, no_reference, repeated, single, unknown}
pub use Rattle.rx_grammar.specs.Tags.{AreRead, Reads, SpellsTag, cased, cased_char, firsts, has_repeat, is_repeated, without}
pub use Rattle.rx_grammar.specs.Tokens.{Attribute, Tag, Token, character, comment, doctype, has_name, kept, reference, section, tag, value_of}
pub use Rattle.rx_grammar.specs.Trees.{StartTag, Tree, after_text, element, end, has_element, text}
pub use Rattle.rx_terms.proofs.Common.{Bool, Bor, Chars, Contains, Err, IfSome, IsUtf8, IsUtf8-append, IsUtf8-encode, IsUtf8-nil, List, MatchBool, MatchOption, None, Ok, Option, Result, Some, Utf8, [], all_scalars, ampersand, and_from, and_parts, ap, apostrophe, append-nil, append_assoc, append_cancel_left, ap₂, arith, ascii-chars, ascii-utf8, begins_with, both, by_test, bytes_decides, cases_lt, chars, chars-append, chars-encodes, chars-nil, chars_from_encodes, common_steps, cond, cond-false, cond-true, decimal, drop, either, encode, encode_ascii, encode_utf8, encode_utf8_all, encodes, encodes-append, eq-eqb, eqb-false, eqb-true, equals_sign, false, false_from_ne_true, filter, filter_map, get_or, get_or-set_other, greater_than_sign, if◌then◌else◌, inl, inr, is_ascii, is_ascii_digit, is_digit, is_empty, is_eq-slice_cmp, is_letter, is_letter_or_digit, is_white_space, le-leb, leb-true, len_utf8, length, length-decimal-le, length-encode, length-take-le, less_than_sign, list_all, list_all-append, list_any, list_any-append, lowered, lowered_char, lt-ltb, ltb-true, map-append, nat_eq, nat_le, nat_lt, nat_tests, none-some, not, not_both_ways, number_sign, or-false, or_left, or_parts, or_right, quotation_mark, refl, right_bracket, same-ascii, same-chars, scalar, seen_slice, semicolon, shadow, slice_cmp, slice_get, slice_index_or, slice_set, solidus, split, subst, suc, sym, take, take-add, take-append-drop, take_rest, tokens, true, untrue, zero, ℕ, ⊎_elim, ◌&&◌, ◌*◌, ◌++◌, ◌+◌, ◌-◌, ◌<◌, ◌==◌, ◌||◌, ◌∙◌, ◌∷◌, ◌≡◌, ◌≢◌, ◌≤◌, ◌⊎◌}
pub use Rattle.std.proofs.Common.{length-drop}
pub use Rattle.std.proofs.Math.Bool.{or_comm}
pub use Rattle.std.proofs.lemmas.Bool.{cond_both, not-false, or_cases}
pub use Rattle.std.proofs.lemmas.Fmt.{digits_decimal}
pub use Rattle.std.proofs.lemmas.Grind.{get_or-set_at}
pub use Rattle.std.proofs.lemmas.List.{append_cancel_right, get_or-set_same, get_or_append_left, length-append}
pub use Rattle.std.proofs.lemmas.List.Elements.{All-contains, All-filter, All-weaker}
pub use Rattle.std.specs.Prelude.{codes, find}
pub use Rattle.rx_terms.specs.Ascii.{carriage_return, line_feed}
