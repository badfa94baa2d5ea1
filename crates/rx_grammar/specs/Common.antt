-- The names of a page that most definitions and contracts above cite, passed on from one place. Declares nothing.
pub use Rattle.rx_chars.specs.Characters.{PlacedCharacter, as_line_end, byte_order_mark}
pub use Rattle.rx_chars.specs.Utf8.{BeginNone, IsCharacter, answer_of, is_in, tail}
pub use Rattle.rx_chars.specs.declared.syntax.Syntax.{Syntax}
pub use Rattle.rx_chars.specs.declared.syntax.Syntax.TheVariants.{Html, Xhtml}
pub use Rattle.rx_grammar.specs.Begun.{Begun, Line, Phase, Stands, after, before, inside_of, parent_of, within}
pub use Rattle.rx_grammar.specs.Contents.{Place, drops_line_feed, hides, in_html, inside_html, is_alone, is_foreign_root, is_html, is_plaintext, is_self_closed, is_void, outside, place_inside}
pub use Rattle.rx_grammar.specs.Items.{AllFit, Item, Spelled, is_line_feed, is_literal, is_strict_literal, last_from, next_of, no_section_end, start_tag_of, text_of, values}
pub use Rattle.rx_grammar.specs.Names.{is_among, name_of_raw, paragraph_enders, row_of, same, table_parts}
pub use Rattle.rx_grammar.specs.Omission.{enders, has_row, is_held, is_omissible, names_listed}
pub use Rattle.rx_grammar.specs.PageFaults.{FaultAt, Faulty, IsPart, IsPending, IsShort, Reached, Rows, Unfinished, after_end, ends_in_brackets, first_row, is_before_root, is_known_tag, meets_opening, tag_rows, token_of, under_start}
pub use Rattle.rx_grammar.specs.Pages.{Page, has_no_nul, root_name, shown}
pub use Rattle.rx_grammar.specs.References.{Denotes, is_begun, is_body, is_hexadecimal_digit, is_name, is_plain, is_x, meaning, value_char}
pub use Rattle.rx_grammar.specs.Spelling.{Spells, begins_end, begins_markup, ends_comment, ends_with, exclamation_mark, has_less_than, has_markup, has_references, has_sections, is_text, keeps_runs, raw_name, stops_end}
pub use Rattle.rx_grammar.specs.Tags.{SpellsTag, cased_char, firsts, has_repeat, is_repeated}
pub use Rattle.rx_grammar.specs.Tokens.{Attribute, Tag, Token, character, comment, doctype, kept, reference, section, tag, value_of}
pub use Rattle.rx_grammar.specs.Trees.{StartTag, Tree, after_text, element, end, text}
pub use Rattle.rx_terms.specs.Common.{Bor, Chars, IsUtf8, ampersand, apostrophe, begins_with, between, chars, equals_sign, greater_than_sign, hyphen, is_ascii, is_digit, is_empty, is_letter, is_letter_or_digit, is_white_space, left_bracket, less_than_sign, line_feed, list_all, list_any, lowered, lowered_char, nat_cmp, number_sign, question_mark, quotation_mark, right_bracket, seen_slice, semicolon, slice_cmp, solidus, tokens}
pub use Rattle.std.specs.Str.{all_scalars}
pub use Rattle.rx_terms.specs.Ascii.{carriage_return}
