-- The names of texts that most definitions and contracts above cite, passed on from one place. Declares nothing.
pub use Prim.Native.String.{String}
pub use Rattle.rx_terms.specs.Ascii.{ampersand, apostrophe, between, carriage_return, colon, equals_sign, full_stop, greater_than_sign, hyphen, is_ascii, is_digit, is_letter, is_letter_or_digit, is_white_space, left_bracket, less_than_sign, line_feed, low_line, lowered_char, number_sign, percent_sign, plus_sign, question_mark, quotation_mark, reverse_solidus, right_bracket, semicolon, solidus, space, tab}
pub use Rattle.rx_terms.specs.Iri.{IsIri, begins_with_letter, has_forbidden, has_scheme, is_forbidden, is_iri, is_scheme, is_scheme_char, number_of}
pub use Rattle.rx_terms.specs.Lang.{is_lang, is_subtag_char}
pub use Rattle.rx_terms.specs.Literal.{rdf_lang_string, xsd_string}
pub use Rattle.rx_terms.specs.Text.{Chars, begins_with, ends_token, is_empty, lowered, seen_slice, split_at, tokens, trimmed}
pub use Rattle.std.specs.BTreeMap.{BTreeMap, get, get_by}
pub use Rattle.std.specs.Char.{is_ascii_digit, is_ascii_whitespace}
pub use Rattle.std.specs.Cmp.Lexicographic.{nat_list_eq_equiv, pointwise, slice_cmp}
pub use Rattle.std.specs.Fmt.{decimal}
pub use Rattle.std.specs.List.{AllWithin, flat_map, list_all, list_any, position, position_or_len}
pub use Rattle.std.specs.List.Sorted.{IsNonDecreasingBy, IsPartitionPoint, IsSortedBy, IsStableBy, IsStrictlySortedBy}
pub use Rattle.std.specs.Option.{option_map, option_or}
pub use Rattle.std.specs.Ordering.{is_lt, match_ordering, nat_cmp}
pub use Rattle.std.specs.Str.{IsCharBoundary, IsUtf8, chars, encode_utf8_all}
pub use denote.Ref.{Bor}
