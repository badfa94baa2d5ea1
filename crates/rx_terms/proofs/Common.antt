-- The names of texts that most proofs above cite, passed on from one place. Declares nothing.
pub use Rattle.rx_terms.proofs.Bools.{both, by_test, either, not_both_ways, same_truth, split, untrue}
pub use Rattle.rx_terms.proofs.CharLemmas.{ascii-chars, ascii-same, ascii-utf8, chars-end, same-ascii, same-chars}
pub use Rattle.rx_terms.proofs.OkLemmas.{ok_is}
pub use Rattle.rx_terms.specs.Ascii.{ampersand, apostrophe, carriage_return, colon, equals_sign, full_stop, greater_than_sign, hyphen, is_ascii, is_digit, is_letter, is_letter_or_digit, is_white_space, less_than_sign, line_feed, lowered_char, number_sign, plus_sign, quotation_mark, reverse_solidus, right_bracket, semicolon, solidus}
pub use Rattle.rx_terms.specs.Iri.{IsIri, begins_with_letter, begins_with_scheme, has_forbidden, has_scheme, is_forbidden, is_iri, is_scheme, is_scheme_char}
pub use Rattle.rx_terms.specs.Lang.{are_subtags, is_lang, is_subtag, is_subtag_char, subtags}
pub use Rattle.rx_terms.specs.Literal.{xsd_string}
pub use Rattle.rx_terms.specs.Text.{Chars, begins_with, ends_token, front_grows, is_empty, lowered, onto_first, seen_slice, split_at, tokens, trimmed, without_leading_space}
pub use Rattle.std.proofs.Common.{Bool, Bor, Contains, Equal, Err, Fits, Greater, IfNone, IfOk, IsTrue, Less, List, MatchOption, None, Ok, OnErr, OnOk, Option, Ordering, Result, Some, [], add-one, ap, append-nil, append_assoc, ap₂, arith, bytes_eq, codes, cond, drop, drop-cons, drop_of_length-le, encode_utf8, encode_utf8_all, eqb, eqb-true, false, filter, filter_map, flat_map, get_or, inl, inr, is_err, is_none, is_ok, leb, length, length-append, length-take-le, lit<, map, max, nat_cmp, nat_eq, nat_lt, option_map, option_to_list, position, refl, replicate, reverse, rules, set, slice_get, slice_set, subst, subst₂, suc, sym, take, take-add, true, true≢false, vec_len, w8, zero, ℕ, ⊎_elim, ◌%◌, ◌*◌, ◌++◌, ◌+◌, ◌-◌, ◌/◌, ◌<◌, ◌^◌, ◌↔◌, ◌∙◌, ◌∷◌, ◌≡◌, ◌≢◌, ◌≤◌, ◌⊎◌}
pub use Rattle.std.proofs.Math.Bool.{and-false, and-true, or-false, or-true}
pub use Rattle.std.proofs.Math.Seq.{drop-append_seam, get_or-append_seam, take-append_seam, take-suc}
pub use Rattle.std.proofs.lemmas.Bool.{agree_below, agree_below_at, and_from, and_parts, and_right, both_ways, cases_lt, cond-false, cond-true, eq-eqb, eqb-false, false_from_ne_true, false≢true, le-leb, leb-true, lt-ltb, ltb-true, ne_eqb, or_from, or_left, or_parts, or_right}
pub use Rattle.std.proofs.lemmas.Bool.Decides.{Decides-eqb, nat_tests, same_from_decides}
pub use Rattle.std.proofs.lemmas.Cmp.{alike_right, nat_list_cmp_total}
pub use Rattle.std.proofs.lemmas.Fmt.{IsAscii-decimal, decimal_digit, decimal_nonempty, decimal_step, length-decimal-le}
pub use Rattle.std.proofs.lemmas.Fn.{always_returns_same}
pub use Rattle.std.proofs.lemmas.Grind.{common_steps, flat_map-append}
pub use Rattle.std.proofs.lemmas.List.{append_cancel_left, at_drop_all, at_drop_more, drop-drop, drop-map, drop-set, drop_all, get_or-drop, get_or-map, get_or-set_other, get_or-take, length-drop, length-map, length-set, length-take, map-append, map-set, reverse-append, reverse-reverse, take-append-drop, take-map, take-take, take_all, take_at, take_more, take_rest}
pub use Rattle.std.proofs.lemmas.List.Elements.{Contains-append_cases, Contains-append_left, Contains-append_right, filter-append, filter_map-append}
pub use Rattle.std.proofs.lemmas.List.Folds.{list_all-append, list_all_at, list_any-append}
pub use Rattle.std.proofs.lemmas.List.Sorted.{IsNonDecreasingBy-from_sort_by_key, answers_always, ranks_by, searchable_from_sorted}
pub use Rattle.std.proofs.lemmas.List.Sums.{fails_before_first, passes_at_first, position_or_len_is, prefix_len-le-length, sum_by-cons, take_while-cons}
pub use Rattle.std.proofs.lemmas.Map.Text.{is_eq-slice_cmp}
pub use Rattle.std.proofs.lemmas.Option.{cond_some, get_or_from_slice_get, none-some, slice_get-get_or, slice_get_read, slice_get_within}
pub use Rattle.std.proofs.lemmas.Result.{IfOk-weaker, on_ok_weaker}
pub use Rattle.std.proofs.lemmas.Simd.{leading_from_mask_l, mask_l-mod, trailing_mask_l, zip2_of_maps, zip2_splat}
pub use Rattle.std.proofs.lemmas.Slice.Eq.{bytes_eq-Decides}
pub use Rattle.std.proofs.lemmas.Str.{IsCharBoundary-at_seam, IsCharBoundary-before_ascii, IsCharBoundary-end, IsCharBoundary-from_drop, IsCharBoundary-from_take, IsCharBoundary-start, IsUtf8-append, IsUtf8-drop, IsUtf8-encode, IsUtf8-from_is_utf8, IsUtf8-nil, IsUtf8-past_char, IsUtf8-string_bytes, IsUtf8-take, byte_from_char, char_from_byte, chars-append, chars-encodes, chars-nil, chars_from_encodes, chars_past_char, encode_ascii, encodes-append, encodes-chars, encodes_same, is_utf8-from_IsUtf8, len_utf8_bounds, length-encode, scalars-chars}
pub use Rattle.std.proofs.lemmas.Str.Pattern.{IsSplitOnceResult, drop_at_char, split_parts, strip_suffix_char}
pub use Rattle.std.specs.BTreeMap.{BTreeMap, insert_entry, is_at}
pub use Rattle.std.specs.Char.{IsScalar, is_ascii_digit, is_ascii_whitespace, len_utf8, to_ascii_lowercase}
pub use Rattle.std.specs.Cmp.Lexicographic.{bytes_decides, pointwise, slice_cmp}
pub use Rattle.std.specs.Fmt.{decimal}
pub use Rattle.std.specs.List.{AllByRecursion, IsDistinct, cons_option, find, list_all, list_any, position_or_len, prefix_len, take_while}
pub use Rattle.std.specs.List.Sorted.{IsNonDecreasingBy, IsPartitionPoint, IsSortedBy}
pub use Rattle.std.specs.Option.{option_eq, option_or}
pub use Rattle.std.specs.Ordering.{is_eq, is_lt, match_ordering, ordering_reverse}
pub use Rattle.std.specs.Prelude.{IfSome, MatchBool, if◌then◌else◌, is_some, nat_le, not, option_and_then, slice_index_or, string_bytes, unwrap_or, ⊤, ◌&&◌, ◌==◌, ◌||◌}
pub use Rattle.std.specs.Str.{IsCharBoundary, IsTrimAsciiStart, IsUtf8, all_scalars, chars, is_utf8}
pub use Rattle.std.specs.Str.Iter.{bytes_rest, chars_rest}
pub use Rattle.std.specs.Str.Pattern.{FindsChar, FindsCharPrefix, FindsCharSuffix, FindsTextPrefix, HasCharAt, RFindsChar}
pub use denote.Shadow.{shadow}
pub use denote.Text.{Utf8}
pub use lib.Utf8.{encode, encodes, scalar}
