-- What the proofs of this crate cite of the crates below, and of its own definitions.
pub use Rattle.rx_terms.proofs.Common.{Bool, Bor, Chars, Err, FindsChar, FindsCharPrefix, FindsTextPrefix, HasCharAt, IfSome, IsCharBoundary, IsCharBoundary-before_ascii, IsCharBoundary-end, IsCharBoundary-from_drop, IsCharBoundary-from_take, IsCharBoundary-start, IsIri, IsSplitOnceResult, IsUtf8, IsUtf8-append, IsUtf8-drop, IsUtf8-past_char, IsUtf8-string_bytes, IsUtf8-take, List, MatchOption, None, Ok, OnOk, Option, RFindsChar, Result, Some, [], all_scalars, and-false, and_from, and_parts, ap, append_cancel_left, arith, ascii-chars, ascii-same, ascii-utf8, begins_with, begins_with_letter, begins_with_scheme, by_test, bytes_decides, chars, chars-append, chars-encodes, chars-end, chars-nil, chars_from_encodes, chars_past_char, chars_rest, codes, drop, drop-append_seam, drop-drop, drop_all, drop_at_char, encode_ascii, encode_utf8, encodes-append, encodes-chars, false, front_grows, get_or, has_forbidden, has_scheme, if◌then◌else◌, is_ascii, is_empty, is_forbidden, is_scheme, is_scheme_char, is_some, is_white_space, length, length-append, length-drop, length-take, list_all, list_all-append, list_any, list_any-append, lit<, nat_lt, nat_tests, not, ok_is, option_or, or_parts, refl, reverse, reverse-append, reverse-reverse, rules, scalars-chars, seen_slice, split_at, string_bytes, subst, suc, sym, take, take-append-drop, take-append_seam, take-take, take_all, trimmed, true, untrue, without_leading_space, zero, ℕ, ◌%◌, ◌&&◌, ◌*◌, ◌++◌, ◌+◌, ◌-◌, ◌/◌, ◌<◌, ◌==◌, ◌||◌, ◌∙◌, ◌∷◌, ◌≡◌, ◌≢◌, ◌≤◌}
pub use Rattle.rx_refs.specs.Dots.{holds, is, without_last_segment}
pub use Rattle.rx_refs.specs.Parts.{Components, authority_of, before, behind, behind_scheme, delimited, from_first, hierarchical_part, path_of, recomposed, scheme_of}
pub use Rattle.rx_refs.specs.Plain.{IsPlainAbsolute, IsSchemeEnd, IsSite, IsSplit, begins_climb, begins_path, begins_query, climbs, ends_path, folder_from, fragment_from, is_one_slash, is_plain_from, is_plain_reference, is_scheme_byte, is_site_byte, keeps_all, last_solidus, no_dots, parent_steps, path_end_from, ups}
pub use Rattle.rx_refs.specs.Resolve.{cleaned, cleaned_char, digit, escaped, relative_path, through_last_slash}
pub use Rattle.rx_refs.specs.Segments.{Grown, Takes, after_last, after_segment, cut_back, segment_pushed, slashed}
pub use Rattle.rx_refs.specs.Views.{Keeps, seen, seen_path, seen_target}
pub use Rattle.rx_words.proofs.EndLemmas.{begins-front, same_char}
pub use Rattle.std.proofs.lemmas.List.{append-nil, append_assoc, drop-append-le, drop-take, drop_more, take-append-le}
pub use Rattle.std.specs.Str.{NoCharPasses, NonePass, encode_utf8_all}
