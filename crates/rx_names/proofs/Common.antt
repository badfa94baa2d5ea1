-- The names that most proofs here cite, passed on from one place. Declares nothing.
pub use Rattle.rx_grammar.proofs.Common.{list_all-append, slice_cmp}
pub use Rattle.rx_model.proofs.Common.{Ordering, filter-append, find, is_eq-slice_cmp, is_err, is_lt, is_ok, nat_list_cmp_total, on_ok_weaker, sum_by-cons, take-append-drop, take_at, ◌↔◌}
pub use Rattle.rx_names.specs.ContextFiles.{are_known, context_of, context_of_data, table_on}
pub use Rattle.rx_names.specs.Lines.{KeptNames, NamesStand, declared_along, kept_language, kept_prefix, names_kept, tag_pushed, vocabulary_of}
pub use Rattle.rx_names.specs.Marks.{AreMarked, MarksNames, has_mark, mark_bit, name_mark}
pub use Rattle.rx_names.specs.Numbers.{AreNumbered, row_number}
pub use Rattle.rx_names.specs.Rows.{declared, declared_rows, flattened, is_sound, language_attribute, language_in, language_rows, last_of, mapping_rows, one_if_some, prefix_declaration, prefix_in, vocabulary_in, vocabulary_rows}
pub use Rattle.rx_names.specs.Tables.{byte_order, folded, folded_onto, precedes, rise, row_put}
pub use Rattle.rx_tags.specs.Seen.{tag_seen}
pub use Rattle.rx_rdfa.specs.Pages.{token_tag}
pub use Rattle.rx_names.specs.Views.{names_seen}
pub use Rattle.rx_rdfa.proofs.Common.{Bool, Bor, Chars, Context, ElementTag, Err, IsIri, IsUtf8, List, MatchOption, None, Ok, OnOk, Option, Result, Some, Table, Utf8, [], and_from, and_parts, and_right, ap, append-nil, append_assoc, ap₂, arith, as_lang, ascii-chars, attribute, begins_with, bit_and, bit_or, by_test, bytes_eq, bytes_eq-Decides, cases_lt, chars, codes, colon, cond, counts, declared_or, drop, encode_utf8_all, encodes-chars, eq-eqb, false, false_from_ne_true, filter, flat_map-append, get_or, get_or_from_slice_get, has_forbidden, has_scheme, if◌then◌else◌, is_ascii, is_some, language, length, length-append, length-map, list_all, lowered, lowered_char, map, map-append, nat_tests, not, of_prefix, option_and_then, option_map, option_or, or_parts, pairs, pairs_after, prefix_name, refl, reverse, reverse-append, reverse-reverse, rules, seen_slice, shadow, slice_get, slice_get_within, subst, suc, sym, take, take_all, tokens, trimmed, true, true≢false, unless_empty, unwrap_or, value_of, value_of_first, vocab, without_colon, xmlns_of, zero, ℕ, ⊎_elim, ◌&&◌, ◌++◌, ◌+◌, ◌-◌, ◌/◌, ◌<◌, ◌==◌, ◌||◌, ◌∙◌, ◌∷◌, ◌≡◌, ◌≢◌, ◌≤◌}
pub use Rattle.rx_rdfa.specs.Names.{declarations, prefix, table_value, term}
pub use Rattle.rx_terms.proofs.Common.{IsNonDecreasingBy, IsPartitionPoint, IsSortedBy, IsTrue, IsUtf8-from_is_utf8, alike_right, always_returns_same, bytes_rest, drop-map, encodes_same, false≢true, is_eq, is_iri, is_utf8, is_utf8-from_IsUtf8, list_all_at, match_ordering, ordering_reverse, same_from_decides, searchable_from_sorted, take-map, take-take, take_more, to_ascii_lowercase}
pub use Rattle.rx_unique.proofs.SearchLemmas.{earlier-below, front-at, nearer, reach}
pub use Rattle.serde_json.specs.View.{members_view, view}
pub use Rattle.std.specs.List.{flat_map}
pub use Rattle.std.specs.Ordering.{nat_cmp, ordering_index}
pub use Rattle.rx_terms.specs.Iri.{number_of}
