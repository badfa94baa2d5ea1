-- The names of RDF that most proofs above cite, passed on from one place. Declares nothing.
pub use Rattle.rx_model.proofs.Copied.{copies_patterns, of_pair, pattern_true}
pub use Rattle.rx_model.proofs.Exact.{exact_nodes, exact_numbers, exact_terms, exact_texts, exact_triples}
pub use Rattle.rx_model.proofs.Numbered.{numbers_one_to_one, place_tells}
pub use Rattle.rx_model.proofs.Sets.{Among-contains, Among_by_contains, Among_cases, Among_distinct, Among_filter, Among_filter_map, Among_flat_map, Among_left, Among_map, Among_of_distinct, Among_of_filter, Among_of_filter_map, Among_of_flat_map, Among_of_map, Among_right, and_left, and_right, false_unless, or_cases, or_left, or_right, under_cond}
pub use Rattle.rx_model.specs.Copied.{Closed, PairsLead, copied, copied_from, edge, edges, given, held, here, is_pattern, is_referenced, leads, live, onward, pattern_object, patterned, rdfa_copy, rdfa_pattern, replaced, says_pattern, spo, treated, type_pattern}
pub use Rattle.rx_model.specs.Numbered.{Has, Renamed, blank_of_node, blank_of_term, blanks, blanks_of, numbered, place_in, rename, rename_node, rename_term}
pub use Rattle.rx_model.specs.Seen.{SeenOneToOne, kind_seen, node_seen, term_seen, triple_seen, triples_seen}
pub use Rattle.rx_model.specs.Sets.{Among, IsExact, contains, distinct, with_all, with_one}
pub use Rattle.rx_model.specs.Terms.{Blank, Graph, Iri, Kind, Literal, Node, Plain, Resource, Tagged, Term, Triple, Typed, same_node, same_term, same_triple, set_of}
pub use Rattle.rx_model.specs.Vocabulary.{rdf_first, rdf_nil, rdf_rest, rdf_type}
pub use Rattle.rx_terms.proofs.Common.{Bool, Bor, Chars, Decides-eqb, Equal, Err, Greater, IfOk, IfSome, Less, List, None, Ok, OnErr, OnOk, Option, Ordering, Result, Some, [], and_from, and_parts, ap, append-nil, append_assoc, append_cancel_left, ap₂, arith, begins_with, by_test, bytes_eq, bytes_eq-Decides, carriage_return, cases_lt, chars, chars-encodes, codes, cond, cons_option, decimal, decimal_digit, drop, drop-cons, drop_of_length-le, encode_utf8_all, encodes-append, false, filter, filter-append, filter_map, filter_map-append, find, flat_map, flat_map-append, full_stop, get_or, get_or-set_other, get_or_from_slice_get, greater_than_sign, hyphen, if◌then◌else◌, inl, inr, is_eq-slice_cmp, is_err, is_forbidden, is_lang, is_lt, is_none, is_ok, is_subtag_char, length, length-append, length-map, length-set, less_than_sign, line_feed, list_all, list_any, map, map-append, nat_cmp, nat_eq, nat_list_cmp_total, nat_lt, nat_tests, number_sign, on_ok_weaker, option_map, option_or, option_to_list, or-false, or-true, or_parts, pointwise, position_or_len, quotation_mark, refl, replicate, reverse, reverse-append, reverse-reverse, reverse_solidus, rules, same_truth, slice_get, slice_get-get_or, slice_get_within, slice_set, subst, suc, sum_by-cons, sym, take, take-add, take-suc, take_all, take_at, true, true≢false, untrue, xsd_string, zero, ℕ, ⊎_elim, ◌++◌, ◌+◌, ◌-◌, ◌<◌, ◌^◌, ◌↔◌, ◌∙◌, ◌∷◌, ◌≡◌, ◌≢◌, ◌≤◌, ◌⊎◌}
pub use Rattle.rx_terms.proofs.OkLemmas.{on_ok_both}
pub use Rattle.rx_terms.specs.Ascii.{circumflex_accent, commercial_at, low_line, space}
pub use Rattle.std.proofs.Common.{Global, Vec, bit_and, is_eq, not, take-append-drop, ◌&&◌, ◌==◌, ◌||◌}
pub use Rattle.std.proofs.lemmas.Cmp.{tied_itself}
pub use Rattle.std.proofs.lemmas.Fmt.{decimal_is_IsNumeral, first_decimal}
pub use Rattle.std.proofs.lemmas.List.{drop_at, get_or-set_same, get_or_default, take-append-le}
pub use Rattle.std.proofs.lemmas.List.Sorted.{IsPermutation-append, IsPermutation-cons, IsPermutation-middle, IsPermutation-refl, IsPermutation-trans, sum_by-IsPermutation}
pub use Rattle.std.proofs.lemmas.Option.{slice_get-map}
pub use Rattle.std.specs.Char.{digit_value}
pub use Rattle.std.specs.List.{sum_by}
pub use Rattle.std.specs.List.Sorted.{IsNonDecreasing, IsPermutation}
