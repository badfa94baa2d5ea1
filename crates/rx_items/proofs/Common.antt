-- The names of items that most proofs here cite, passed on from one place. Declares nothing.
pub use Rattle.rx_items.specs.Collecting.{BaseIs, BaseMoves, Collects, MicrodataSetting, after_sign, microdata_way, told_all}
pub use Rattle.rx_items.specs.Expanding.{BeginsVisit, FaultIs, GivesUnlessFault, HasFault, HeldOnPath, NamedProperty, NoFault, again, data_of, path_places, steps_in, steps_of, token_count, visit_fault, visits_in, visits_of, with_name}
pub use Rattle.rx_items.specs.Growing.{GathersNoText, Growing, nothing_kept, with_said}
pub use Rattle.rx_items.specs.Held.{AllStand, AreTokens, AtPlace, FirstRowsFit, GivesProperties, HoldsRows, IsElement, NamesAt, OfRows, RowsAreNumbered, ShowsElement, ShowsTokens, is_there, names_beside, others_beside, own_beside, row_places, types_beside}
pub use Rattle.rx_items.specs.Ids.{Looks, LooksFor, LooksWhere, has_itemref, id_place, look_in}
pub use Rattle.rx_items.specs.Members.{AddsItem, AddsMembers, AllBelow, AreBelow, AreMembers, FirstBelow, IsNamed, Rises, RunOf, Sorted, member_key, next_place, row_key, scope_number, scope_of}
pub use Rattle.rx_items.specs.Named.{ending_events, events_behind, grouped_at, key_seen, keys_at, keys_seen, name_keys, name_seen, opening, value_at, value_behind, value_if}
pub use Rattle.rx_items.specs.Pages.{IsTextOf, JsonGives, TextGives, VisitsGive, page_data, top_data, top_visits}
pub use Rattle.rx_items.specs.Properties.{are_listed, follows_place, gathered, in_runs, is_other, members_in, rise_behind}
pub use Rattle.rx_items.specs.Rows.{RowsSuffice, behind_row, is_valued, matters, needed, outcome_in, properties_in, row_count, rows_from, rows_of, with_row}
pub use Rattle.rx_items.specs.Showing.{ShowsPart, ShowsRow, ShowsRows, ShowsValue, ShowsWord, TablesShow, after, nothing_grown, tag_in}
pub use Rattle.rx_items.specs.Spans.{IsRun, byte_count}
pub use Rattle.rx_items.specs.Starts.{FromChildren, FromStart, ReachesRow, RunsReach, reach_end}
pub use Rattle.rx_items.specs.Words.{after_id, after_item_id, after_names, after_types, id_in, is_marked, item_id_in, names_in, references_in, span_if, text_of_words, types_in, word_span, word_text, words_of}
pub use Rattle.rx_json.proofs.GrowLemmas.{Left, both, object_made, one, told_as, turn}
pub use Rattle.rx_json.specs.Events.{Grows, data_events, each_events, items_events, members_events}
pub use Rattle.rx_microdata.proofs.Lists.{and_of, and_parts, bool_same, contradiction, first, first_or_later, found_first, kept, later, none, or_left, or_right, three}
pub use Rattle.rx_microdata.specs.Elements.{Placed, count, elements_of, is_absent, is_below, is_item, is_top_level, names_of, placed_from, scope_in}
pub use Rattle.rx_microdata.specs.Facts.{MicrodataFacts, Value, Written, attribute_value, begins_item, distinct_tokens, embedding_names, facts_of, linking_names, own_text, said, source_of, valued_names, without_repeats_of}
pub use Rattle.rx_microdata.specs.Json.{Given, Outcome, Refused, array_items, grouped_members, item_of, json_by, json_of_item, onto, outcome, outcome_by, outcome_of, property_pairs, refused, with_id, with_member, with_types}
pub use Rattle.rx_microdata.specs.Laws.{is_after_scope, is_property_by_scope, is_scope, reaches_by_scope}
pub use Rattle.rx_microdata.specs.Properties.{first_with_id, has_id, is_any, is_same_id, properties}
pub use Rattle.rx_microdata.specs.Visits.{Bounds, Visit, fault_of, first_fault, is_cycle, items_in, standard_bounds, visits_by, visits_from}
pub use Rattle.rx_model.proofs.Common.{Graph, IsPermutation, get_or_default, is_eq, triples_seen}
pub use Rattle.rx_nest.specs.Faults.{MeaningAt, Refuses, for_form, for_meaning}
pub use Rattle.rx_nest.specs.Signs.{Sign, begun, finished, nothing_seen, sees, signs_of}
pub use Rattle.rx_nest.specs.Ways.{IsRefusal, Way, none_refuses}
pub use Rattle.rx_pages.proofs.Common.{Fault, FaultAt, Faulty, Item, Kind, Limits, Page, Rows, StartTag, Stop, Syntax, Tag, Tree, Unended, and_left, codes, element, end, end_rows, first_row, is_among, leb-false, length-append, no_page, one_tree, option_map, same, slice_get, start_rows, start_tag_of, text}
pub use Rattle.rx_rdfa.proofs.Common.{All-contains, Context, Cycle, ItemsTooMany, ItemsTooNested, Triple, Vec, eqb-true, facts, not, read_tag, set-append_seam, set_of, tags_of, value_of, written, written_denotes, ◌&&◌, ◌==◌}
pub use Rattle.rx_reader.proofs.Common.{Attribute, decided, known_too_long, not_utf8, nul, page_too_long, tag_too_long, unended}
pub use Rattle.rx_refs.specs.Resolve.{resolved}
pub use Rattle.rx_terms.proofs.Common.{AllByRecursion, Bool, Chars, Contains, Contains-append_cases, Contains-append_left, Contains-append_right, Equal, Err, Greater, IfOk, IsCharBoundary-at_seam, IsNonDecreasingBy, IsSortedBy, IsTrimAsciiStart, IsUtf8, Less, List, None, Ok, OnOk, Option, Ordering, Result, Some, [], add-one, and_right, ap, append_assoc, append_cancel_left, arith, cases_lt, chars, chars-encodes, chars-nil, cond, cons_option, drop, drop-cons, encode_utf8_all, encodes-append, encodes-chars, eq-eqb, false, filter, filter-append, flat_map-append, get_or, get_or-append_seam, get_or_from_slice_get, if◌then◌else◌, inl, inr, is_ascii, is_ascii_whitespace, leb-true, length, length-map, list_all, list_any, lt-ltb, ltb-true, map, map-append, max, nat_cmp, nat_lt, nat_tests, none-some, not_both_ways, on_ok_weaker, option_or, or_parts, position_or_len, refl, rules, same-ascii, same-chars, scalars-chars, slice_cmp, slice_get-get_or, slice_get_within, slice_index_or, subst, suc, sym, take, take-append-drop, take-append_seam, take_all, tokens, true, true≢false, unwrap_or, zero, ℕ, ⊤, ◌*◌, ◌++◌, ◌+◌, ◌-◌, ◌<◌, ◌||◌, ◌↔◌, ◌∙◌, ◌∷◌, ◌≡◌, ◌≤◌}
pub use Rattle.serde_json.specs.Data.{Data, Items, Members, array, depth, item, items_depth, member, members_depth, no_items, no_members, null, number, object}
pub use Rattle.std.proofs.Common.{is_some, nat_le}
pub use Rattle.std.proofs.lemmas.Bool.{le-ltb, ltb-false}
pub use Rattle.std.proofs.lemmas.List.{append-nil}
pub use Rattle.std.proofs.lemmas.List.Elements.{All-from_recursion, Contains-get_or, Contains-push, Contains-push_cases}
pub use Rattle.std.proofs.lemmas.List.Sorted.{Contains-permutation, IsNonDecreasingBy-drop, IsNonDecreasingBy-push, IsPartitionPoint-from_clause, IsPartitionedBy-ltb, IsPermutation-sym}
pub use Rattle.std.proofs.lemmas.Option.{slice_get_past}
pub use Rattle.std.specs.Cmp.Lexicographic.{nat_list_eq_equiv}
pub use Rattle.std.specs.List.Sorted.{IsStableBy, ties}
pub use Rattle.std.specs.Prelude.{IsErrAnd, filter_map, flat_map, option_to_list, slice_set}
pub use Rattle.std.specs.Str.{bytes_eq}
pub use Rattle.rx_json.specs.Plain.{string_of}
pub use Rattle.rx_rdfa.specs.Tree.{element_text}
pub use mathlib.Core.Logic.{◌⊎◌}
