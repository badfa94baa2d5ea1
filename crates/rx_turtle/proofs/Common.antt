-- The names of Turtle's writer that most proofs here cite, passed on from one place. Declares nothing.
pub use Rattle.rx_graph.proofs.SetLemmas.{distinct_apart, distinct_grows, one_more, seen_more}
pub use Rattle.rx_graph.specs.Resources.{AreDistinct, number_in, resource_seen}
pub use Rattle.rx_model.proofs.Common.{Among_distinct, Among_of_distinct, exact_nodes, false_unless, kind_seen, node_seen, slice_get-map, take-append-drop, triple_seen, triples_seen, with_one}
pub use Rattle.rx_notation.proofs.Chosen.{best_among, front_and_rest, used_of}
pub use Rattle.rx_notation.proofs.Common.{Among, Among-contains, Among_by_contains, Among_cases, Among_of_filter, Apart, Blank, Bool, Chars, Iri, IsIri, IsWritable, Kind, List, Literal, Node, None, Option, Plain, Prefix, Prefixes, Resource, Some, Tagged, Term, Triple, Typed, WritableKind, WritableNode, WritableTerm, WritableText, [], about, and_from, and_parts, ap, append-nil, append_assoc, ap₂, arith, bytes_eq, chars, chars-encodes, codes, cond, contains, distinct, exact_numbers, exact_prefixes, exact_texts, false, filter, filter_map, flat_map, has_predicate, if◌then◌else◌, inl, inr, iris_of, is_local_name, is_name_char, is_prefix_name, is_top, length, list_all, list_any, local_name, map, map-append, names_apart, names_rise, nat_eq, nat_tests, nested, not, object_says, objects_of, predicate_says, predicates_of, prefix_fits, prefix_of, prefix_text, prefixes_text, prefixes_used, proper_triple, rdf_first, rdf_rest, rdf_type, refl, rising, same_node, same_nodes, same_prefix, spo, statement_of, subject_says, subjects, subst, suc, sym, true, true≢false, turtle, zero, ℕ, ◌&&◌, ◌++◌, ◌+◌, ◌<◌, ◌==◌, ◌||◌, ◌↔◌, ◌∙◌, ◌∷◌, ◌≡◌, ◌≤◌}
pub use Rattle.rx_notation.proofs.Ordered.{before_all, not_after, passes}
pub use Rattle.rx_notation.specs.Layout.{kind_suffix, object_text, predicate_text, resource_text, separated, short_iri, short_predicate, statement_text, used}
pub use Rattle.rx_notation.specs.Short.{best, is_byte_less, preferred, shortens}
pub use Rattle.rx_nquads.specs.Quads.{quads}
pub use Rattle.rx_pieces.proofs.Adding.{adds_by, adds_failed, adds_nothing, adds_then, behind_words, between, iri_before, iri_of, literal, text_of}
pub use Rattle.rx_pieces.proofs.Sending.{bytes_by, end_stands, holds_text, whole_sent}
pub use Rattle.rx_pieces.specs.Underway.{AddsBytes, Delivery, delivery}
pub use Rattle.rx_pieces.specs.Writable.{Adds, WritableIri, WritableTriple}
pub use Rattle.rx_shapes.proofs.Grouped.{same_back}
pub use Rattle.rx_terms.proofs.Common.{Bor, Err, IsUtf8, IsUtf8-from_is_utf8, MatchOption, Ok, Result, all_scalars, and_right, append_cancel_left, ascii-chars, ascii-same, begins_with, drop, drop-map, drop_of_length-le, encodes-append, encodes-chars, encodes_same, get_or, get_or-take, has_forbidden, has_scheme, is_ascii, is_err, is_iri, is_ok, is_utf8, is_utf8-from_IsUtf8, length-map, nat_lt, on_ok_weaker, option_or, option_to_list, or_parts, or_right, replicate, rules, slice_get, slice_get-get_or, slice_get_read, slice_set, take, take-map, take_all, ◌-◌}
pub use Rattle.rx_turtle.specs.Due.{AddsStatement, After, AreCells, AreGraphTokens, Comes, Due, IsSource, IsSubject, Object, Say, all_said, behind, behind_due, bracket_due, cell_due, due_on, due_pieces, first_due, iri_due, item_due, line_due, lines_due, next_due, node_due, object_due, objects_due, one_due, one_said, opened, parted, rest_due, shapes_of, source_triples, statement_due, tail_at, tail_due, task_seen, term_due, verb_due}
pub use Rattle.rx_turtle.specs.Groups.{Keyed, group_key, group_keys, group_seen, grouped, has_key, keys_by, put_in, taken_at, taken_in}
pub use Rattle.rx_turtle.specs.Rows.{AreRows, IsRow}
pub use Rattle.rx_turtle.specs.Runs.{Said, all_in, by_predicate, like_first, put_before, runs, said_by, said_in, starts_with_key}
pub use Rattle.rx_turtle.specs.Shorts.{IsPlace, IsPrefixedName, begins_local, place_at, place_below, place_from, prefix_place, stands_for}
pub use Rattle.rx_turtle.specs.Tokens.{Fixed, IriOrLabel, Quoted, Shown, Verb, WritableShown, iris_of_shown, piece_of, pieces_of, shown_text, shown_texts, token_seen, tokens_seen, words_text}
pub use Rattle.rx_turtle.specs.Uses.{chosen, marked, marked_all, unmarked, used_marks}
pub use Rattle.rx_turtle.specs.Written.{first_line, first_statement, group_text, objects_text, plan, plan_text, said_text, statements_text}
pub use Rattle.std.proofs.Common.{IsSome, find}
pub use Rattle.std.proofs.lemmas.List.{length-take-le}
pub use Rattle.std.specs.Prelude.{option_map}
