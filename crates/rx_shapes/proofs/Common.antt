-- What the proofs of this crate cite of the crates below, and of its own definitions.
pub use Rattle.rx_model.proofs.Common.{Among, Among_cases, Among_distinct, Among_filter, Among_left, Among_map, Among_of_distinct, Among_of_filter, Among_of_map, Among_right, Blank, Bool, Chars, Decides-eqb, Iri, IsExact, List, Literal, Node, None, Option, Resource, Some, Term, Triple, [], and_left, and_right, ap, append-nil, append_assoc, ap₂, arith, by_test, bytes_eq, cond, distinct, drop, exact_nodes, exact_numbers, exact_texts, exact_triples, false, false_unless, filter, get_or, get_or-set_other, get_or-set_same, get_or_default, get_or_from_slice_get, inl, inr, length, length-append, length-map, length-set, map, nat_eq, nat_lt, nat_tests, node_seen, not, option_map, option_to_list, rdf_first, rdf_nil, rdf_rest, refl, replicate, rules, same_node, same_triple, same_truth, set_of, slice_get, slice_get-get_or, slice_get_within, slice_set, spo, subst, suc, sym, take, take_all, triple_seen, triples_seen, true, true≢false, under_cond, zero, ℕ, ◌&&◌, ◌++◌, ◌+◌, ◌-◌, ◌<◌, ◌==◌, ◌↔◌, ◌∙◌, ◌∷◌, ◌≡◌, ◌≤◌, ◌⊎◌}
pub use Rattle.rx_terms.proofs.Common.{position}
pub use Rattle.rx_graph.proofs.PatternLemmas.{contains_added, empty_more, number_same, number_small, number_there}
pub use Rattle.rx_graph.proofs.SetLemmas.{insert_seen, one_more, row_grown, row_pushed, seen_more}
pub use Rattle.rx_graph.specs.Resources.{number_in}
pub use Rattle.rx_graph.specs.Rows.{empty_rows, pushed}
pub use Rattle.rx_shapes.specs.Cells.{object_among, object_if, predicate_of}
pub use Rattle.rx_shapes.specs.Chains.{ChainEnds, Settled, ending, linked, source_row}
pub use Rattle.rx_shapes.specs.Links.{AreCells, AreInner, AreNodeShapes, HasNodes, IsTripleIndex, are_pair, cell_link, cell_links, found_link, inner_link, inner_marks, is_inner_by, link_to, nil_link, object_added, object_number, object_rows, pair_link, parent_link, parent_links, rest_link, shape_by, shapes_by, subject_link, subject_rows, triple_added}
pub use Rattle.rx_shapes.specs.Places.{picked, places_of}
pub use Rattle.rx_shapes.specs.Reach.{Reach, reach_added, reach_all, reach_marked, unreached}
pub use Rattle.rx_shapes.specs.Rows.{filed, filed_in, is_row_key, positions, table}
pub use Rattle.rx_shapes.specs.Shapes.{Cell, Ends, Inner, IsShape, Pair, Parent, at_iri, at_top, last_cell, next_cell, onward}
pub use Rattle.rx_shapes.specs.Subjects.{about, first_member, has_predicate, has_subject, object_at, objects_of, predicates_of, subjects}
pub use Rattle.std.proofs.lemmas.List.{length-replicate}
