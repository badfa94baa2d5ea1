-- The names of Turtle that most proofs here and above cite, passed on from one place. Declares nothing.
pub use Rattle.rx_model.proofs.Common.{Among, Among-contains, Among_by_contains, Among_cases, Among_filter, Among_flat_map, Among_left, Among_map, Among_of_filter, Among_of_filter_map, Among_of_map, Among_right, Blank, Bool, Chars, Has, Iri, Kind, List, Literal, Node, None, OnOk, Option, Plain, Renamed, Resource, Some, Tagged, Term, Triple, Typed, [], and_from, and_parts, ap, append-nil, append_assoc, ap₂, arith, blank_of_node, blank_of_term, blanks_of, bytes_eq, chars, chars-encodes, circumflex_accent, codes, commercial_at, cond, contains, decimal_digit, distinct, exact_numbers, exact_texts, exact_triples, false, filter, filter_map, flat_map, inl, inr, length, less_than_sign, line_feed, list_all, list_any, low_line, map, map-append, nat_eq, nat_tests, not, quotation_mark, rdf_first, rdf_nil, rdf_rest, rdf_type, refl, rename, rename_node, rename_term, same_node, same_triple, set_of, space, spo, subst, suc, sym, true, true≢false, zero, ℕ, ◌&&◌, ◌++◌, ◌+◌, ◌<◌, ◌==◌, ◌^◌, ◌||◌, ◌↔◌, ◌∙◌, ◌∷◌, ◌≡◌, ◌≤◌, ◌⊎◌}
pub use Rattle.rx_notation.proofs.Chosen.{Apart, exact_prefixes, names_apart, one_of, prefix_fits}
pub use Rattle.rx_notation.proofs.Ordered.{rising}
pub use Rattle.rx_notation.specs.Grammar.{At_prefix, Brackets, Comma_sign, Full_stop, Left_bracket, Left_parenthesis, Parentheses, Right_bracket, Right_parenthesis, Semicolon_sign, Small_a, Terminal, TokensOfOne, TurtleToken, declared, document_tokens, iri_or_label, part_tokens, prefix_tokens, quoted, statement_tokens, terminal, verb_token}
pub use Rattle.rx_notation.specs.Laws.{IsContext, LayoutDenotes}
pub use Rattle.rx_notation.specs.Layout.{in_byte_order, iris_of, iris_of_kind, iris_of_node, iris_of_predicate, iris_of_term, prefix_text, prefixes_text, prefixes_used, same_prefix, those_among, turtle}
pub use Rattle.rx_notation.specs.Meaning.{Label, NestedDenotesOne, NestedTurtle, Of, Place, Turtle, TurtleBlank, TurtleDenotesOne, all_known, all_triples, are_known, iri_of, is_known, is_known_subject, is_known_suffix, is_known_verb, kind_by, node_of, predicate_of, term_of, triples, unlabelled}
pub use Rattle.rx_notation.specs.Nesting.{bracketed, cell_items, document_of, inside, is_top, is_top_by, items_by, names_of_subject, names_of_suffix, names_of_verb, names_used, nested, node_by, object_by, objects_after, one_object, piece_names, predicates_after, prefix_named, prefixes_named, reference_to, said_of, some_objects, some_predicates, statement_of, statements, subject_of, suffix_of, verb_of, written}
pub use Rattle.rx_notation.specs.Short.{Prefix, Prefixes, is_local_name, is_name_char, is_prefix_name, local_name, names_rise, prefix_of}
pub use Rattle.rx_notation.specs.Spelling.{SpellsBehind, SpellsQuoted, SpellsReference, SpellsSubject, SpellsSuffix, SpellsToken, SpellsTokens, SpellsTurtle, TurtleSpellsOne, is_separator, is_spacing, names_differ, terminal_text}
pub use Rattle.rx_notation.specs.Syntax.{Also, Anonymous, Bare, Bracketed, By, Collection, Comma, Datatype, Done, Full, Further, IriOrLabel, Item, Items, Labelled, Language, Last, Named, Nil, Object, Objects, Part, Predicate, Predicates, Quoted, Reference, Semicolon, Short, Single, Sort, Statement, Subject, Suffix, TurtleDocument, Type_of, Verb, are_flat, is_flat}
pub use Rattle.rx_notation.specs.Writing.{Piece, all_pieces, inside_gap, line_gap, piece_text, pieces, statement_pieces, subject, verb, words}
pub use Rattle.rx_nquads.specs.Quads.{literal_kind, proper_kind, proper_term, proper_triple}
pub use Rattle.rx_pieces.specs.Writable.{IsWritable, WritableKind, WritableNode, WritableTerm, WritableText}
pub use Rattle.rx_pieces.specs.Writing.{escaped_text, iri_text, string_text}
pub use Rattle.rx_ports.specs.Shelves.{GrowsBy, GrowsByPart, WhereKnown}
pub use Rattle.rx_shapes.proofs.CellLemmas.{CellOf, Enough, cell_inner, cell_of, child_enough, first_each, first_enough, first_is_not_rest, first_some, none_left, rest_each, rest_some}
pub use Rattle.rx_shapes.proofs.Grouped.{object_says, object_there, predicate_says, predicate_there, same_nodes, subject_says, subject_there}
pub use Rattle.rx_shapes.proofs.Heights.{Differ, height}
pub use Rattle.rx_shapes.specs.Shapes.{Cell, Ends, HaveShapes, Inner, IsShape, Parent, at_iri, at_top, onward}
pub use Rattle.rx_shapes.specs.Subjects.{about, first_member, has_predicate, has_subject, object_at, objects_of, predicates_of, subjects}
pub use Rattle.rx_shapes.specs.declared.shapes.Shape.{Shape}
pub use Rattle.rx_terms.proofs.Common.{IsIri, colon, is_letter}
pub use Rattle.std.proofs.Common.{IsErrOf, if◌then◌else◌}
pub use Rattle.rx_model.specs.Terms.{IsProper}
