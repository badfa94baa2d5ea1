-- The names of RDF that most definitions and contracts above cite, passed on from one place. Declares nothing.
pub use Rattle.rx_model.specs.Copied.{CopiesPatterns, LeadsAlong, copied, edges, given, is_pattern, is_referenced, leads, live, patterned, rdfa_copy, rdfa_pattern, says_pattern, spo, treated}
pub use Rattle.rx_model.specs.Numbered.{Has, NumbersOneToOne, Renamed, blank_of_node, blank_of_term, blanks, blanks_of, numbered, place_in, rename, rename_node, rename_term}
pub use Rattle.rx_model.specs.Seen.{SeenOneToOne, kind_seen, node_seen, term_seen, triple_seen, triples_seen}
pub use Rattle.rx_model.specs.Sets.{Among, contains, distinct, with_all, with_one}
pub use Rattle.rx_model.specs.Terms.{Blank, Graph, Iri, Kind, Literal, Node, Plain, Resource, Tagged, Term, Triple, Typed, same_node, same_term, same_triple, set_of}
pub use Rattle.rx_model.specs.Vocabulary.{rdf_first, rdf_nil, rdf_rest, rdf_type}
pub use Rattle.rx_terms.specs.Ascii.{circumflex_accent, commercial_at}
pub use Rattle.rx_terms.specs.Common.{BTreeMap, Bor, Chars, IsIri, carriage_return, chars, colon, decimal, full_stop, get_by, greater_than_sign, is_ascii, is_empty, is_lang, less_than_sign, line_feed, list_all, list_any, low_line, nat_cmp, number_sign, option_or, quotation_mark, reverse_solidus, slice_cmp, space}
pub use Rattle.std.specs.List.Sorted.{IsNonDecreasing, IsPermutation}
pub use Rattle.std.specs.Str.{all_scalars}
