-- The names of RDFa's rules that most definitions and contracts above cite, passed on from one place. Declares nothing.
pub use Rattle.rx_grammar.specs.Common.{Page, StartTag, Syntax, Tree, begins_with, between, element, end, is_among, is_digit, lowered, same, seen_slice, solidus, text, tokens, value_of}
pub use Rattle.rx_grammar.specs.Kinds.{is_of_meaning, kind_name}
pub use Rattle.rx_grammar.specs.declared.faults.Fault.{Fault}
pub use Rattle.rx_grammar.specs.declared.faults.Kind.{Kind}
pub use Rattle.rx_grammar.specs.declared.faults.Kind.TheVariants.{Cycle, ItemsTooMany, ItemsTooNested, Unended}
pub use Rattle.rx_grammar.specs.declared.limits.Limits.{Limits}
pub use Rattle.rx_grammar.specs.declared.stops.Stop.{Stop}
pub use Rattle.rx_model.specs.Common.{Among, Blank, Bor, Chars, CopiesPatterns, Iri, IsIri, LeadsAlong, Node, NumbersOneToOne, Renamed, Resource, Term, Triple, blanks, chars, copied, is_ascii, list_all, list_any, nat_cmp, node_seen, numbered, option_or, rdf_first, rdf_nil, rdf_rest, rdf_type, rename, rename_node, rename_term, same_node, set_of, slice_cmp, spo, term_seen, triples_seen}
pub use Rattle.rx_rdfa.specs.Base.{base_by, base_of, root_href}
pub use Rattle.rx_rdfa.specs.Blanks.{Author, Below, Bnode, Cell, First, Made, Of, Owner, model, same_bnode, same_owner}
pub use Rattle.rx_rdfa.specs.Calls.{Call, CallsRead, Enter, FramesAreContexts, Leave, Read, after, calls, line_after, no_line}
pub use Rattle.rx_rdfa.specs.Element.{end_of, start_of, to_node}
pub use Rattle.rx_rdfa.specs.Facts.{Body, Datatype, ElementKind, Empty, Facts, Head, IriRef, Is, LabelRef, Other, Ref, RelativeRef, Time, facts, iri_of, predicate, ref_of, with_facts}
pub use Rattle.rx_rdfa.specs.Inherited.{below, handed, hangs, holds_some, inherited, listed, object_below, own_owner, up}
pub use Rattle.rx_rdfa.specs.Iris.{uses_vocabulary, xsd}
pub use Rattle.rx_rdfa.specs.Lists.{ListEntry, entries_by, entry, linked, list_of, map_entry, of_owner, touched}
pub use Rattle.rx_rdfa.specs.Machine.{Full, Machine, ReadingMakes, Slot, Waiting, fill}
pub use Rattle.rx_rdfa.specs.Names.{Context, Table, as_lang, counts, declarations, is_nc_name, language, of_prefix, pairs, prefix, table_value, term, unless_empty, vocab, xmlns_of}
pub use Rattle.rx_rdfa.specs.Naming.{Naming, Path}
pub use Rattle.rx_rdfa.specs.Pages.{read_tag, tags_of}
pub use Rattle.rx_rdfa.specs.Readings.{CurieReading, is_term, read_term}
pub use Rattle.rx_rdfa.specs.Refusals.{HtmlLiteral, Refusal, RelativeVocab, XmlLiteral, is_relative, rdf_html, rdf_xml_literal, refusal}
pub use Rattle.rx_rdfa.specs.Renaming.{MadeRenames, labels, rename_inherited, rename_slot}
pub use Rattle.rx_rdfa.specs.Resources.{Forward, Hanging, InList, Inherited, Resources, Reverse, Standing, about, base_at_root, default_subject, has_link, is_head_or_body, is_plain_property, is_root_child, linked_resource, new_blank, of_link, of_no_link, of_property, only, parent_for_head_and_body, resource_attribute, resource_named, resources}
pub use Rattle.rx_rdfa.specs.Standard.{row_chars, standard}
pub use Rattle.rx_rdfa.specs.Tables.{TablesAreLists, put}
pub use Rattle.rx_rdfa.specs.Times.{Parts, after_char, after_clock, after_digits, after_fraction, after_hms, after_some_digits, after_two, digits, is_zero, without_minus}
pub use Rattle.rx_grammar.specs.Trees.{Nodes}
pub use Rattle.rx_rdfa.specs.Tree.{ElementTag, attribute, value_of_first}
pub use Rattle.rx_rdfa.specs.Value.{ByResource, ByText, ByTyped, datatype_literal, gathers, is_time, literal_by, plain_literal, rule, rule_or, time_literal, value, value_now, value_of_text}
pub use Rattle.rx_rdfa.specs.Whole.{WrittenDenotes, graph_of, written}
pub use Rattle.rx_refs.specs.Resolve.{cleaned, resolved}
pub use Rattle.rx_terms.specs.Common.{String, encode_utf8_all, flat_map, has_scheme, is_forbidden, is_iri, is_lt, match_ordering, percent_sign, trimmed}
pub use Rattle.std.specs.List.{take_while}
pub use Rattle.std.specs.Str.{is_utf8}
