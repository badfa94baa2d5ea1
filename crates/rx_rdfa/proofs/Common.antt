-- The names of RDFa's rules that most proofs above cite, passed on from one place. Declares nothing.
pub use Rattle.rx_grammar.proofs.Common.{All-contains, Line, StartTag, Tree, element, end, split, text, value_of}
pub use Rattle.rx_grammar.specs.declared.faults.Kind.{Kind}
pub use Rattle.rx_grammar.specs.declared.faults.Kind.TheVariants.{Cycle, ItemsTooMany, ItemsTooNested}
pub use Rattle.rx_model.proofs.Common.{Among, Among_cases, Among_left, Among_map, Among_of_distinct, Among_of_filter, Among_of_filter_map, Among_of_flat_map, Among_of_map, Among_right, Blank, Bool, Bor, Chars, Decides-eqb, Err, IfOk, IfSome, Iri, IsExact, List, Literal, Node, None, Ok, OnErr, OnOk, Option, Plain, Renamed, Resource, Result, Some, Term, Triple, Typed, [], and_from, and_left, and_parts, and_right, ap, append-nil, append_assoc, ap₂, arith, begins_with, bit_and, blanks, blanks_of, by_test, bytes_eq, bytes_eq-Decides, cases_lt, chars, codes, cond, cons_option, copied, copies_patterns, distinct, drop, drop-cons, edges, encode_utf8_all, exact_nodes, exact_numbers, exact_texts, false, false_unless, filter, filter-append, filter_map, filter_map-append, flat_map, flat_map-append, get_or, get_or_from_slice_get, given, if◌then◌else◌, inl, inr, is_forbidden, is_none, is_referenced, leads, length, length-append, length-map, length-set, list_all, list_any, live, map, map-append, nat_eq, nat_lt, nat_tests, node_seen, not, numbered, numbers_one_to_one, on_ok_weaker, option_map, option_or, option_to_list, or_cases, or_parts, place_in, position_or_len, rdf_first, rdf_nil, rdf_rest, rdf_type, refl, rename, rename_node, rename_term, replaced, reverse, reverse-append, reverse-reverse, rules, same_node, same_triple, same_truth, says_pattern, set_of, slice_get_within, slice_set, spo, subst, suc, sym, take, take_all, term_seen, treated, true, true≢false, untrue, xsd_string, zero, ℕ, ⊎_elim, ◌&&◌, ◌++◌, ◌+◌, ◌-◌, ◌<◌, ◌==◌, ◌^◌, ◌||◌, ◌∙◌, ◌∷◌, ◌≡◌, ◌≢◌, ◌≤◌, ◌⊎◌}
pub use Rattle.rx_rdfa.proofs.Calls.{after-append}
pub use Rattle.rx_rdfa.proofs.Exact.{exact_bnodes, exact_owners}
pub use Rattle.rx_rdfa.proofs.Growing.{inherited_then, map_then, node_then, term_then, triple_then}
pub use Rattle.rx_rdfa.proofs.Whole.{written_denotes}
pub use Rattle.rx_rdfa.specs.Base.{first_href, head_href, root_href}
pub use Rattle.rx_rdfa.specs.Blanks.{Author, Below, Bnode, Cell, First, Made, ModelNode, ModelTriple, Of, Owner, model, same_bnode, same_owner}
pub use Rattle.rx_rdfa.specs.Calls.{Call, Leave, after}
pub use Rattle.rx_rdfa.specs.Element.{TreePlace, completed, end', end_of, in_order, in_order_from, links_by, of_vocabulary, places, places_from, properties_by, standing, start, start_of, text_value, to_node, types_by}
pub use Rattle.rx_rdfa.specs.Facts.{Datatype, Empty, Facts, Is, LabelRef, Ref, attribute_datatype, facts, facts_of, iri_of, link, predicate, predicates, present_unless_none, ref_of, stays_beside_property, types_of}
pub use Rattle.rx_rdfa.specs.Inherited.{at_page, below, handed, hanging_of, hangs, holds_some, inherited, listed, object_below, own_owner, owner_below, up}
pub use Rattle.rx_rdfa.specs.Lists.{ListEntry, awaited, cell_or_nil, cells, cells_from, chain, entries, entries_at, entries_by, entries_of, entry, items, linked, list_of, lists, map_entry, of_owner, touched, valued}
pub use Rattle.rx_rdfa.specs.Machine.{Full, Machine, ReadingMakes, Slot, Waiting, enter, entered, fill, fill_slot, finished, inherit, leave, leave_with, left, machine_begun, number, read, rule_at, settle, settled, settled_item, settled_with, slot_of, value_at}
pub use Rattle.rx_rdfa.specs.Made.{end_and_lists, lists_below, lists_of, made, page_lists, raw}
pub use Rattle.rx_rdfa.specs.Names.{Context, Table, as_lang, counts, declared_or, language, of_prefix, pairs, pairs_after, prefix_name, unless_empty, vocab, without_colon, xmlns_of}
pub use Rattle.rx_rdfa.specs.Naming.{Naming, Path}
pub use Rattle.rx_rdfa.specs.Pages.{read_tag, tags_of}
pub use Rattle.rx_rdfa.specs.Refusals.{is_relative, refusal}
pub use Rattle.rx_rdfa.specs.Renaming.{Agree, AgreeAt, MadeRenames, label_of, label_of_option, labels, rename_entry, rename_hanging, rename_inherited, rename_machine, rename_resources, rename_rule, rename_slot, rename_standing}
pub use Rattle.rx_rdfa.specs.Resources.{Forward, Hanging, InList, Inherited, Resources, Reverse, Standing, about, base_at_root, default_subject, has_link, has_typeof, is_head_or_body, is_plain_property, is_root, is_root_child, linked_resource, new_blank, of_link, of_no_link, of_property, only, parent_for_head_and_body, resource_attribute, resource_named, resources}
pub use Rattle.rx_rdfa.specs.Tables.{TablesAreLists, put, table_from}
pub use Rattle.rx_rdfa.specs.Times.{after_char, after_clock, after_date, after_digits, after_fraction, after_month, after_some_digits, after_year, digits, follows, is_duration, is_zone, time_datatype, time_kind, ◌andThen◌}
pub use Rattle.rx_grammar.specs.Trees.{Nodes}
pub use Rattle.rx_rdfa.specs.Tree.{ElementTag, attribute, element_text, value_of_first}
pub use Rattle.rx_rdfa.specs.Value.{ByContent, ByDatatype, ByDatetime, ByResource, ByTimeText, ByTyped, Rule, is_time, kind_by_lang, literal_by, plain_literal, rule, rule_or, time_literal, time_literal_by, value, value_now, value_of_text}
pub use Rattle.rx_rdfa.specs.Whole.{graph_of, written}
pub use Rattle.rx_refs.specs.Dots.{holds}
pub use Rattle.rx_refs.specs.Parts.{before, behind}
pub use Rattle.rx_refs.specs.Resolve.{cleaned, cleaned_char, digit}
pub use Rattle.rx_terms.proofs.Common.{Contains, IfOk-weaker, IsIri, IsUtf8, MatchOption, Utf8, add-one, ascii-chars, at_drop_all, begins_with_letter, bytes_decides, chars-nil, colon, encodes-chars, eq-eqb, false_from_ne_true, has_forbidden, has_scheme, is_ascii, is_digit, is_empty, is_scheme, is_scheme_char, is_some, le-leb, leb-true, lowered, lowered_char, map-set, nat_le, ok_is, option_and_then, or_right, right_bracket, seen_slice, shadow, slice_index_or, string_bytes, subst₂, take-append_seam, tokens, trimmed, unwrap_or, ◌%◌, ◌/◌}
pub use Rattle.rx_terms.specs.Ascii.{left_bracket}
pub use Rattle.std.proofs.Common.{bit_or}
pub use Rattle.std.proofs.Math.Seq.{set-append_seam}
pub use Rattle.std.proofs.lemmas.Bool.{eqb-true}
pub use Rattle.std.proofs.lemmas.List.{nil_from_length, set-append_left}
pub use Rattle.std.proofs.lemmas.Option.{IfSome_then}
pub use Rattle.std.proofs.lemmas.Result.{on_err_weaker}
pub use Rattle.std.specs.Bool.{then_some}
pub use Rattle.std.specs.List.{position}
pub use Rattle.std.specs.Prelude.{Vec, slice_get}
