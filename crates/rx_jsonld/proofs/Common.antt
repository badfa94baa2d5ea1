-- The names of JSON-LD that most proofs here cite, passed on from one place. Declares nothing.
pub use Rattle.rx_json.proofs.GrowLemmas.{Left, array_made, both, cut, each_items, each_turn, group_made, object_made, one, told_as}
pub use Rattle.rx_json.specs.Events.{Grows, data_events, each_events, members_events}
pub use Rattle.rx_jsonld.specs.Document.{Entry, Id, IsFormed, JsonLdDocument, KeysDiffer, KeysDifferIn, KeysDifferInItems, KeysDifferInMembers, KeysStandOnce, ListObject, NamesNode, NodeObject, NodeOrValue, Object, Property, Reference, Single, SpellsArray, SpellsEach, SpellsEntries, SpellsEntry, SpellsItem, SpellsName, SpellsNodeObject, SpellsObject, SpellsText, SpellsValue, Types, Value, entry_id, ids, keys}
pub use Rattle.rx_jsonld.specs.Groups.{array_at, grouped, member_name, member_name_by, places_under, value_at, value_by, value_if, value_said, values_at}
pub use Rattle.rx_jsonld.specs.Laws.{DenotesFormed, IsFormedNode, IsFormedTerm, IsFormedTriple, ListsCells, ValueDenotes, ValuesAreFlat}
pub use Rattle.rx_jsonld.specs.Lists.{CellGoesOn, IsListed, blank_in, cell_by, cells_at, chain, first_cell, first_one, is_cell, is_cell_by, is_listed, later_one, listed, may_list, numbers_from}
pub use Rattle.rx_jsonld.specs.Meaning.{JsonLd, JsonLdBlank, JsonLdDenotesOne, Label, Place, all_triples, cells_in, cells_in_all, cells_in_entry, cells_of_all, entries_triples, entry_triples, label_in, list_node, list_triples, named_triples, node_by, node_of, node_triples, object_triples, objects_triples, term_of, triples_by, type_triple}
pub use Rattle.rx_jsonld.specs.Members.{items_and, value_appended, with_last}
pub use Rattle.rx_jsonld.specs.Places.{node_at, nodes_added, starts_with_place, with_found, with_places}
pub use Rattle.rx_jsonld.specs.Value.{id_text, is_empty_list, item_by, item_value, jsonld, list_from, list_value, literal_members, may_be_empty, node_value, object_by, object_value, plain_value, said_by, term_value, tops, type_by, type_of, with_all, with_said}
pub use Rattle.rx_model.proofs.Common.{Among, Among-contains, Among_by_contains, Among_cases, Among_distinct, Among_filter, Among_flat_map, Among_left, Among_map, Among_of_distinct, Among_of_filter, Among_of_flat_map, Among_of_map, Among_right, Blank, Bool, Chars, Equal, Err, Global, Greater, Has, Iri, Kind, Less, List, Literal, Node, None, Ok, OnOk, Option, Ordering, Plain, Renamed, Resource, Result, Some, Tagged, Term, Triple, Typed, [], and_from, and_left, and_right, ap, append-nil, append_assoc, ap₂, arith, blank_of_node, blank_of_term, blanks_of, bytes_eq, chars, codes, cond, contains, decimal, decimal_is_IsNumeral, distinct, drop, drop_of_length-le, encode_utf8_all, exact_numbers, exact_texts, exact_triples, false, false_unless, filter, flat_map, get_or, if◌then◌else◌, inl, inr, is_eq, kind_seen, length, length-map, low_line, map, map-append, nat_cmp, nat_eq, nat_tests, node_seen, not, on_ok_weaker, option_to_list, place_in, rdf_first, rdf_nil, rdf_rest, rdf_type, refl, rename, rename_node, rename_term, rules, same_node, same_triple, set_of, slice_get, spo, subst, suc, sym, take, triple_seen, triples_seen, true, true≢false, with_one, zero, ℕ, ◌&&◌, ◌++◌, ◌+◌, ◌-◌, ◌<◌, ◌==◌, ◌^◌, ◌||◌, ◌↔◌, ◌∙◌, ◌∷◌, ◌≡◌, ◌≤◌, ◌⊎◌}
pub use Rattle.rx_nquads.specs.Quads.{proper_kind, proper_term, proper_triple, quads}
pub use Rattle.rx_pieces.specs.Writable.{IsWritable, WritableKind, WritableNode, WritableTerm, WritableTriple}
pub use Rattle.rx_ports.specs.Shelves.{GrowsBy, GrowsByPart, WhereKnown}
pub use Rattle.rx_shapes.specs.Shapes.{Cell, Ends, HaveShapes, Inner, IsShape, last_cell, next_cell, onward}
pub use Rattle.rx_shapes.specs.Subjects.{about, first_member, has_subject, object_at, objects_of, subjects}
pub use Rattle.rx_shapes.specs.Table.{shape_in}
pub use Rattle.rx_shapes.specs.declared.shapes.Shape.{Shape}
pub use Rattle.rx_terms.proofs.Common.{IfOk-weaker, IsIri, begins_with_scheme, colon, encode_ascii, encodes_same, front_grows, is_letter, slice_cmp, split_at, take-map}
pub use Rattle.serde.specs.declared.name.Case.TheVariants.{AsIs}
pub use Rattle.serde_json.specs.Data.{Data, Items, Members, array, depth, item, items_depth, member, members_depth, no_items, no_members, number, object, string}
pub use Rattle.serde_json.specs.View.{items_of}
pub use Rattle.std.proofs.Common.{BTreeMap}
pub use Rattle.std.specs.Prelude.{Vec, option_map}
pub use Rattle.rx_json.specs.Plain.{string_of}
