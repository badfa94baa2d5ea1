-- The names of an element that most proofs here and above cite, passed on from one place. Declares nothing.
pub use Rattle.rx_curie.specs.Given.{kind_of_refusal, own_vocabulary, vocabulary_from}
pub use Rattle.rx_curie.specs.Seen.{facts_seen, ref_seen, refs_seen}
pub use Rattle.rx_eval.specs.Contexts.{context_seen, waiting_seen}
pub use Rattle.rx_eval.specs.ElementResources.{claims_nothing, found_seen, says_nothing}
pub use Rattle.rx_eval.specs.Ending.{Closes, Ending, TextAt, cells_count, end_frame, end_owner, ending, said_triples, say_text}
pub use Rattle.rx_eval.specs.Entering.{Gathers, begun_for, begun_seen, below_at, below_own_at, gathers_at, lists_at, naming_by, next_number, own_at, own_number, owner_begun, owner_for, owners_begun, places_at, places_by, resources_by, start_at}
pub use Rattle.rx_eval.specs.Entries.{put_awaited, put_each, slots_for}
pub use Rattle.rx_eval.specs.Frames.{forward_by, reverse_by}
pub use Rattle.rx_eval.specs.Keeping.{IsSound, first_gathering, gathers_some, is_place, outermost_place}
pub use Rattle.rx_eval.specs.Labels.{Drawn, DrawnSome, Numbered, draw, label_number}
pub use Rattle.rx_eval.specs.Listing.{Entries, awaited_entry, entries_for, entries_in, linked_entries, own_entries, own_places, touched_entries}
pub use Rattle.rx_eval.specs.Moment.{labelled, moment}
pub use Rattle.rx_eval.specs.Numbering.{Itself, KeepsNumbers, Name, Number, Numbering, Numbers, name_by, numbered_name, same_name, with_number}
pub use Rattle.rx_eval.specs.Opened.{MayOpen, Opens, begun_state, handed_on, read_text, skipped_state}
pub use Rattle.rx_eval.specs.Opening.{around_in, drawn_after}
pub use Rattle.rx_eval.specs.OwnersSeen.{Owning, cells_seen, ended_by, fill_all, fill_seen, forgotten_seen, item_count, list_place, lists_in, next_slot, open_seen, owners_seen, owning, owning_seen, places_for, put_at, put_entries, slots_seen, trimmed_owners, with_item}
pub use Rattle.rx_eval.specs.Places.{level_at, naming, path_at, standing_at, standing_by}
pub use Rattle.rx_eval.specs.Referring.{LetsWait, MayWait, PendingMayWait, is_iri_node, only_reference, reference_in, referred_by, referring_context, referring_frame, says_no_more, with_pending}
pub use Rattle.rx_eval.specs.Skipping.{IsRooted, all_frames, skipped_frame, skipped_frames}
pub use Rattle.rx_eval.specs.Slots.{AllItems, AllWait, FillUp, FillsAtEnd, HasItem, HasPlace, HasPlaces, ItemWaits, OpenOwners, OwnedSlots, OwnersDiffer, Waiter, Within, WithinOption, WithinPlaces, is_awaited, owner_place, owners_of, slot_term, slot_waits, table_in}
pub use Rattle.rx_eval.specs.Standing.{Ahead, AllWaitFor, Coming, EvaluatorRuns, EvaluatorStands, HandsOn, IsOver, KeptAt, Layer, LayerStands, LayersStand, Makes, OwnerPending, RunsBy, RunsOrIsOver, StandsOn, WaitsFor, begun_by, context_after, frames_in, gathers_text, no_numbers, number_under, open_in, own_in, owner_depth, page_context, path_in, paths_in, text_places, text_triples, under_in, waiter_of}
pub use Rattle.rx_eval.specs.Starts.{found_by, linked_by, start_by, typed_by, types_of, values_of, vocabulary_by}
pub use Rattle.rx_eval.specs.States.{Frame, State, Text, frame_seen, owner_seen, text_seen}
pub use Rattle.rx_eval.specs.TextRules.{IsTextRule, resource_term, rule_by, term_of, text_literal, text_rule, value_with}
pub use Rattle.rx_eval.specs.Triples.{ToCome, completed_by}
pub use Rattle.rx_eval.specs.Waits.{ShowsContext, Wait, wait_by, wait_seen}
pub use Rattle.rx_lists.specs.Owners.{Owned, Owners, changed, forgotten, itself, lists_of, open_at, owned, place_of, slots_of, trimmed_by, trimmed_tail, with_term}
pub use Rattle.rx_lists.specs.declared.lists.SlotId.{SlotId}
pub use Rattle.rx_model.specs.Seen.{triples_seen}
pub use Rattle.rx_rdfa.proofs.Calls.{at_after, at_begun, calls_read, frames_at, standings_of}
pub use Rattle.rx_rdfa.proofs.Common.{AgreeAt, Among, Among_left, Among_map, Among_of_filter, Among_of_map, Among_right, Author, Below, Blank, Bnode, Bool, ByContent, ByDatatype, ByDatetime, ByResource, ByTimeText, ByTyped, Call, Cell, Chars, Context, Datatype, Decides-eqb, ElementTag, Empty, Err, Facts, First, Forward, Full, Hanging, IfOk, IfOk-weaker, IfSome, IfSome_then, InList, Inherited, Iri, Is, IsExact, IsUtf8, LabelRef, Leave, List, ListEntry, Literal, Machine, Made, Naming, Node, Nodes, None, Of, Ok, OnErr, OnOk, Option, Owner, Path, Ref, Resource, Resources, Result, Reverse, Rule, Slot, Some, Standing, Term, Triple, Waiting, [], add-one, after, after-append, and_from, and_left, and_parts, and_right, ap, append-nil, append_assoc, ap₂, arith, at_drop_all, attribute, awaited, below, blanks, blanks_of, by_test, bytes_eq, cases_lt, cell_or_nil, cells, chain, chars, cond, cons_option, copied, declared_or, distinct, drop, encode_utf8_all, end_of, entries_by, entry, exact_bnodes, exact_numbers, exact_owners, exact_texts, facts, false, false_unless, fill, fill_slot, filter, filter-append, filter_map, filter_map-append, flat_map, get_or, get_or_from_slice_get, handed, hanging_of, hangs, has_link, if◌then◌else◌, inherit, inherited, inherited_then, inl, inr, is_relative, is_time, items, label_of, labels, leave, leave_with, left, length, length-append, length-map, length-set, linked, list_any, list_of, listed, lists, machine_begun, made, map, map-append, map-set, map_entry, map_then, model, nat_eq, nat_tests, nil_from_length, node_seen, node_then, not, number, numbered, object_below, of_owner, on_err_weaker, on_ok_weaker, only, option_and_then, option_map, option_or, option_to_list, or_cases, or_parts, or_right, own_owner, owner_below, plain_literal, position, position_or_len, properties_by, put, rdf_first, rdf_rest, rdf_type, read, read_tag, refl, refusal, rename, rename_entry, rename_hanging, rename_inherited, rename_node, rename_resources, rename_rule, rename_slot, rename_standing, rename_term, resource_attribute, resource_named, resources, root_href, rule, rule_or, rules, same_bnode, same_node, same_owner, same_truth, seen_slice, set-append_left, set-append_seam, settle, slice_get_within, slice_index_or, slice_set, slot_of, spo, start_of, subst, subst₂, suc, sym, tags_of, take, take_all, term_seen, term_then, text_value, then_some, to_node, touched, triple_then, true, true≢false, unless_empty, untrue, up, value, value_at, value_now, value_of_text, valued, vocab, written, written_denotes, zero, ℕ, ⊎_elim, ◌&&◌, ◌++◌, ◌+◌, ◌-◌, ◌<◌, ◌^◌, ◌||◌, ◌∙◌, ◌∷◌, ◌≡◌, ◌≢◌, ◌≤◌, ◌⊎◌}
pub use Rattle.rx_rdfa.specs.Base.{base_by, base_of}
pub use Rattle.rx_rdfa.specs.Calls.{Enter, FactsLine, Read, calls, line_after, move, no_line}
pub use Rattle.rx_rdfa.specs.Element.{completed, links_by, of_vocabulary, types_by}
pub use Rattle.rx_rdfa.specs.Facts.{ElementKind, IriRef, RelativeRef, Time, with_facts}
pub use Rattle.rx_rdfa.specs.Machine.{enter, finished, rule_at, settled_item, settled_with}
pub use Rattle.rx_rdfa.specs.Refusals.{Refusal}
pub use Rattle.rx_rdfa.specs.Resources.{about, base_at_root, default_subject, is_head_or_body, is_plain_property, is_root, is_root_child, linked_resource, new_blank, of_link, of_no_link, of_property}
pub use Rattle.rx_rdfa.specs.Tables.{PredicateTable, table_from, table_of}
pub use Rattle.rx_rdfa.specs.Value.{ByText, gathers}
pub use Rattle.rx_refs.specs.Resolve.{resolved}
pub use Rattle.rx_terms.proofs.Common.{both, or-true, or_left, same-chars, slice_get, take-suc, ◌==◌}
pub use Rattle.std.proofs.Common.{is_some, nat_le, unwrap_or}
pub use Rattle.std.specs.Prelude.{IsOk, codes, is_none, nat_lt}
