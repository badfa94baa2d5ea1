-- What the proofs of this crate cite of the crates below, and of its own definitions.
pub use Rattle.rx_model.proofs.Common.{Among, Blank, Bool, Chars, Iri, IsExact, List, Literal, Node, Resource, Some, Term, Triple, [], ap, append-nil, append_assoc, ap₂, arith, blank_of_node, blank_of_term, blanks_of, bytes_eq, chars, codes, cond, contains, distinct, drop, exact_numbers, exact_triples, false, filter, flat_map, if◌then◌else◌, inl, inr, length, length-append, length-map, map, map-append, nat_eq, not, on_ok_weaker, option_map, place_in, refl, rename, rename_node, rename_term, rules, same_triple, slice_get, slice_get-get_or, slice_get_within, subst, suc, sym, take, take-append-drop, term_seen, triple_seen, triples_seen, true, true≢false, with_all, with_one, zero, ℕ, ⊎_elim, ◌&&◌, ◌++◌, ◌+◌, ◌<◌, ◌^◌, ◌||◌, ◌∙◌, ◌∷◌, ◌≡◌, ◌≤◌, ◌⊎◌}
pub use Rattle.rx_terms.proofs.Common.{length-take}
pub use Rattle.std.proofs.Common.{take_all}
pub use Rattle.rx_grammar.specs.Kinds.{kind_name}
pub use Rattle.rx_grammar.specs.declared.faults.Fault.{Fault}
pub use Rattle.rx_graph.proofs.Growing.{all_distinct, contains_append, has_all, kept_all, one_behind, place_append, place_behind, place_stays}
pub use Rattle.rx_graph.proofs.NumberLemmas.{known_seen, place_by, renamed_triple, same_node_by, same_triple_by}
pub use Rattle.rx_graph.proofs.SetLemmas.{any_seen, insert_seen, one_more, seen_more}
pub use Rattle.rx_graph.specs.Numbering.{numbers_to}
pub use Rattle.rx_many.specs.Blank.{has_blank, is_blank_node, is_blank_term}
pub use Rattle.rx_many.specs.Dataset.{DenotesPages, Gives, GivesQuad, HasBlank}
pub use Rattle.rx_many.specs.Lines.{PageBlank, QuadLine, at_place, blank_table, comment, distinct_lines, kept_after, line_blanks, lines_by, lines_from, lines_of, numbered_lines, rename_line, same_blank, same_line, statement, statement_at}
pub use Rattle.rx_many.specs.Names.{AreApart, Notes, name_of}
pub use Rattle.rx_many.specs.Numbering.{BlankNumbers, blank_numbers, number_at}
pub use Rattle.rx_many.specs.Pages.{JudgedPage, Judgement, accepted, accepted_page, refused}
pub use Rattle.rx_many.specs.Seen.{page_seen, statement_seen}
pub use Rattle.rx_many.specs.Standing.{AreBefore, AreNew, ComeLast, DocumentStands, HoldsShared, IsAdded, LinesStand, PageStands, SpellsLines, TellsShared, WritableComment, WritableLine}
pub use Rattle.rx_many.specs.Writing.{comment_text, comment_with, dataset_line, dataset_text}
pub use Rattle.rx_nquads.proofs.Cuts.{lacks, lacks_any, lacks_append}
pub use Rattle.rx_pieces.proofs.Adding.{all_ascii, iri_of}
pub use Rattle.rx_pieces.specs.Writable.{WritableText, WritableTriple}
pub use Rattle.rx_refs.specs.Resolve.{without_fragment}
pub use Rattle.rx_unique.specs.Unique.{insert_key}
pub use Rattle.std.specs.Str.{encode_utf8_all}
