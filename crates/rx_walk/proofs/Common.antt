-- The names that most proofs here cite, passed on from one place. Declares nothing.
pub use Rattle.rx_base.proofs.Lines.{line_append, line_is, said_line, said_seeks, seeks_append, tree_line}
pub use Rattle.rx_base.specs.Lines.{around, line_of, line_on}
pub use Rattle.rx_base.specs.Seekings.{Seeking, first_child, known, seek, seek_begun, seek_finished, seeks, sought}
pub use Rattle.rx_base.specs.Sought.{sought_seen}
pub use Rattle.rx_eval.proofs.Common.{Bnode, Bool, Call, Chars, Closes, Context, ElementTag, Ending, Enter, Err, EvaluatorStands, Facts, Frame, Gathers, IfSome, Inherited, IsOk, KeptAt, Layer, LayersStand, Leave, List, Machine, Makes, Nodes, None, Numbered, Numbering, Ok, OnOk, Opens, Option, Owner, Path, Read, Refusal, Result, RunsOrIsOver, Some, StandsOn, State, Text, TextAt, [], add-one, after, after-append, and_parts, ap, append-nil, append_assoc, ap₂, arith, attribute, base_by, base_of, begun_state, below_at, below_own_at, by_test, calls, chars, codes, declared_or, draw, drawn_after, drop, encode_utf8_all, end_owner, ending, facts, facts_seen, false, frames_in, gathers_at, gathers_some, get_or, handed_on, if◌then◌else◌, is_relative, is_some, kind_of_refusal, labels, length, length-append, length-map, level_at, line_after, listed, lists_at, map, map-append, model, moment, nat_le, nat_tests, no_line, no_numbers, on_ok_weaker, option_and_then, option_map, option_or, own_at, own_vocabulary, places_at, read, read_tag, read_text, refl, refusal, resources_by, root_href, rule, seen_slice, slice_get, start_at, subst, subst₂, suc, sym, tags_of, take, triples_seen, true, unless_empty, value_now, value_of_text, vocab, vocabulary_from, with_facts, zero, ℕ, ◌++◌, ◌+◌, ◌-◌, ◌<◌, ◌==◌, ◌||◌, ◌∙◌, ◌∷◌, ◌≡◌, ◌≢◌, ◌≤◌}
pub use Rattle.rx_eval.proofs.StandLemmas.{begun_stands, enter_stands, finish_makes, text_stands}
pub use Rattle.rx_grammar.proofs.Common.{Page, PlacedCharacter, Syntax, start_tag_of}
pub use Rattle.rx_grammar.specs.declared.faults.Fault.{Fault}
pub use Rattle.rx_names.specs.Lines.{KeptNames, NamesStand, declared_along, names_kept, no_tags, vocabulary_of}
pub use Rattle.rx_tags.specs.Seen.{tag_seen}
pub use Rattle.rx_rdfa.specs.Pages.{token_tag}
pub use Rattle.rx_nest.specs.Fronts.{Front, IsFront, goes, goes_on, inside, levels_of, over, unbegun}
pub use Rattle.rx_nest.specs.Nests.{tag_shown}
pub use Rattle.rx_nest.specs.Readings.{Whole, has_failed}
pub use Rattle.rx_nest.specs.Signs.{Sight, Sign, begun, finished, nothing_seen, said, sees, signs_of}
pub use Rattle.rx_rdfa.proofs.Common.{Kind, Line, StartTag, Tree, element, end, map_then, text, trimmed}
pub use Rattle.rx_walk.specs.CallsOf.{call_of, calls_of, singles, singly}
pub use Rattle.rx_walk.specs.Courses.{AllAbsolute, AreFacts, CourseStands, runs_at, way_at}
pub use Rattle.rx_walk.specs.Leading.{Leads, Led, PiecesLeadAlike, StepsByCall, move_all, moves, within}
pub use Rattle.rx_walk.specs.Refused.{refusal_fault, refused_at, refused_in}
pub use Rattle.rx_walk.specs.Settings.{Setting, way_of}
pub use Rattle.rx_walk.specs.Stages.{HeadGives, Known, MayBe, MayFollow, MayTake, Staged, Tells, call_seen, queue_seen}
pub use Rattle.rx_walk.specs.Walks.{CourseIsWhole, FramesFit, HasBase, IsMade, Lists, OverOpen, ShowsOnceKnown, WalkEnded, WalkStands, Walked, found_state}
