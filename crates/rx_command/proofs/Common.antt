-- The names of the command that most proofs here cite, passed on from one place. Declares nothing.
pub use Rattle.rx_command.specs.Contexts.{ContextHolds, HasContext, HasWrongContext, IsContextFile, LacksContext, ReadsContext, TakesContext, context_in, context_size}
pub use Rattle.rx_command.specs.Endings.{EndingsSay, EndsJob, IsAnswer, IsDue, IsSame, OfPage, OneAnswer, RunEnds, answers, no_context, no_context_of_several, no_file, no_file_of_several, no_memory, nothing_asked, of_fault, of_page, of_pages, of_sample, out_failed, shelf_failed}
pub use Rattle.rx_command.specs.Files.{HasRead, ReadsFile, ReadsMore, TakesOf, TakesWithin, size_of}
pub use Rattle.rx_command.specs.Gathering.{AddsPages, AreParts, DenotesGathered, FileList, GathersPage, GathersPages, GivesGraph, GivesTriples, HasAll, HasPages, IsGathered, IsJudged, IsPartRead, IsThat, Judges, JudgesEach, ReadsEach, ReadsListed, TakesGathering, TakesPart, TakesParts, total}
pub use Rattle.rx_command.specs.Inputs.{JobRefused, JobText, PageRefused, PageText, TellsThat, WhereTold}
pub use Rattle.rx_command.specs.Outcome.{HasBadContext, HasPageFault, IsLacking, JobLacks, LacksOne, LacksPage, NamesPage, ReadsAtMost}
pub use Rattle.rx_command.specs.Reading.{AddsRead, AddsNone, DecidesFault, EndFails, FileEndGives, FedFile, FindsFault, IsClean, IsFile, IsPiece, NextGives, PageFails, PageGives, ReadsClean, ReadsWhole, TakesToFirst, largest_piece, page_limit}
pub use Rattle.rx_command.specs.Rows.{Row, RowsAreAnswered, check_words, extract_words, file, item_page, item_text, item_words, many_files, many_text, many_words, one_line, shelf_with, small_page, small_text}
pub use Rattle.rx_command.specs.Runs.{Devices, EndsAs, EndsSo, GatheringEnds, ReadCause, ReadsAll, SampleEnds, Says, SaysAs, SaysNothing, StartsEach, StopsCleanly, TakesFiles, TakesJob, TakesToFault, context_line, reads_files, usage_line}
pub use Rattle.rx_command.specs.Samples.{HasDepth, IsCut, IsDeepest, IsSample, SamplesArePages, SaysOfSample, Yields, YieldsBoth, at_end, behind_items, cut_in, head, in_item, item_before, item_behind, items_to, line_for, line_with, sample_address, sample_page, sample_setting, triples_in}
pub use Rattle.rx_command.specs.Ways.{approach_way, extraction_of}
pub use Rattle.rx_grammar.specs.Pages.{Document, a_doctype, no_more, nothing, passed}
pub use Rattle.rx_items.proofs.Common.{Fault, IsRefusal, Limits, MeaningAt, Page, Refuses, Syntax, Way, for_form, for_meaning, is_some, nat_le, option_map, ◌*◌}
pub use Rattle.rx_job.specs.Jobs.{page_by, several_seen, text_in}
pub use Rattle.rx_job.specs.Words.{Asked, Extraction, Gathering, Itemization, Job, Listed, Task, arguments_given, checking, checks, count_of, extraction, extracts, gathering_in, gathers, is_word, itemization, itemizes, job, most_items, page_asked, page_in, reads, samples, sampling, several}
pub use Rattle.rx_jsonld.proofs.Common.{GrowsBy, GrowsByPart, WhereKnown, decimal}
pub use Rattle.rx_many.specs.Pages.{refused_page}
pub use Rattle.rx_nest.specs.Faults.{StopGives, Stops}
pub use Rattle.rx_page.proofs.FaultLemmas.{fronts, none_read, one_first, page_has_none, refused_from}
pub use Rattle.rx_page.proofs.FrontLemmas.{clean_of, end_first, limits_are, no_bytes_read, not_longer, refuses_so}
pub use Rattle.rx_page.proofs.OutcomeLemmas.{refuses_first, the_fault}
pub use Rattle.rx_page.proofs.TextLemmas.{the_text, tree_of_text}
pub use Rattle.rx_page.specs.Settings.{GivesList, GivesRight, HasFirst, PageHasItems, item_setting_for, item_way, rdfa_way, setting_for, standard_limits}
pub use Rattle.rx_page.specs.Tasks.{DenotesGraph, HasItems, HasText, IsAccepted, IsRight, TaskGives, facts_in, way_in}
pub use Rattle.rx_page.specs.Texts.{JsonText, as_read, ok_line}
pub use Rattle.rx_pages.proofs.Common.{Html, Progress, all_scalars, no_progress, page_ended, page_on, page_read, spot_of}
pub use Rattle.rx_pages.proofs.OnlyPages.{finds_only_faults, reads_only_pages}
pub use Rattle.rx_ports.proofs.MoveLemmas.{moves_at, moves_same, moves_then, moves_weaker}
pub use Rattle.rx_ports.specs.Counts.{Rose}
pub use Rattle.rx_ports.specs.Files.{file_of}
pub use Rattle.rx_ports.specs.Shelves.{Lacks, ShelfContent, ShelfReads, Starts, Stays}
pub use Rattle.rx_rdfa.proofs.Common.{Blank, Chars, Context, Err, IfOk, Iri, List, Literal, Node, None, Ok, OnOk, Option, Plain, Renamed, Resource, Result, Some, Tree, Triple, [], ap, append-nil, append_assoc, ap₂, arith, chars, codes, copied, drop, element, encode_utf8_all, end, false, graph_of, inl, inr, length, length-append, nat_eq, nat_lt, nat_tests, numbered, option_and_then, refl, rules, set_of, slice_get, spo, subst, suc, sym, take, true, written, zero, ℕ, ⊎_elim, ◌&&◌, ◌++◌, ◌+◌, ◌-◌, ◌<◌, ◌∙◌, ◌∷◌, ◌≡◌, ◌≢◌, ◌≤◌, ◌⊎◌}
pub use Rattle.rx_walk.specs.RefusalLaws.{refusal_laws}
pub use Rattle.std.proofs.Common.{length-take, vec_len}
pub use Rattle.rx_microdata.specs.Base.{base_in}
pub use Rattle.rx_grammar.specs.Kinds.{refused_line}
