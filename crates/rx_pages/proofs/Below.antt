-- What the proofs of whole pages cite of those below, passed on from one place. Declares nothing.
pub use Rattle.rx_pages.proofs.Befores.{IsLast, LastIs, is_tag, kept_inside, spelled_last, spelled_less}
pub use Rattle.rx_pages.proofs.ByteFacts.{item_first, FirstEnds, byte_is, byte_read, ends_here, item_last, no_item, token_of_item, told_next}
pub use Rattle.rx_pages.proofs.ByteSteps.{is_le, not_le, not_long, part_on, progress_at, scan_at}
pub use Rattle.rx_pages.proofs.CharSteps.{entry_at, entry_on, passes, too_long_at}
pub use Rattle.rx_pages.proofs.CharWalk.{Fine, first_known, first_same, no_nuls, page_walk, to_last, token_first}
pub use Rattle.rx_pages.proofs.Comments.{bogus_at, inside_section, none_if, section_text}
pub use Rattle.rx_pages.proofs.Contents.{html_is, omissible_html, plaintext_by, same_is, self_closed_by}
pub use Rattle.rx_pages.proofs.Doctypes.{behind, behind_word, no_end, on_append, on_none}
pub use Rattle.rx_pages.proofs.Documents.{TellsTree, document_tells, no_end_outside}
pub use Rattle.rx_pages.proofs.Entered.{Within, all_parts, all_within, ends_return, is_started, len_positive, page_behind, page_entered, page_parted, page_within}
pub use Rattle.rx_pages.proofs.EntrySteps.{Stood, entry_step, nested_by, scanning_of}
pub use Rattle.rx_pages.proofs.FirstFronts.{FirstMore, NoFront, NoneBefore, all_none, begins_exactly, ends_append, ends_so, first_here, first_more, no_front_nil, no_front_snoc, none_before_nil, none_before_snoc, whole_first}
pub use Rattle.rx_pages.proofs.Foreparts.{Forepart, forepart, scalars_parts}
pub use Rattle.rx_pages.proofs.Front.{fronts_lead, none_among}
pub use Rattle.rx_pages.proofs.KnownTags.{known_front, known_snoc, one_unknown}
pub use Rattle.rx_pages.proofs.Markup.{first_is, is_first, markup_tag}
pub use Rattle.rx_pages.proofs.Nested.{has_after_text, opening}
pub use Rattle.rx_pages.proofs.Pending.{begun_goes, goes_within}
pub use Rattle.rx_pages.proofs.Prefix.{any_next, first_tokens, other_next, spelled_before}
pub use Rattle.rx_pages.proofs.RawEnds.{IsRawName, end_reads, ends_raw, is_raw_name, spells_end}
pub use Rattle.rx_pages.proofs.Reading.{Last, a_last, last_of, markup_is, no_last, raw_is}
pub use Rattle.rx_pages.proofs.Refusals.{IsRefused, refuses_comment, refuses_less_than, refuses_run, refuses_section, refuses_text}
pub use Rattle.rx_pages.proofs.ScanSteps.{First, first, ok_same, scan_first, with_before}
pub use Rattle.rx_pages.proofs.Steps.{of_end, of_start, same_turned}
pub use Rattle.rx_pages.proofs.TagRuns.{Known, KnownEnd, begins_more, end_more, front_goes, in_markup', in_raw', is_known, is_known_by, known, known_at, tag_refused}
pub use Rattle.rx_pages.proofs.TokenWalk.{Bound, IsKept, fine_append, go_all, is_kept, kept_goes_on, stood}
pub use Rattle.rx_pages.proofs.Tokens.{values_append}
pub use Rattle.rx_pages.proofs.TokensWalk.{Finish, Rises, RisesFrom, flags_behind, kept_literal, tokens_walk, two_lasts}
