use Rattle.rx_items.proofs.Common.{[], ◌∙◌, ap, sym, Some, on_ok_weaker, slice_get-get_or, slice_get_past, chars, unwrap_or, slice_get, string_of}
use Rattle.rx_items.proofs.ReadingLemmas.{cut_at_start, found_time, no_time}
use Rattle.rx_items.proofs.WritingLemmas.{data_told}
use Rattle.rx_items.proofs.parts.write_own.Goals as goal

pub returns-in-Some : goal.returns-in-Some
returns-in-Some g c =
    on_ok_weaker c.write_text.result
    (λ wrote. data_told (string_of (chars c.since.result.now)) (string_of (unwrap_or (slice_get c.args.times.now c.args.number) []))
    (found_time c.args.times.now c.args.number c.in-Some.time.now (chars c.since.result.now) (slice_get-get_or c.args.times.now c.args.number c.in-Some.time.now c.in-Some.ensures.lookup.3.0 ∙ ap Some (sym c.in-Some.ensures.lookup.1)) (c.since.ensures.rest [] c.in-Some.time.now (cut_at_start c.in-Some.time.now)))
    wrote)
    c.write_text.ensures

pub returns-in-None : goal.returns-in-None
returns-in-None g c =
    on_ok_weaker c.write_text-in-None.result
    (λ wrote. data_told (string_of (chars [])) (string_of (unwrap_or (slice_get c.args.times.now c.args.number) []))
    (no_time c.args.times.now c.args.number (slice_get_past c.args.times.now c.args.number c.in-None.ensures.lookup.3)) wrote)
    c.write_text-in-None.ensures
