use Rattle.rx_items.proofs.Common.{◌≡◌, ◌∙◌, [], List, Option, Some, ap, sym, on_ok_weaker, unwrap_or, slice_get, Chars, chars, said, string_of}
use Rattle.rx_microdata.specs.Facts as facts
use Rattle.rx_items.proofs.ReadingLemmas.{empty_value}
use Rattle.rx_items.proofs.WritingLemmas.{data_told}
use Rattle.rx_items.proofs.parts.write_plain.Goals as goal

pub returns-in-Empty : goal.returns-in-Empty
returns-in-Empty g c v shows =
    on_ok_weaker c.write_text.result
    (λ wrote. data_told (string_of (chars [])) (string_of (said c.args.kept.now.base v)) (empty_value c.args.kept.now.base v (rw c.in-Empty.is at shows)) wrote)
    c.write_text.ensures

pub returns-in-ChildText : goal.returns-in-ChildText
returns-in-ChildText g c v shows =
    let shown = rw c.in-ChildText.is at shows in
    let times : c.as_slice.result.now ≡ c.args.kept.now.times.items = c.as_slice.ensures.value in
    let found : slice_get c.as_slice.result.now c.in-ChildText.number ≡ Some shown.0 = ap (λ (ts : List Chars). slice_get ts c.in-ChildText.number) times ∙ shown.2 in
    on_ok_weaker c.write_own.result
    (λ wrote. data_told (string_of (unwrap_or (slice_get c.as_slice.result.now c.in-ChildText.number) [])) (string_of (said c.args.kept.now.base v))
    (ap (λ (o : Option Chars). string_of (unwrap_or o [])) found ∙ sym (ap (λ (u : facts.Value). string_of (said c.args.kept.now.base u)) shown.1)) wrote)
    c.write_own.ensures
