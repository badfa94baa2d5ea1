use Rattle.rx_items.proofs.Common.{◌∙◌, map, drop, chars, each_events, string_of}
use Rattle.rx_json.proofs.GrowLemmas.{turn, ends_at, row_end}
use Rattle.rx_items.proofs.WritingLemmas.{text_turn}
use Rattle.rx_items.proofs.parts.write_texts.Goals as goal

pub loop-text-preserved : goal.loop-text-preserved
loop-text-preserved g c =
    turn (text_turn c.args.texts.now c.loop-text.text-index (chars c.as_str.result.now) c.text-item.result c.loop-text-test.true (c.as_str.ensures.characters ∙ c.text-item.is)) c.loop-text.invariant c.in_ok-write_text.ensures

pub returns : goal.returns
returns g c = ends_at (each_events (map string_of (drop c.loop-text.text-index c.args.texts.now))) (row_end string_of c.args.texts.now c.loop-text.text-index c.loop-text-test.false) c.loop-text.invariant
