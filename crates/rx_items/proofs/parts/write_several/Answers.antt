use Rattle.std.proofs.lemmas.Result.{on_ok_weaker}
use Rattle.rx_items.proofs.WritingLemmas.{several_made, not_none}
use Rattle.rx_items.proofs.parts.write_several.Goals as goal

pub returns : goal.returns
returns g c =
    on_ok_weaker c.end_seq.result
    (λ ended. several_made _ c.args.texts.now (not_none c.args.texts.now c.is_empty.result c.is_empty.ensures c.if-is_empty.false) c.in_ok-key.ensures c.in_ok-begin_seq.ensures c.in_ok-write_texts.ensures ended)
    c.end_seq.ensures
