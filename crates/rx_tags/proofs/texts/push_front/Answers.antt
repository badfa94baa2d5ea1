use Rattle.std.proofs.Common.{◌∙◌, ◌-◌, ap, arith, take, length}
use Rattle.rx_tags.proofs.Pieces.{cut_front}
use Rattle.rx_tags.proofs.texts.push_front.Goals as goal

pub returns-clause-ok : goal.returns-clause-ok
returns-clause-ok c =
    let items = c.in_ok-extend_from_slice.ensures.items in
    c.truncate.ensures.items ∙ ap (λ t. take (c.len.result - (16 - c.args.count)) t) items
    ∙ cut_front c.args.text.now.items c.args.bytes.now c.len.result c.args.count 16 (omega (arith, c.if-count-gt-AT_ONCE.false)) (omega (arith, c.if-bytes-lt-AT_ONCE.false)) (c.len.ensures ∙ omega (arith, c.extend_from_slice.new.self.ok.0, ap length items))
