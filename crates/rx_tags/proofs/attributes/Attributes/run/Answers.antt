use Rattle.rx_terms.proofs.Common.{sym, ◌∙◌, arith, drop, encodes-chars}
use Rattle.rx_tags.proofs.Pieces.{piece_rest}
use Rattle.rx_tags.proofs.attributes.Attributes.run.Goals as goal

pub returns : goal.returns
returns c =
    rw (← c.self.view_is, c.text_between.ensures, c.deref.ensures.value)
    (piece_rest c.self.inside.text.items c.self.inside.end c.len.result (omega (arith, c.len.ensures, c.self.inside.text.ok.0)) ∙ sym (encodes-chars (drop c.self.inside.end c.self.inside.text.items) c.self.invariant.pending))
