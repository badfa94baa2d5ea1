use Rattle.std.proofs.Common.{◌∙◌, [], false, sym, refl, append-nil, ap}
use Rattle.rx_pieces.specs.Underway.{nothing_waits}
use Rattle.rx_nquads.proofs.LinesLemmas.{grown}
use Rattle.rx_nquads.proofs.lines.Lines.into_bytes.Goals as goal

pub returns-in-Ok-clause-bytes : goal.returns-in-Ok-clause-bytes
returns-in-Ok-clause-bytes c =
    c.into_bytes.ensures ∙ sym (append-nil c.send.new.sink.held)
    ∙ grown c.self.inside.pieces (nothing_waits false) c.self.inside.whole.held c.send.new.sink.held c.self.inside.whole.faults c.send.new.sink.faults [] c.in-Ok.ensures.whole refl c.in-Ok.ensures.adds
    ∙ append-nil _ ∙ ap (λ lines. lines.bytes) c.self.view_is
