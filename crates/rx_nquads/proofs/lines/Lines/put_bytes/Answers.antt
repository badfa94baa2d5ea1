use Rattle.std.proofs.Common.{◌∙◌, sym}
use Rattle.rx_nquads.proofs.LinesLemmas.{lines_grown}
use Rattle.rx_nquads.proofs.lines.Lines.put_bytes.Goals as goal

pub returns-clause-bytes : goal.returns-clause-bytes
returns-clause-bytes c =
    rw (← c.self.view_is)
    (lines_grown c.self.inside.pieces c.add.new.self c.self.inside.whole.held c.add.new.sink.held c.self.inside.whole.faults c.add.new.sink.faults c.args.bytes.now (sym c.has_failed.ensures ∙ c.if-has_failed.false)
    (sym c.has_failed-2.ensures ∙ c.if-has_failed-2.false) c.add.ensures)
