use Rattle.std.proofs.Common.{◌∙◌, sym}
use Rattle.rx_nquads.proofs.LinesLemmas.{lines_grown}
use Rattle.rx_nquads.proofs.lines.Lines.put.Goals as goal

pub returns-clause-line : goal.returns-clause-line
returns-clause-line c =
    rw (← c.self.view_is)
    (lines_grown c.self.inside.pieces c.push_line.new.out c.self.inside.whole.held c.push_line.new.sink.held c.self.inside.whole.faults c.push_line.new.sink.faults _ (sym c.has_failed.ensures ∙ c.if-has_failed.false)
    (sym c.has_failed-2.ensures ∙ c.if-has_failed-2.false) c.push_line.ensures.adds.bytes)
