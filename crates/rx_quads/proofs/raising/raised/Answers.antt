use Rattle.rx_model.proofs.Common.{◌∙◌, triples_seen}
use Rattle.rx_quads.proofs.RaisedLemmas.{raised_zero, raised_by, raised_ok}
use Rattle.rx_quads.proofs.raising.raised.Goals as goal

pub returns-then-first-eq0 : goal.returns-then-first-eq0
returns-then-first-eq0 c = raised_zero c.args.first (triples_seen c.args.graph) c.if-first-eq0.true

pub returns-in-Ok : goal.returns-in-Ok
returns-in-Ok c = raised_ok c.of_owned.result _ _ (c.in-Ok.ensures ∙ raised_by c.args.first (triples_seen c.args.graph) c.if-first-eq0.false) c.of_owned.ensures
