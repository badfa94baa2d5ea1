use Rattle.rx_jsonld.proofs.Common.{IfOk-weaker, triples_seen, shape_in}
use Rattle.rx_jsonld.proofs.Denotes.{value_denotes}
use Rattle.rx_jsonld.proofs.texts.text.Goals as goal

pub returns-clause-denotes : goal.returns-clause-denotes
returns-clause-denotes c =
    IfOk-weaker c.spelled-text.result _ _
    (λ text is. value_denotes (triples_seen c.args.graph.now) (shape_in c.args.shapes.now) c.in_ok-cells.ensures.writable c.in_ok-cells.ensures.once c.requires.shapes.shape)
    c.spelled-text.ensures
