use Rattle.rx_many.proofs.Common.{ap, refl, triple_seen}
use Rattle.rx_model.proofs.Common.{on_ok_both}
use Rattle.rx_many.proofs.PageLemmas.{own_statement}
use Rattle.rx_many.proofs.documents.Document.put_new.Goals as goal

pub returns : goal.returns
returns c shared place lines s own fresh =
    on_ok_both c.put.result
    (λ e w. own_statement shared place c.args.self.now _ lines s c.args.name.now (triple_seen c.args.triple.now) (triple_seen c.in_ok-triple.triple)
    c.in_ok-triple.ensures.before c.in_ok-triple.ensures.known c.in_ok-triple.ensures.renamed own fresh (ap (λ lines. lines.bytes) e) refl w)
    c.put.ensures.line c.put.ensures.writable
