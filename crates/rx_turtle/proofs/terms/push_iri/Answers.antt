use Rattle.rx_turtle.proofs.Common.{codes, refl, between}
use Rattle.rx_turtle.proofs.TextLemmas.{short_added}
use Rattle.rx_turtle.proofs.terms.push_iri.Goals as goal

pub returns-in-None : goal.returns-in-None
returns-in-None g c = rw c.in-None.ensures (between (codes "<") _ (codes ">") refl refl c.push_between.ensures.adds)

pub returns-in-Some : goal.returns-in-Some
returns-in-Some g c = short_added c.args.shorts.now c.args.iri.now _ _ c.in-Some.ensures c.push.ensures c.push-in-Some.ensures c.add.ensures
