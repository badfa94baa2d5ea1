use Rattle.rx_terms.proofs.Common.{refl, chars}
use Rattle.rx_walk.proofs.Coursing.{runs_said}
use Rattle.rx_walk.proofs.courses.RdfaListener.text.Goals as goal

pub returns-clause-hears : goal.returns-clause-hears
returns-clause-hears c context address levels signs r f =
    runs_said context address levels c.args.self.now (record { origin = c.args.self.now.origin; names = c.args.self.now.names; maker = c.args.self.now.maker; facts = c.args.self.now.facts; count = c.args.self.now.count; stage = c.text.new.self }) signs r
    (chars c.args.text.now) f refl refl refl c.in_ok-text.ensures.tells
