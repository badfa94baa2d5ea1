use Rattle.rx_eval.proofs.Common.{rules, facts_seen, MayOpen, with_pending, State}
use Rattle.rx_eval.proofs.StandLemmas.{enter_stands}
use Rattle.rx_eval.proofs.eval.Eval.enter.Goals as goal

pub returns-clause-stands : goal.returns-clause-stands
returns-clause-stands c to list s =
    let may : MayOpen c.args.self.now (facts_seen c.args.facts.now) = c.requires (search rules) in
    let new : State = with_pending c.open.new.pending c.open.new.stack in
    enter_stands to list c.args.self.now (facts_seen c.args.facts.now) new (search rules) may.root may.drawn s
