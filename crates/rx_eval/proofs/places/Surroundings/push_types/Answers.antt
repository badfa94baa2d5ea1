use Rattle.std.proofs.Common.{refl}
use Rattle.rx_eval.proofs.TripleLemmas.{type_came}
use Rattle.rx_eval.proofs.places.Surroundings.push_types.Goals as goal

pub loop-i-preserved : goal.loop-i-preserved
loop-i-preserved c =
    type_came c.args.self.now.labels.now c.args.self.now.fresh _ _ _ c.args.types.now c.loop-i.i _ _ _ _ _ _ c.at.ensures.node refl refl refl c.in_ok-push_type.ensures
    c.loop-i.invariant
