use Rattle.std.proofs.Common.{◌∙◌}
use Rattle.rx_eval.proofs.NodeLemmas.{nodes_agree}
use Rattle.rx_eval.proofs.handing.is_same.Goals as goal

pub returns : goal.returns
returns c = c.eq.ensures ∙ nodes_agree c.args.a.now c.args.b.now
