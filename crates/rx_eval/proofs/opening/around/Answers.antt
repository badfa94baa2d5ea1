use Rattle.rx_eval.proofs.OpenLemmas.{around_last}
use Rattle.rx_eval.proofs.opening.around.Goals as goal

pub returns-in-len1-up : goal.returns-in-len1-up
returns-in-len1-up c = around_last c.args.page.now c.args.frames.now c.frame-item.result c.in-len1-up.len_at_least c.frame-item.is
