use Rattle.std.proofs.Common.{◌∙◌}
use Rattle.rx_items.proofs.IdLemmas.{put_under}
use Rattle.rx_items.proofs.ids.put_id.Goals as goal

pub returns : goal.returns
returns c = λ text. c.in_ok-insert.ensures.updates.0 (record { ref_ptr = (0, 0); now = text }) ∙ put_under c.args.id.now text _ _
