use Rattle.std.proofs.Common.{◌∙◌}
use Rattle.rx_tags.proofs.RepeatLemmas.{text_added}
use Rattle.rx_items.proofs.distinct.see.Goals as goal

pub returns-clause-added : goal.returns-clause-added
returns-clause-added c = λ text. c.in_ok-insert.ensures.updates.0 (record { ref_ptr = (0, 0); now = text }) ∙ text_added c.args.token.now text _
