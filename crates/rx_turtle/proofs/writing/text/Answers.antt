use Rattle.rx_turtle.proofs.Common.{◌∙◌, holds_text}
use Rattle.rx_turtle.proofs.writing.text.Goals as goal

pub returns-in-Ok-clause-bytes : goal.returns-in-Ok-clause-bytes
returns-in-Ok-clause-bytes c = c.into_bytes.ensures ∙ holds_text _ _ _ c.in_ok-whole.ensures c.in-Ok.ensures.ok

pub returns-in-Ok-clause-denotes : goal.returns-in-Ok-clause-denotes
returns-in-Ok-clause-denotes c = rw (c.into_bytes.ensures ∙ holds_text _ _ _ c.in_ok-whole.ensures c.in-Ok.ensures.ok) c.in-Ok.ensures.denotes
