use Rattle.rx_refs.proofs.Common.{◌∙◌, ◌++◌, ap, chars, chars-nil, Chars, cleaned}
use Rattle.rx_refs.proofs.escapes.clean_copy.Goals as goal

pub returns : goal.returns
returns c = c.in_ok-push_clean.ensures.ok ∙ ap (λ (x : Chars). x ++ cleaned (chars c.args.text.now)) (ap chars c.new-out.ensures.bytes ∙ chars-nil)
