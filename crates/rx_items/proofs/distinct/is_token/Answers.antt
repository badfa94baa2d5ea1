use Rattle.std.proofs.Common.{◌∙◌, sym}
use Rattle.rx_items.proofs.TokenLemmas.{unbroken_token}
use Rattle.rx_items.proofs.distinct.is_token.Goals as goal

pub returns : goal.returns
returns c is = unbroken_token c.args.text.now c.utf8.text (sym c.is_empty.ensures ∙ c.if-is_empty.false) (sym c.is_unbroken.ensures ∙ is)
