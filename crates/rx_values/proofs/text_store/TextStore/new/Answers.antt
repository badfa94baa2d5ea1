use Rattle.rx_terms.proofs.Common.{◌∙◌, ap, chars, chars-nil}
use Rattle.rx_values.proofs.text_store.TextStore.new.Goals as goal

pub returns : goal.returns
returns c = ap chars c.new.ensures.bytes ∙ chars-nil
