use Rattle.rx_terms.proofs.Common.{◌∙◌, ap, sym, length, encode_utf8_all, encodes-chars}
use Rattle.rx_values.proofs.text_store.TextStore.mark.Goals as goal

pub returns : goal.returns
returns c = ap length (c.as_str.ensures.value ∙ sym (encodes-chars _ c.self.invariant) ∙ ap encode_utf8_all c.self.view_is)
