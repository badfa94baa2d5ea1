use Rattle.rx_terms.proofs.Common.{◌∙◌, sym, ap, encode_utf8_all, encodes-chars}
use Rattle.rx_items.proofs.named.token_at.Goals as goal

pub returns : goal.returns
returns c token stands = sym (encodes-chars c.text_of.result.now c.text_of.utf8) ∙ ap encode_utf8_all (c.text_of.ensures stands.front token stands.rest stands.is_run)
