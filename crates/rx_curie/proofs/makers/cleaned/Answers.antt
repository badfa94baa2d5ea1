use Rattle.rx_terms.proofs.Common.{string_bytes, chars, ok_is}
use Rattle.rx_curie.proofs.MadeLemmas.{text-iri}
use Rattle.rx_curie.proofs.makers.cleaned.Goals as goal

pub of_string-requires : goal.of_string-requires
of_string-requires c = text-iri (chars c.args.iri.now) (chars (string_bytes c.in_ok-text.text)) c.requires c.in_ok-text.ensures

pub returns : goal.returns
returns c = ok_is c.of_string.result c.in_ok-text.ensures c.of_string.ensures
