use Rattle.rx_terms.proofs.Common.{◌∙◌, ◌++◌, sym, ap, bytes_eq, chars}
use Rattle.rx_curie.proofs.MadeLemmas.{kept-same}
use Rattle.rx_curie.proofs.makers.is_joined.Goals as goal

pub returns : goal.returns
returns c = λ t.
    let text = chars c.args.front.now ++ chars c.args.more.now in
    kept-same text c.args.iri.now c.as_str.ensures.form (ap (bytes_eq text) (sym c.as_str.ensures.characters) ∙ (sym c.are_text.ensures ∙ t))
