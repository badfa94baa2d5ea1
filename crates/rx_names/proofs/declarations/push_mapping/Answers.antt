use Rattle.rx_names.proofs.Common.{◌∙◌, ap, sym, chars, Chars, counts}
use Rattle.rx_names.proofs.DeclarationLemmas.{sound-mapping}
use Rattle.rx_names.proofs.declarations.push_mapping.Goals as goal

pub push-requires : goal.push-requires
push-requires c =
    let is = c.counts.ensures ∙ ap (λ (x : Chars). counts (x, chars c.args.iri.now)) c.as_str.ensures.characters ∙ ap (λ (x : Chars). counts (c.in_ok-name.name, x)) (sym c.in_ok-iri.ensures) in
    sound-mapping (chars c.args.name.now) c.in_ok-name.name c.in_ok-iri.iri c.counts.result c.in_ok-name.ensures is c.if-not-counts.false
