use Rattle.rx_refs.proofs.Common.{◌≡◌, ◌∙◌, sym, ap, subst, string_bytes, chars, IsIri, before}
use Rattle.rx_refs.proofs.SchemeLemmas.{iri-front}
use Rattle.rx_refs.proofs.resolution.without_fragment.Goals as goal

pub of_string-requires : goal.of_string-requires
of_string-requires c =
    let front : chars (string_bytes c.in_ok-text.text) ≡ before 35 c.args.iri.now = ap chars c.in_ok-text.ensures.ok ∙ c.cut.ensures.front ∙ ap (before 35) c.as_str.ensures.characters in
    subst IsIri (sym front) (iri-front c.args.iri.now c.as_str.ensures.form)
