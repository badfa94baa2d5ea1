use Rattle.rx_refs.proofs.Common.{◌≡◌, ◌∙◌, sym, ap, subst, string_bytes, chars, IsIri}
use Rattle.rx_refs.specs.Resolve.{resolved}
use Rattle.rx_refs.proofs.WholeLemmas.{resolved-iri}
use Rattle.rx_refs.proofs.resolution.itself.Goals as goal

pub of_string-requires : goal.of_string-requires
of_string-requires c =
    let meaning : chars (string_bytes c.in_ok-text.text) ≡ resolved c.args.base.now (chars c.args.reference.now) = ap chars c.in_ok-text.ensures.ok ∙ sym c.requires in
    subst IsIri (sym meaning) ((resolved-iri c.args.base.now (chars c.args.reference.now)).iri c.as_str-base.ensures.form)
