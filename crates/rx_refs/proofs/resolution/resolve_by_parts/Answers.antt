use Rattle.rx_refs.proofs.Common.{◌≡◌, sym, subst, refl, string_bytes, chars, Chars, trimmed, IsIri, ok_is, Components, recomposed, cleaned, seen, seen_target}
use Rattle.rx_refs.specs.Parts.{components_of}
use Rattle.rx_refs.specs.Resolve.{target, resolved}
use Rattle.rx_refs.proofs.WholeLemmas.{resolved-iri}
use Rattle.rx_refs.proofs.resolution.resolve_by_parts.Goals as goal
use Rattle.rx_refs.proofs.resolution.resolve_by_parts.Goals.{In_ok-clean}

together : (base reference base_text trim clean text : Chars) (t b r : Components) → clean ≡ cleaned text → text ≡ recomposed t → t ≡ target b r
    → b ≡ components_of base_text → base_text ≡ base → r ≡ components_of trim → trim ≡ trimmed reference → clean ≡ resolved base reference
unfolding resolved
together base reference base_text trim clean text t b r cleans joins aims splits same cuts trims = rw (cleans, joins, aims, splits, same, cuts, trims) refl

meaning : (c : In_ok-clean) → chars (string_bytes c.in_ok-clean.clean) ≡ resolved c.args.base.now (chars c.args.reference.now)
meaning c =
    together c.args.base.now (chars c.args.reference.now) (chars c.as_str.result.now) (chars c.trim.result.now) (chars (string_bytes c.in_ok-clean.clean)) (chars (string_bytes c.in_ok-text.text))
    (seen_target c.target_of-target.result) (seen c.split.result) (seen c.split-2.result)
    c.in_ok-clean.ensures c.in_ok-text.ensures c.target_of-target.ensures c.split.ensures c.as_str.ensures.characters c.split-2.ensures c.trim.ensures

pub of_string-requires : goal.of_string-requires
of_string-requires c = subst IsIri (sym (meaning c)) ((resolved-iri c.args.base.now (chars c.args.reference.now)).iri c.as_str.ensures.form)

pub returns-clause-meaning : goal.returns-clause-meaning
returns-clause-meaning c = ok_is c.of_string.result (meaning (goal.at.returns-clause-meaning c).In_ok-clean) c.of_string.ensures
