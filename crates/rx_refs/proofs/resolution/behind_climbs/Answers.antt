use Rattle.rx_refs.proofs.Common.{◌≡◌, ◌∙◌, ◌++◌, sym, subst, ap, take, drop, List, ℕ, ◌-◌, arith, string_bytes, chars, IsIri, encode_utf8_all}
use Rattle.rx_refs.specs.Resolve.{resolved}
use Rattle.rx_refs.proofs.WholeLemmas.{resolved-iri}
use Rattle.rx_refs.proofs.resolution.behind_climbs.Goals as goal

pub of_string-requires : goal.of_string-requires
of_string-requires c =
    let all : c.args.front - 0 ≡ c.args.front = omega arith in
    let front : c.range.result.now ≡ take c.args.front (encode_utf8_all c.args.base.now) =
    c.range.ensures.value ∙ ap (λ (k : ℕ). take k c.as_str.result.now) all ∙ ap (take c.args.front) c.as_str.ensures.bytes in
    let rest : c.range_from.result.now ≡ drop c.args.left_out c.args.reference.now = c.range_from.ensures.value in
    let meaning : chars (string_bytes c.in_ok-whole.whole) ≡ resolved c.args.base.now (chars c.args.reference.now) =
    c.in_ok-whole.ensures ∙ ap (λ (x : List ℕ). chars x ++ chars c.range_from.result.now) front
    ∙ ap (λ (x : List ℕ). chars (take c.args.front (encode_utf8_all c.args.base.now)) ++ chars x) rest ∙ sym c.requires.meaning in
    subst IsIri (sym meaning) ((resolved-iri c.args.base.now (chars c.args.reference.now)).iri c.as_str.ensures.form)
