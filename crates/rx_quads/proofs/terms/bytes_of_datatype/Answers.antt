use Rattle.rx_terms.proofs.Common.{◌≡◌, ◌∙◌, refl, ap, sym, true, false, bytes_eq, same-ascii, xsd_string}
use Rattle.rx_quads.proofs.terms.bytes_of_datatype.Goals as goal

pub returns-then-eq : goal.returns-then-eq
returns-then-eq c =
    let e : bytes_eq c.args.datatype.now xsd_string ≡ true =
    ap (λ x. bytes_eq x xsd_string) (sym c.as_str.ensures.characters) ∙ sym (c.if-eq.ensures ∙ same-ascii _ xsd_string c.as_str.utf8 refl) in
    rw e refl

pub returns : goal.returns
returns c =
    let e : bytes_eq c.args.datatype.now xsd_string ≡ false =
    ap (λ x. bytes_eq x xsd_string) (sym c.as_str.ensures.characters) ∙ sym (c.if-eq.ensures ∙ same-ascii _ xsd_string c.as_str.utf8 refl) in
    rw e (c.as_bytes.ensures.value ∙ c.as_str-2.ensures.bytes)
