use Rattle.rx_terms.proofs.Common.{◌≡◌, ◌≢◌, ◌∙◌, ℕ, List, ap, sym, refl, true, false, nat_eq, pointwise, bytes_decides, xsd_string, same-ascii}
use Rattle.rx_terms.specs.declared.literals.LiteralKind.TheVariants.{Typed}
use Rattle.rx_terms.proofs.literals.Literal.typed.Goals as goal

other_kind : (datatype : List ℕ) → pointwise nat_eq datatype xsd_string ≡ false → Typed datatype ≢ Typed xsd_string
other_kind datatype e f =
    let same : datatype ≡ xsd_string = (cc) in
    let told : pointwise nat_eq datatype xsd_string ≡ true = (bytes_decides datatype xsd_string).1 same in
    absurd (cc)

pub returns-then-eq-clause-typed : goal.returns-then-eq-clause-typed
returns-then-eq-clause-typed c =
    let e : pointwise nat_eq c.args.datatype xsd_string ≡ true =
    ap (λ x. pointwise nat_eq x xsd_string) (sym c.as_str.ensures.characters) ∙ sym (c.if-eq.ensures ∙ same-ascii _ xsd_string c.as_str.utf8 refl) in
    rw e refl

pub returns-clause-typed : goal.returns-clause-typed
returns-clause-typed c =
    let e : pointwise nat_eq c.args.datatype xsd_string ≡ false =
    ap (λ x. pointwise nat_eq x xsd_string) (sym c.as_str.ensures.characters) ∙ sym (c.if-eq.ensures ∙ same-ascii _ xsd_string c.as_str.utf8 refl) in
    rw e refl

pub returns-clause-proper : goal.returns-clause-proper
returns-clause-proper c =
    other_kind c.args.datatype
    (ap (λ x. pointwise nat_eq x xsd_string) (sym c.as_str.ensures.characters) ∙ sym (c.if-eq.ensures ∙ same-ascii _ xsd_string c.as_str.utf8 refl))
