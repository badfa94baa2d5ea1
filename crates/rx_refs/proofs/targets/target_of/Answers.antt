use Rattle.rx_refs.proofs.Common.{◌∙◌, sym, ap, Option, Chars, seen_slice, seen}
use Rattle.rx_refs.proofs.TargetLemmas.{seen-some, seen-or}
use Rattle.rx_refs.proofs.WholeLemmas.{components, target-absolute, target-network, target-same, target-relative}
use Rattle.rx_refs.proofs.targets.target_of.Goals as goal

pub returns-then-is_some : goal.returns-then-is_some
returns-then-is_some c = sym (target-absolute (seen c.args.base) (seen c.args.reference) (seen-some c.args.reference.scheme ∙ sym c.if-is_some.ensures))

pub returns-then-is_some-2 : goal.returns-then-is_some-2
returns-then-is_some-2 c =
    sym (target-network (seen c.args.base) (seen c.args.reference) (seen-some c.args.reference.scheme ∙ sym c.if-is_some.ensures) (seen-some c.args.reference.authority ∙ sym c.if-is_some-2.ensures))

pub returns-then-is_empty : goal.returns-then-is_empty
returns-then-is_empty c =
    let base = seen c.args.base in
    let reference = seen c.args.reference in
    ap (λ (q : Option Chars). components base.scheme base.authority base.path q reference.fragment) (ap seen_slice c.or.ensures ∙ seen-or c.args.reference.query c.args.base.query)
    ∙ sym (target-same base reference (seen-some c.args.reference.scheme ∙ sym c.if-is_some.ensures) (seen-some c.args.reference.authority ∙ sym c.if-is_some-2.ensures) (sym c.if-is_empty.ensures))

pub returns : goal.returns
returns c =
    let base = seen c.args.base in
    let reference = seen c.args.reference in
    ap (λ (p : Chars). components base.scheme base.authority p reference.query reference.fragment) c.target_path.ensures
    ∙ sym (target-relative base reference (seen-some c.args.reference.scheme ∙ sym c.if-is_some.ensures) (seen-some c.args.reference.authority ∙ sym c.if-is_some-2.ensures) (sym c.if-is_empty.ensures))
