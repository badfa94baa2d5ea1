use Rattle.rx_names.proofs.Common.{◌<◌, length, refl, subst, arith, chars, take_all, get_or_from_slice_get, Chars, AreMarked, tag_seen, token_tag}
use Rattle.rx_names.proofs.MarkLemmas.{none_marked, one_taken, namespaces_taken}
use Rattle.rx_names.proofs.attributes.Attributes.of.Goals as goal

pub loop-i-init : goal.loop-i-init
loop-i-init c = record { marked = none_marked 0; none = λ e. refl }

pub loop-i-preserved : goal.loop-i-preserved
loop-i-preserved c =
    let attributes = (token_tag (tag_seen c.args.tag.now)).attributes in
    let a : Chars × Chars = (chars c.attr_at.result.0.now, chars c.attr_at.result.1.now) in
    let within : c.loop-i.i < length attributes = omega (arith, c.count-i-end.ensures, c.loop-i-test.true) in
    let here = get_or_from_slice_get attributes c.loop-i.i a a c.attr_at.ensures in
    record {
      marked = one_taken attributes c.loop-i.i c.loop-i.marks c.mark_of-marks.result a within here c.mark_of-marks.ensures.characters c.loop-i.invariant.marked;
      none = namespaces_taken attributes c.loop-i.i c.loop-i.namespaces c.has_namespace-namespaces.result a within here c.has_namespace-namespaces.ensures c.loop-i.invariant.none;
    }

pub invariant_of-result : goal.invariant_of-result
invariant_of-result c =
    let attributes = (token_tag (tag_seen c.args.tag.now)).attributes in
    subst (λ l. AreMarked c.loop-i.marks c.loop-i.namespaces l) (take_all c.loop-i.i attributes (omega (arith, c.count-i-end.ensures, c.loop-i-test.false))) c.loop-i.invariant
