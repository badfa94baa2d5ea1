use Rattle.rx_names.proofs.Common.{◌<◌, length, arith, chars, get_or_from_slice_get, Chars, tag_seen, token_tag}
use Rattle.rx_names.proofs.DeclarationLemmas.{more-namespaces}
use Rattle.rx_names.proofs.declarations.push_namespaces.Goals as goal

pub loop-i-preserved : goal.loop-i-preserved
loop-i-preserved c =
    let attributes = (token_tag (tag_seen c.args.tag.now)).attributes in
    let a : Chars × Chars = (chars c.attr_at.result.0.now, chars c.attr_at.result.1.now) in
    let within : c.loop-i.i < length attributes = omega (arith, c.count-i-end.ensures, c.loop-i-test.true) in
    more-namespaces attributes c.loop-i.i a c.args.rows.now c.loop-i.rows c.push_namespace.new.rows within
    (get_or_from_slice_get attributes c.loop-i.i a a c.attr_at.ensures) c.loop-i.invariant c.in_ok-push_namespace.ensures.ok
