use Rattle.std.proofs.Common.{refl, ◌∙◌, arith}
use Rattle.rx_tags.proofs.Pieces.{replaced}
use Rattle.rx_tags.proofs.attributes.Attributes.replace_run.Goals as goal

pub invariant_of-self-2 : goal.invariant_of-self-2
invariant_of-self-2 c = (replaced c.self.inside.text.items c.extend_from_slice.new.self.items _ _ _ c.self.inside.end c.len-self-inside.result c.args.c c.self.invariant c.ranges.c.0 (c.in_ok-extend_from_slice.ensures.items ∙ (rw (c.truncate.ensures.items, c.in_ok-reserve.ensures.items, c.as_bytes-bytes.ensures.value, c.encode_utf8.ensures.value) refl)) (omega (arith, c.len-self-inside.ensures, c.extend_from_slice.new.self.ok.0))).0

pub returns-clause-ok : goal.returns-clause-ok
returns-clause-ok c = rw (← c.self.view_is) (replaced c.self.inside.text.items c.extend_from_slice.new.self.items _ _ _ c.self.inside.end c.len-self-inside.result c.args.c c.self.invariant c.ranges.c.0 (c.in_ok-extend_from_slice.ensures.items ∙ (rw (c.truncate.ensures.items, c.in_ok-reserve.ensures.items, c.as_bytes-bytes.ensures.value, c.encode_utf8.ensures.value) refl)) (omega (arith, c.len-self-inside.ensures, c.extend_from_slice.new.self.ok.0))).1
