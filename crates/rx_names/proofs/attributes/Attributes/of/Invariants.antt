use Rattle.rx_names.proofs.Common.{take, AreMarked, tag_seen, token_tag}
use Rattle.rx_names.proofs.attributes.Attributes.of.Given as goal

abbrev pub invariant-loop-i : goal.invariant-loop-i
invariant-loop-i l = AreMarked l.marks l.namespaces (take l.i (token_tag (tag_seen l.tag)).attributes)
