use Rattle.rx_grammar.proofs.Common.{◌≡◌, drop, chars, value_of}
use Rattle.rx_tags.specs.Seen.{tag_seen}
use Rattle.rx_tags.proofs.tags.Tag.attr.Given as goal

abbrev pub invariant-loop-i : goal.invariant-loop-i
invariant-loop-i l = value_of (drop l.i (tag_seen l.self).attributes) (chars l.name) ≡ value_of (tag_seen l.self).attributes (chars l.name)
