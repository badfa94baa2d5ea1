use Rattle.std.proofs.Common.{◌+◌, arith}
use Rattle.rx_graph.proofs.NumberedLemmas.{stays, goes_on}
use Rattle.rx_graph.proofs.numbering.next_after_blank.Goals as goal

pub returns-then-blank-next : goal.returns-then-blank-next
returns-then-blank-next c = stays c.args.next c.args.blank.0 c.if-blank-next.true

pub returns : goal.returns
returns c = goes_on c.args.next c.args.blank.0 (c.args.next + 1) (omega (arith, c.if-blank-next.false, c.if-blank-next-2.false)) (omega arith)
