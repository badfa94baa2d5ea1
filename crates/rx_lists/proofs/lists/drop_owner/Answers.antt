use Rattle.std.proofs.Common.{arith}
use Rattle.rx_lists.proofs.FinishLemmas.{cut_last}
use Rattle.rx_lists.proofs.lists.drop_owner.Goals as goal

pub returns-then-number-len-2 : goal.returns-then-number-len-2
returns-then-number-len-2 c =
    cut_last c.args.owners.now.items c.truncate.new.self.items c.args.number (omega (arith, c.if-number-len-2.true, c.len-2.ensures)) c.truncate.ensures.items
