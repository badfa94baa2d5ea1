use Rattle.std.proofs.Common.{take}
use Rattle.rx_tags.proofs.TakeLemmas.{small_ascii, gains_key}
use Rattle.rx_tags.proofs.PairLemmas.{on_ok}
use Rattle.rx_tags.proofs.pairs.Pairs.take_small.Goals as goal

pub push_key_ascii-requires-clause-ascii : goal.push_key_ascii-requires-clause-ascii
push_key_ascii-requires-clause-ascii c = small_ascii (take c.small_length-count.result c.args.bytes.now) c.small_length-count.ensures.small

pub returns-clause-gains : goal.returns-clause-gains
returns-clause-gains c =
    rw (← c.self.view_is)
    (gains_key c.self.inside.run c.self.inside.attributes c.push_key_ascii.new.self (take c.small_length-count.result c.args.bytes.now) c.small_length-count.result _ c.if-count-eq0.false c.small_length-count.ensures.small
    (on_ok _ c.if-is_err.ensures.value c.push_key_ascii.ensures.ok))
