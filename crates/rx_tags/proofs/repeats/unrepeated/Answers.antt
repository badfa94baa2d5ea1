use Rattle.rx_tags.proofs.RepeatLemmas.{alone}
use Rattle.rx_tags.proofs.repeats.unrepeated.Goals as goal

pub returns-then-rows-lt2 : goal.returns-then-rows-lt2
returns-then-rows-lt2 c = alone c.args.text.now c.args.rows.now c.if-rows-lt2.true
