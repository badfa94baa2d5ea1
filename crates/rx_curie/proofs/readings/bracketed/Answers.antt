use Rattle.std.specs.Str.{chars}
use Rattle.rx_curie.proofs.ReadLemmas.{in-brackets, no-bracket}
use Rattle.rx_curie.proofs.readings.bracketed.Goals as goal

pub returns-in-Some : goal.returns-in-Some
returns-in-Some c = in-brackets (chars c.args.text.now) (chars c.in-Some.rest.now) c.split_last.result c.in-Some.ensures c.split_last.ensures

pub returns-in-None : goal.returns-in-None
returns-in-None c = no-bracket (chars c.args.text.now) c.in-None.ensures
