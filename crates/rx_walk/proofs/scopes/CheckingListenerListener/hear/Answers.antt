use Rattle.std.specs.Str.{chars}
use Rattle.rx_walk.proofs.Accepted.{accepts_said}
use Rattle.rx_walk.proofs.scopes.CheckingListenerListener.hear.Goals as goal

pub returns-in-Text-clause-hears : goal.returns-in-Text-clause-hears
returns-in-Text-clause-hears c setting signs r f = rw c.in-Text.is (accepts_said setting.context c.args.self.now.names signs r (chars c.in-Text._text.now))
