use Rattle.rx_chars.proofs.HeldLemmas.{answer-broken}
use Rattle.rx_chars.proofs.utf8.Held.answer.Goals as goal

pub returns-in-Broken : goal.returns-in-Broken
returns-in-Broken c = answer-broken c.args.self c.args.byte c.in-Broken.is
