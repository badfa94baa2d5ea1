use Rattle.std.proofs.Common.{⊎_elim}
use Rattle.rx_chars.proofs.HeldLemmas.{no_fourth, none_broken}
use Rattle.rx_chars.proofs.utf8.Held.with.Goals as goal

pub returns-in-Three-clause-bytes : goal.returns-in-Three-clause-bytes
returns-in-Three-clause-bytes c =
    absurd (⊎_elim
    (λ three. no_fourth c.args.self three.0 three.1 three.2 c.args.byte three.3 c.requires)
    (λ broken. none_broken c.args.self c.args.byte broken c.requires)
    c.in-Three.is)
