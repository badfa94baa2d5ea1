use Rattle.rx_many.proofs.Common.{◌∙◌, ◌+◌, sym, ap}
use Rattle.rx_many.proofs.HereLemmas.{here_length}
use Rattle.rx_many.proofs.blanks.Blanks.turn.Goals as goal

pub returns-clause-before : goal.returns-clause-before
returns-clause-before c =
    rw (← c.self.view_is)
    (c.in-Some-checked_add.ensures.1 ∙ ap (λ n. c.self.inside.before + n) (c.in-Some.ensures.1 ∙ ap (λ n. c.self.inside.next + n) c.len.ensures.len ∙ sym (here_length c.self.inside.next c.self.inside.others)))
