use Rattle.rx_nest.proofs.Common.{refl, sym, subst, TakesBytes}
use Rattle.rx_nest.proofs.Endings.{stepped, shown_more}
use Rattle.rx_nest.proofs.nests.Nest.step.Goals as goal

pub returns : goal.returns
returns c =
    let k = c.in-Ok.ensures.keeps in
    let more = shown_more c.in-Ok.done.1 c.advance.new.self.scan c.shown.result c.shown.ensures in (
      (
        refl,
        (λ n. tt),
        (
          (k.0, k.1, k.2, k.3, subst (λ b. TakesBytes c.args.piece.now c.in-Ok.done.0 b c.args.self.now.owed c.advance.new.self.owed) (sym more) k.4),
          (λ syntax limits bytes signs st. stepped syntax limits bytes signs c.args.piece.now c.in-Ok.done.0 c.in-Ok.done.1 c.shown.result c.advance.new.self (c.in-Ok.ensures.steps syntax limits bytes signs st) c.shown.ensures),
        ),
      ),
      record { after = tt; quiet = λ syntax limits bytes signs st b q. refl },
    )
