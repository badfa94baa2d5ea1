use Rattle.rx_walk.proofs.Common.{refl, chars, on_ok_weaker, singles}
use Rattle.rx_walk.proofs.Staging.{found_tells, text_leads, said_tells}
use Rattle.rx_walk.proofs.TextKeeping.{text_idle}
use Rattle.rx_walk.proofs.stages.Stage.text.Goals as goal

pub returns-in-Found-clause-tells : goal.returns-in-Found-clause-tells
returns-in-Found-clause-tells c =
    rw c.in-Found.is (on_ok_weaker c.text.result
    (λ e. found_tells c.args.origin.now (λ s. s) (singles (chars c.args.text.now)) c.in-Found.eval c.text.new.self (λ href. refl) (text_leads (chars c.args.text.now) c.in-Found.eval c.text.new.self e))
    c.text.ensures.ok)

pub returns-in_ok-text-in-Seeking-clause-tells : goal.returns-in_ok-text-in-Seeking-clause-tells
returns-in_ok-text-in-Seeking-clause-tells c =
    rw c.in-Seeking.is (on_ok_weaker c.push.result
    (λ q. said_tells c.args.origin.now c.in-Seeking.head c.push.new.self c.in_ok-text-in-Seeking.text (chars c.args.text.now) c.in_ok-text-in-Seeking.ensures q c.push.ensures.sought)
    c.push.ensures.queue)

pub returns-in-Found-clause-quiet : goal.returns-in-Found-clause-quiet
returns-in-Found-clause-quiet c idle =
    let was = rw c.in-Found.is at idle in
    text_idle (chars c.args.text.now) c.text.result c.in-Found.eval c.text.new.self (c.text.ensures.quiet was.0 was.1) c.text.ensures.ok was.0 was.1

pub returns-in_ok-text-in-Seeking-clause-quiet : goal.returns-in_ok-text-in-Seeking-clause-quiet
returns-in_ok-text-in-Seeking-clause-quiet c idle = absurd (rw c.in-Seeking.is at idle)
