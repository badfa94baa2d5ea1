use Rattle.rx_walk.proofs.Common.{◌∙◌, sym, ap, None, known, seek_finished, sought_seen}
use Rattle.rx_walk.proofs.Staging.{head_may, head_more, head_known, not_ended, has_ended}
use Rattle.rx_walk.specs.declared.calls.Call.TheVariants as code
use Rattle.rx_walk.proofs.stages.PendingBase.finish.Goals as goal

pub returns-then-not-ends : goal.returns-then-not-ends
returns-then-not-ends c =
    head_more c.args.origin.now (seek_finished c.args.count (sought_seen c.args.self.now.sought)) c.args.self.now c.push.new.self code.Leave c.in_ok-push.ensures.queue
    (not_ended c.ends.result (seek_finished c.args.count (sought_seen c.push.new.self.sought)) (known None) (sought_seen c.push.new.self.sought) c.if-not-ends.true c.ends.ensures
    ∙ ap (λ s. seek_finished c.args.count (sought_seen s)) c.in_ok-push.ensures.sought)

pub evaluated-requires : goal.evaluated-requires
evaluated-requires c = head_may c.args.origin.now.levels c.args.self.now c.as_slice.result.now code.Leave (c.as_slice.ensures.value ∙ c.in_ok-push.ensures.queue) c.requires

pub returns : goal.returns
returns c =
    head_known c.args.origin.now (seek_finished c.args.count (sought_seen c.args.self.now.sought)) c.args.self.now c.push.new.self c.as_slice.result.now code.Leave None c.in_ok-eval.eval
    (c.as_slice.ensures.value ∙ c.in_ok-push.ensures.queue)
    (sym (ap (λ s. seek_finished c.args.count (sought_seen s)) c.in_ok-push.ensures.sought)
    ∙ has_ended c.ends.result (seek_finished c.args.count (sought_seen c.push.new.self.sought)) (known None) (sought_seen c.push.new.self.sought) c.if-not-ends.false c.ends.ensures)
    c.in_ok-eval.ensures
