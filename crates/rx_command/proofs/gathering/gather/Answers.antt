use Rattle.rx_command.proofs.Common.{◌≡◌, ap, Err, moves_weaker, several_seen, TakesGathering}
use Rattle.rx_command.specs.declared.errors.InputError.TheVariants.{Failed}
use Rattle.rx_command.proofs.GatheringLemmas.{context_taken, gathering_takes, gathers_pages, context_failed, gathering_failed}
use Rattle.rx_command.proofs.gathering.gather.Goals as goal

pub returns-in-Err-clause-takes : goal.returns-in-Err-clause-takes
returns-in-Err-clause-takes g c = moves_weaker (TakesGathering (several_seen c.args.several)) (λ x y t. context_taken (several_seen c.args.several) x y t) c.read_context.ensures.takes

pub returns-in-Err-clause-failed : goal.returns-in-Err-clause-failed
returns-in-Err-clause-failed g c is =
    let e : c.in-Err.error ≡ Failed = (cc) in
    context_failed (several_seen c.args.several) _ _ _ (c.in-Err.ensures.failed (ap Err e))

pub returns-in_default-clause-takes : goal.returns-in_default-clause-takes
returns-in_default-clause-takes g c = moves_weaker (TakesGathering (several_seen c.args.several)) (λ x y t. context_taken (several_seen c.args.several) x y t) c.read_context.ensures.takes

pub returns-in-Ok-gather_pages-clause-ok : goal.returns-in-Ok-gather_pages-clause-ok
returns-in-Ok-gather_pages-clause-ok g c =
    gathers_pages (several_seen c.args.several) c.in-Ok.context _ _ _ _ _ c.in-Ok-new.ensures c.in-Ok.ensures.ok c.in-Ok-gather_pages.ensures.ok

pub returns-in-Ok-gather_pages-clause-takes : goal.returns-in-Ok-gather_pages-clause-takes
returns-in-Ok-gather_pages-clause-takes g c = gathering_takes (several_seen c.args.several) c.in-Ok.context _ _ _ c.in-Ok.ensures.ok c.gather_pages.ensures.takes

pub returns-in-Err-gather_pages-clause-takes : goal.returns-in-Err-gather_pages-clause-takes
returns-in-Err-gather_pages-clause-takes g c = gathering_takes (several_seen c.args.several) c.in-Ok.context _ _ _ c.in-Ok.ensures.ok c.gather_pages.ensures.takes

pub returns-in-Err-gather_pages-clause-failed : goal.returns-in-Err-gather_pages-clause-failed
returns-in-Err-gather_pages-clause-failed g c is =
    let e : c.in-Err-gather_pages.error ≡ Failed = (cc) in
    gathering_failed (several_seen c.args.several) c.in-Ok.context _ _ _ _ _ c.in-Ok.ensures.ok c.read_context.ensures.later (c.in-Err-gather_pages.ensures.failed (ap Err e))
