use Rattle.rx_command.proofs.Common.{◌≡◌, ◌≤◌, ap, arith, length, Err, ◌∙◌, refl, Listed}
use Rattle.rx_command.specs.declared.errors.InputError.TheVariants.{Failed}
use Rattle.rx_command.proofs.GatheringLemmas.{none_added, next_added, all_added, all_taken, some_taken, listed_failed}
use Rattle.rx_command.proofs.gathering.gather_by.Goals as goal

pub loop-i-init : goal.loop-i-init
loop-i-init g c = record { piece = c.requires; adds = none_added c.args.context.now c.args.syntax c.args.many.now (g.F.Shelf.told c.args.shelf.now); later = omega arith; same = refl }

pub loop-i-preserved : goal.loop-i-preserved
loop-i-preserved g c =
    let one : Listed = record { address = c.at.result.0.now; page = c.at.result.1.now } in
    record {
      piece = c.in-Ok.ensures.room;
      adds = next_added c.args.context.now c.args.syntax c.args.pages.now c.loop-i.i one _ _ _ _ _ _ c.at.ensures c.loop-i.invariant.adds c.in-Ok.ensures.ok;
      later = omega (arith, c.loop-i.invariant.later, c.in-Ok.ensures.later);
      same = c.in-Ok.ensures.steady ∙ c.loop-i.invariant.same;
    }

pub returns-clause-ok : goal.returns-clause-ok
returns-clause-ok g c =
    let all : length c.args.pages.now ≤ c.loop-i.i = omega (arith, c.loop-i-test.false, c.loop-i.auto.i-end, c.len-i-end.ensures) in
    all_added c.args.context.now c.args.syntax c.args.pages.now c.loop-i.i _ _ _ _ all c.loop-i.invariant.adds

pub returns-clause-takes : goal.returns-clause-takes
returns-clause-takes g c =
    let all : length c.args.pages.now ≤ c.loop-i.i = omega (arith, c.loop-i-test.false, c.loop-i.auto.i-end, c.len-i-end.ensures) in
    all_taken c.args.context.now c.args.syntax c.args.pages.now c.loop-i.i _ _ _ _ all c.loop-i.invariant.adds

pub returns-in-Err-clause-takes : goal.returns-in-Err-clause-takes
returns-in-Err-clause-takes g c =
    let one : Listed = record { address = c.at.result.0.now; page = c.at.result.1.now } in
    some_taken c.args.context.now c.args.syntax c.args.pages.now c.loop-i.i one _ _ _ _ _ c.at.ensures c.loop-i.invariant.adds c.in-Err.ensures.takes

pub returns-in-Err-clause-failed : goal.returns-in-Err-clause-failed
returns-in-Err-clause-failed g c is =
    let one : Listed = record { address = c.at.result.0.now; page = c.at.result.1.now } in
    let e : c.in-Err.error ≡ Failed = (cc) in
    listed_failed c.args.context.now c.args.syntax c.args.pages.now c.loop-i.i one _ _ _ _ _ _ _ c.at.ensures c.loop-i.invariant.adds c.loop-i.invariant.later (c.in-Err.ensures.failed (ap Err e))
