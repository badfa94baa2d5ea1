use Rattle.rx_command.proofs.Common.{◌≡◌, [], ◌∷◌, ◌++◌, refused_page, moves_same, Listed, TakesPart, approach_way}
use Rattle.rx_command.proofs.GatheringLemmas.{takes_nothing, page_takes, adds_accepted, adds_refused}
use Rattle.rx_command.proofs.InputLemmas.{fails_refused, fails_no_context}
use Rattle.rx_command.proofs.gathering.gather_page.Goals as goal

pub returns-in_err-approach-clause-takes : goal.returns-in_err-approach-clause-takes
returns-in_err-approach-clause-takes g c =
    let one : Listed = record { address = c.args.address.now; page = c.args.page.now } in
    moves_same (TakesPart c.args.context.now c.args.syntax one) (λ x. takes_nothing c.args.context.now c.args.syntax one x) (g.F.Shelf.told c.args.shelf.now)

pub unreachable-requires : goal.unreachable-requires
unreachable-requires g c = fails_no_context (approach_way c.in_ok-approach.approach) _ c.in-Err-BadContext.field-0 _ _ c.in-Err-BadContext.ensures.gives c.in-Err-BadContext.field-0-is

pub returns-in_ok-accept-in-Ok-clause-takes : goal.returns-in_ok-accept-in-Ok-clause-takes
returns-in_ok-accept-in-Ok-clause-takes g c = page_takes c.in_ok-approach.approach c.args.syntax c.args.context.now c.args.address.now c.args.page.now c.as_str.result.now c.in_ok-approach.ensures.syntax c.in_ok-approach.ensures.context c.in_ok-approach.ensures.address c.as_str.ensures.bytes _ _ c.read_page_by.ensures.takes c.read_page_by.ensures.to_first

pub returns-in_err-accept-in-Ok-clause-takes : goal.returns-in_err-accept-in-Ok-clause-takes
returns-in_err-accept-in-Ok-clause-takes g c = page_takes c.in_ok-approach.approach c.args.syntax c.args.context.now c.args.address.now c.args.page.now c.as_str.result.now c.in_ok-approach.ensures.syntax c.in_ok-approach.ensures.context c.in_ok-approach.ensures.address c.as_str.ensures.bytes _ _ c.read_page_by.ensures.takes c.read_page_by.ensures.to_first

pub returns-in_ok-refuse-in-Err-Refused-clause-takes : goal.returns-in_ok-refuse-in-Err-Refused-clause-takes
returns-in_ok-refuse-in-Err-Refused-clause-takes g c = page_takes c.in_ok-approach.approach c.args.syntax c.args.context.now c.args.address.now c.args.page.now c.as_str.result.now c.in_ok-approach.ensures.syntax c.in_ok-approach.ensures.context c.in_ok-approach.ensures.address c.as_str.ensures.bytes _ _ c.read_page_by.ensures.takes c.read_page_by.ensures.to_first

pub returns-in_err-refuse-in-Err-Refused-clause-takes : goal.returns-in_err-refuse-in-Err-Refused-clause-takes
returns-in_err-refuse-in-Err-Refused-clause-takes g c = page_takes c.in_ok-approach.approach c.args.syntax c.args.context.now c.args.address.now c.args.page.now c.as_str.result.now c.in_ok-approach.ensures.syntax c.in_ok-approach.ensures.context c.in_ok-approach.ensures.address c.as_str.ensures.bytes _ _ c.read_page_by.ensures.takes c.read_page_by.ensures.to_first

pub returns-in-Err-Failed-clause-takes : goal.returns-in-Err-Failed-clause-takes
returns-in-Err-Failed-clause-takes g c = page_takes c.in_ok-approach.approach c.args.syntax c.args.context.now c.args.address.now c.args.page.now c.as_str.result.now c.in_ok-approach.ensures.syntax c.in_ok-approach.ensures.context c.in_ok-approach.ensures.address c.as_str.ensures.bytes _ _ c.read_page_by.ensures.takes c.read_page_by.ensures.to_first

pub returns-in-Err-NoMemory-clause-takes : goal.returns-in-Err-NoMemory-clause-takes
returns-in-Err-NoMemory-clause-takes g c = page_takes c.in_ok-approach.approach c.args.syntax c.args.context.now c.args.address.now c.args.page.now c.as_str.result.now c.in_ok-approach.ensures.syntax c.in_ok-approach.ensures.context c.in_ok-approach.ensures.address c.as_str.ensures.bytes _ _ c.read_page_by.ensures.takes c.read_page_by.ensures.to_first

pub returns-in_ok-accept-in-Ok-clause-ok : goal.returns-in_ok-accept-in-Ok-clause-ok
returns-in_ok-accept-in-Ok-clause-ok g c = adds_accepted c.in_ok-approach.approach c.args.syntax c.args.context.now c.args.address.now c.args.page.now c.as_str.result.now c.in_ok-approach.ensures.syntax c.in_ok-approach.ensures.context c.in_ok-approach.ensures.address c.as_str.ensures.bytes _ _ _ _ c.in-Ok.list c.read_page_by.ensures.takes c.read_page_by.ensures.to_first c.in-Ok.ensures.gives c.in_ok-accept-in-Ok.ensures

pub returns-in_ok-refuse-in-Err-Refused-clause-ok : goal.returns-in_ok-refuse-in-Err-Refused-clause-ok
returns-in_ok-refuse-in-Err-Refused-clause-ok g c =
    let found = fails_refused (approach_way c.in_ok-approach.approach) c.as_str.result.now c.as_str.result.now c.in-Err-Refused.field-0 c.in-Err-Refused.fault _ _ (λ i. c.as_str.result.now) c.in-Err-Refused.ensures.gives c.in-Err-Refused.field-0-is in
    let adds : c.refuse.new.self ≡ c.args.many.now ++ refused_page c.args.address.now c.in-Err-Refused.fault ∷ [] = rw c.in-Err-Refused.field-0-is at c.in_ok-refuse-in-Err-Refused.ensures.ok in
    adds_refused c.in_ok-approach.approach c.args.syntax c.args.context.now c.args.address.now c.args.page.now c.as_str.result.now c.in_ok-approach.ensures.syntax c.in_ok-approach.ensures.context c.in_ok-approach.ensures.address c.as_str.ensures.bytes _ _ c.args.many.now c.refuse.new.self c.in-Err-Refused.fault c.read_page_by.ensures.takes c.read_page_by.ensures.to_first found adds
