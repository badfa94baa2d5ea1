use Rattle.std.proofs.Common.{◌∙◌, sym}
use Rattle.rx_items.proofs.ListedLemmas.{listed_rises, listed_same}
use Rattle.rx_items.proofs.gathering.listed.Goals as goal

pub returns-then-are_listed-clause-rise : goal.returns-then-are_listed-clause-rise
returns-then-are_listed-clause-rise c = listed_rises c.args.place c.part-list.result.now (sym c.are_listed.ensures ∙ c.if-are_listed.true)

pub returns-then-are_listed-clause-same : goal.returns-then-are_listed-clause-same
returns-then-are_listed-clause-same c x =
    listed_same c.args.members.now c.args.own c.args.others.now c.args.place c.part-list.result.now _ c.is_empty.ensures c.if-not-is_empty.false c.part-list.ensures
    (sym c.are_listed.ensures ∙ c.if-are_listed.true) x
