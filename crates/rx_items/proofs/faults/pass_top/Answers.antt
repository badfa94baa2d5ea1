use Rattle.rx_items.proofs.Common.{◌∙◌, [], ap, sym, is_top_level, is_there}
use Rattle.rx_items.proofs.HoldLemmas.{is_element}
use Rattle.rx_items.proofs.VisitLemmas.{no_element}
use Rattle.rx_items.proofs.PageLemmas.{tops_at, item_of_top, top_plain, top_passed}
use Rattle.rx_items.proofs.faults.pass_top.Goals as goal

pub returns-in_default-clause-finds : goal.returns-in_default-clause-finds
returns-in_default-clause-finds c rows base e holds start row = absurd (no_element rows c.args.place e row (c.in_default.ensures rows base holds))

pub returns-then-not-is_top_at-clause-finds : goal.returns-then-not-is_top_at-clause-finds
returns-then-not-is_top_at-clause-finds c rows base e holds start row =
    (top_plain rows base e c.args.trail.now.visits (sym (c.is_top_at.ensures rows base holds ∙ ap (is_there is_top_level) row) ∙ c.if-not-is_top_at.true), tt)

pub returns-clause-finds : goal.returns-clause-finds
returns-clause-finds c rows base e holds start row =
    let found = is_element c.args.kept.now rows c.args.place c.in-Some.element e row (c.in-Some.ensures rows base holds) in
    let top = sym (c.is_top_at.ensures rows base holds ∙ ap (is_there is_top_level) row) ∙ c.if-not-is_top_at.false in
    top_passed rows base e c.args.trail.now.visits c.pass.new.trail.visits c.pass.result top (c.pass.ensures.finds rows base [] 40 e (tops_at c.args.trail.now.path.items holds start) row found (item_of_top e top))
