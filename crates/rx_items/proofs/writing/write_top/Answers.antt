use Rattle.rx_items.proofs.Common.{◌∙◌, ap, sym, on_ok_weaker, is_top_level, is_there}
use Rattle.rx_items.proofs.HoldLemmas.{is_element}
use Rattle.rx_items.proofs.VisitLemmas.{no_element}
use Rattle.rx_items.proofs.PageLemmas.{item_of_top}
use Rattle.rx_items.proofs.WritingLemmas.{top_nothing, top_told}
use Rattle.rx_items.proofs.writing.write_top.Goals as goal

pub returns-in_default : goal.returns-in_default
returns-in_default g c rows base e holds row = absurd (no_element rows c.args.place e row (c.in_default.ensures rows base holds))

pub returns-then-not-is_top_at : goal.returns-then-not-is_top_at
returns-then-not-is_top_at g c rows base e holds row =
    top_nothing rows base e (g.S.Serializer.written c.args.out.now) (sym (c.is_top_at.ensures rows base holds ∙ ap (is_there is_top_level) row) ∙ c.if-not-is_top_at.true)

pub returns : goal.returns
returns g c rows base e holds row =
    let found = is_element c.args.kept.now rows c.args.place c.in-Some.element e row (c.in-Some.ensures rows base holds) in
    let top = sym (c.is_top_at.ensures rows base holds ∙ ap (is_there is_top_level) row) ∙ c.if-not-is_top_at.false in
    on_ok_weaker c.write_item.result (λ wrote. top_told rows base e top wrote) (c.write_item.ensures rows base e holds row found (item_of_top e top))
