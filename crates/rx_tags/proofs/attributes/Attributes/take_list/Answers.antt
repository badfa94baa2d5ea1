use Rattle.std.proofs.Common.{◌≡◌, ◌∙◌, ◌<◌, ◌++◌, sym, ap, arith, take}
use Rattle.rx_tags.proofs.ListLemmas.{listed, lists_text}
use Rattle.rx_tags.proofs.PairLemmas.{on_ok, on_err}
use Rattle.rx_tags.proofs.Pieces.{fresh}
use Rattle.rx_tags.proofs.attributes.Attributes.take_list.Goals as goal
use Rattle.rx_tags.proofs.attributes.Attributes.take_list.Goals.{Else-is_err}

pub returns-then-end-eq0-clause-none : goal.returns-then-end-eq0-clause-none
returns-then-end-eq0-clause-none c = λ _. rw (c.clear.ensures.items, c.clear-then-end-eq0.ensures.items) (fresh.1 ∙ sym c.requires)

pub returns-then-is_err-clause-none : goal.returns-then-is_err-clause-none
returns-then-is_err-clause-none c =
    λ _. rw (on_err _ c.if-is_err.ensures.value c.push_front.ensures.err ∙ c.clear.ensures.items, c.clear-then-is_err.ensures.items) (fresh.1 ∙ sym c.requires)

copied : (c : Else-is_err) → c.push_front.new.text.items ≡ take c.list_rows-end.result c.args.bytes.now
copied c = on_ok _ c.if-is_err.ensures.value c.push_front.ensures.ok ∙ ap (λ text. text ++ take c.list_rows-end.result c.args.bytes.now) c.clear.ensures.items

some : (c : Else-is_err) → 0 < c.list_rows-end.result
some c = omega (arith, c.if-end-eq0.false)

pub invariant_of-self-2 : goal.invariant_of-self-2
invariant_of-self-2 c =
    let d = (goal.at.invariant_of-self-2 c).Else-is_err in
    let closes = c.list_rows-end.ensures.closes (some d) in
    let marks = c.list_rows-end.ensures.lists (some d) in
    (listed c.push_front.new.text.items c.args.bytes.now c.list_rows-end.result c.list_rows-end.new.rows.items marks.fit (let within = closes.fits in omega (arith, within)) (copied d)).0

pub returns-clause-lists : goal.returns-clause-lists
returns-clause-lists c =
    let d = (goal.at.returns-clause-lists c).Else-is_err in
    λ more. lists_text c.push_front.new.text.items c.args.bytes.now c.list_rows-end.result c.list_rows-end.new.rows.items (c.list_rows-end.ensures.lists more) (copied d)

pub returns-clause-is : goal.returns-clause-is
returns-clause-is c =
    let d = (goal.at.returns-clause-is c).Else-is_err in
    λ more.
    let closes = c.list_rows-end.ensures.closes more in
    let marks = c.list_rows-end.ensures.lists more in
    (listed c.push_front.new.text.items c.args.bytes.now c.list_rows-end.result c.list_rows-end.new.rows.items marks.fit (let within = closes.fits in omega (arith, within)) (copied d)).1
