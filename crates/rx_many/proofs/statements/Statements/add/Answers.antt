use Rattle.rx_many.proofs.Common.{◌∙◌, ap, sym, map, statement_seen}
use Rattle.rx_many.proofs.KeyLemmas.{statement_added, statement_new, statement_old}
use Rattle.rx_many.proofs.statements.Statements.add.Goals as goal

pub returns-then-is_new-clause-list : goal.returns-then-is_new-clause-list
returns-then-is_new-clause-list c = ap (map statement_seen) c.in_ok-place.ensures.keys ∙ rw (← c.self.view_is) (statement_added c.self.inside.statements c.args.statement)

pub returns-then-is_new-clause-place : goal.returns-then-is_new-clause-place
returns-then-is_new-clause-place c =
    rw (← c.self.view_is)
    (statement_new c.self.inside.statements c.insert_full.new.self c.args.statement c.in_ok-place.place c.in_ok-place.ensures.stored.0 (sym c.in_ok-place.ensures.added ∙ c.if-is_new.true)
    c.in_ok-place.ensures.stored.1 c.in_ok-place.ensures.stored.2)

pub returns-clause-list : goal.returns-clause-list
returns-clause-list c = ap (map statement_seen) c.in_ok-place.ensures.keys ∙ rw (← c.self.view_is) (statement_added c.self.inside.statements c.args.statement)

pub returns-clause-place : goal.returns-clause-place
returns-clause-place c = rw (← c.self.view_is) (statement_old c.self.inside.statements c.args.statement (sym c.in_ok-place.ensures.added ∙ c.if-is_new.false))
