use Rattle.rx_many.proofs.Common.{◌∙◌, ◌+◌, ◌++◌, sym, ap, refl, arith, numbers_to, blank_numbers}
use Rattle.rx_many.proofs.HereLemmas.{inside_stays, inside_place, next_comes, no_others, behind_comes, behind_place}
use Rattle.rx_many.proofs.blanks.Blanks.place.Goals as goal

pub returns-then-blank-self-clause-known : goal.returns-then-blank-self-clause-known
returns-then-blank-self-clause-known c = rw (← c.self.view_is) (sym (inside_stays c.self.inside.next (blank_numbers c.self.inside.others) c.args.blank.0 c.if-blank-self.true))

pub returns-then-blank-self-clause-place : goal.returns-then-blank-self-clause-place
returns-then-blank-self-clause-place c = rw (← c.self.view_is) (inside_place c.self.inside.next (blank_numbers c.self.inside.others) c.args.blank.0 c.if-blank-self.true)

pub returns-then-is_next-clause-known : goal.returns-then-is_next-clause-known
returns-then-is_next-clause-known c =
    rw (← c.self.view_is)
    (sym (next_comes c.self.inside.next (blank_numbers c.self.inside.others) c.args.blank.0 (c.self.inside.next + 1) (no_others c.self.inside.others (c.is_next.ensures.none c.if-is_next.true)) (c.is_next.ensures.next c.if-is_next.true) refl))

pub returns-then-is_next-clause-place : goal.returns-then-is_next-clause-place
returns-then-is_next-clause-place c =
    inside_place (c.self.inside.next + 1) (blank_numbers c.self.inside.others) c.args.blank.0 (let same = c.is_next.ensures.next c.if-is_next.true in omega (arith, same))

pub returns-clause-known : goal.returns-clause-known
returns-clause-known c =
    rw (← c.self.view_is)
    (ap (λ z. numbers_to c.self.inside.next ++ z) c.in_ok-place_behind.ensures.known
    ∙ sym (behind_comes c.self.inside.next (blank_numbers c.self.inside.others) c.args.blank.0 (omega (arith, c.if-blank-self.false))))

pub returns-clause-place : goal.returns-clause-place
returns-clause-place c =
    c.in_ok-place_behind.ensures.place ∙ sym (behind_place c.self.inside.next (blank_numbers c.place_behind.new.others) c.args.blank.0 (omega (arith, c.if-blank-self.false)))
