use Rattle.rx_nest.proofs.Common.{◌<◌, ◌∙◌, refl, sym, ap, subst, length, arith, length-set, Opened}
use Rattle.rx_nest.proofs.LevelLemmas.{is_left, pushed}
use Rattle.rx_nest.proofs.levels.Levels.push.Goals as goal

pub there : (c : goal.After-index_mut-arg-1) → c.self.inside.depth < length c.self.inside.levels.items
there c =
    is_left c.self.inside.depth c.self.inside.levels.items (subst (λ (v : Opened). length v.levels < length v.memory) (sym c.self.view_is) c.in_ok-make_next.ensures.next)

pub index_mut-requires : goal.index_mut-requires
index_mut-requires c = rw c.self.inside.levels.ok.0 (there c)

pub invariant_of-self-2 : goal.invariant_of-self-2
invariant_of-self-2 c =
    let h = is_left c.self.inside.depth c.self.inside.levels.items (subst (λ (v : Opened). length v.levels < length v.memory) (sym c.self.view_is) c.in_ok-make_next.ensures.next) in
    let e = length-set c.self.inside.levels.items c.self.inside.depth c.set.new.self in
    let kept = c.self.invariant.1 in
    (omega arith, omega arith)

pub returns-clause-levels : goal.returns-clause-levels
returns-clause-levels c =
    let h = is_left c.self.inside.depth c.self.inside.levels.items (subst (λ (v : Opened). length v.levels < length v.memory) (sym c.self.view_is) c.in_ok-make_next.ensures.next) in
    pushed c.self.inside.depth c.self.inside.levels.items c.set.new.self h
    ∙ rw (c.in_ok-set.ensures, ap (λ (v : Opened). v.levels) c.self.view_is, c.in_ok-make_next.ensures.levels) refl
