use Rattle.rx_nest.proofs.Common.{◌<◌, sym, subst, length, arith, Opened}
use Rattle.rx_nest.proofs.LevelLemmas.{length_inner}
use Rattle.rx_nest.proofs.levels.Levels.make_next.Goals as goal

pub returns-then-self-len-clause-next : goal.returns-then-self-len-clause-next
returns-then-self-len-clause-next c =
    let e = length_inner c.self.inside.depth c.self.inside.levels.items in
    rw (sym c.self.view_is) (omega (arith, c.if-self-len.true, c.len.ensures))

pub make_level-requires : goal.make_level-requires
make_level-requires c =
    let e = length_inner c.self.inside.depth c.self.inside.levels.items in
    let room = subst (λ (v : Opened). length v.levels < v.room) (sym c.self.view_is) c.requires in
    rw (sym c.self.view_is) (omega (arith, c.if-self-len.false, c.len.ensures))
