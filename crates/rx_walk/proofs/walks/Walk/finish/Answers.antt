use Rattle.rx_walk.proofs.Common.{sym, subst, WalkStands}
use Rattle.rx_walk.proofs.Wholes.{whole_of, ended_of}
use Rattle.rx_walk.proofs.walks.Walk.finish.Goals as goal

pub list_of-requires : goal.list_of-requires
list_of-requires c =
    let w = c.in-Ok.ensures.whole in
    whole_of w.setting c.in-Ok.course w.bytes w.whole

pub returns-in-Ok-clause-gives : goal.returns-in-Ok-clause-gives
returns-in-Ok-clause-gives c setting address bytes s =
    let was = subst (λ v. WalkStands setting address v bytes) (sym c.self.view_is) s in
    ended_of setting address c.in-Ok.course bytes c.list_of.result (c.in-Ok.ensures.gives (setting, address) bytes was) (c.list_of.ensures setting.context address setting.limits.depth)

pub returns-in-Err-clause-gives : goal.returns-in-Err-clause-gives
returns-in-Err-clause-gives c setting address bytes s = c.in-Err.ensures.gives (setting, address) bytes (subst (λ v. WalkStands setting address v bytes) (sym c.self.view_is) s)
