use Rattle.rx_walk.proofs.Common.{◌∙◌, [], sym, ap, subst, calls_of, sought, Walked, WalkStands, found_state}
use Rattle.rx_walk.proofs.TextKeeping.{idle_at}
use Rattle.rx_walk.proofs.walks.Walk.feed.Goals as goal

pub returns-clause-gives : goal.returns-clause-gives
returns-clause-gives c setting address bytes s = c.feed.ensures.gives (setting, address) bytes (subst (λ v. WalkStands setting address v bytes) (sym c.self.view_is) s)

pub returns-clause-place : goal.returns-clause-place
returns-clause-place c setting address bytes s = c.feed.ensures.place (setting, address) bytes (subst (λ v. WalkStands setting address v bytes) (sym c.self.view_is) s)

pub returns-clause-quiet : goal.returns-clause-quiet
returns-clause-quiet c setting address bytes s between q state is none =
    let was = subst (λ v. WalkStands setting address v bytes) (sym c.self.view_is) s in
    let here = ap (λ (w : Walked). found_state w.listener.stage) c.self.view_is ∙ is in
    let idle = idle_at address setting.limits.depth (sought was.goes.signs) (calls_of setting.context [] was.goes.signs) c.self.inside.reading.listener.stage state was.goes.known.staged here none in
    c.feed.ensures.quiet (setting, address) bytes was between q idle
