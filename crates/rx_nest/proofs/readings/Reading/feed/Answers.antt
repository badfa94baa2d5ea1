use Rattle.rx_nest.proofs.Common.{◌++◌, sym, subst, Read, ReadingStands}
use Rattle.rx_nest.proofs.FaultsOfPieces.{placed_by}
use Rattle.rx_nest.proofs.LatchLemmas.{falls_by, has_fallen, no_want}
use Rattle.rx_nest.proofs.readings.Reading.feed.Goals as goal

pub invariant_of-self : goal.invariant_of-self
invariant_of-self g c unfailed unspent =
    let s = (c.self.invariant unfailed unspent).0 in
    let k = c.in-Ok.ensures.gives s.setting s.bytes s.goes in
    (record { setting = s.setting; bytes = s.bytes ++ c.args.piece.now; goes = k.0 }, k.1)

pub invariant_of-self-in-Err : goal.invariant_of-self-in-Err
invariant_of-self-in-Err g c unfailed unspent = has_fallen c.in-Err.stop c.keep.new.self c.keep.ensures unfailed unspent

pub returns-in-Ok-clause-gives : goal.returns-in-Ok-clause-gives
returns-in-Ok-clause-gives g c setting bytes s =
    let was = subst (λ v. ReadingStands (g.L.Listener.way setting) (g.L.Listener.knows setting) v bytes) (sym c.self.view_is) s in
    let k = c.in-Ok.ensures.gives setting bytes was.goes in
    record { goes = k.0; paid = k.1; unfailed = was.unfailed; unspent = was.unspent }

pub returns-in-Err-clause-gives : goal.returns-in-Err-clause-gives
returns-in-Err-clause-gives g c setting bytes s =
    let was = subst (λ v. ReadingStands (g.L.Listener.way setting) (g.L.Listener.knows setting) v bytes) (sym c.self.view_is) s in
    (c.in-Err.ensures.gives setting bytes was.goes, rw c.keep.ensures (falls_by c.in-Err.stop))

pub returns-in-Err-clause-place : goal.returns-in-Err-clause-place
returns-in-Err-clause-place g c setting bytes s =
    let way = g.L.Listener.way setting in
    let knows = g.L.Listener.knows setting in
    let was = subst (λ v. ReadingStands way knows v bytes) (sym c.self.view_is) s in
    placed_by way knows (g.met.L.Listener.refuses setting) bytes c.args.piece.now c.self.inside.nest c.self.inside.listener c.in-Err.stop was.goes
    (g.met.L.Listener.accepts setting c.self.inside.listener was.goes.signs was.goes.known) was.paid (c.in-Err.ensures.gives setting bytes was.goes)

pub returns-in-Err-clause-quiet : goal.returns-in-Err-clause-quiet
returns-in-Err-clause-quiet g c setting bytes s between q idle =
    let was = subst (λ v. ReadingStands (g.L.Listener.way setting) (g.L.Listener.knows setting) v bytes) (sym c.self.view_is) s in
    let here = subst (λ (v : Read _). g.L.Listener.idle v.listener) (sym c.self.view_is) idle in
    no_want c.in-Err.stop (c.in-Err.ensures.quiet setting bytes (record { goes = was.goes; between = between; paid = was.paid; idles = here }) q)
