use Rattle.rx_nest.proofs.Common.{sym, subst, ReadingStands}
use Rattle.rx_nest.proofs.LatchLemmas.{goes_on}
use Rattle.rx_nest.proofs.Turning.{ends_whole, end_stops}
use Rattle.rx_nest.proofs.readings.Reading.finish.Goals as goal

pub returns-in-Ok-clause-gives : goal.returns-in-Ok-clause-gives
returns-in-Ok-clause-gives g c setting bytes s =
    let way = g.L.Listener.way setting in
    let knows = g.L.Listener.knows setting in
    let was = subst (λ v. ReadingStands way knows v bytes) (sym c.self.view_is) s in
    ends_whole way knows c.self.inside.nest c.self.inside.listener bytes was.goes (g.met.L.Listener.accepts setting c.self.inside.listener was.goes.signs was.goes.known) was.paid
    (c.in-Ok.ensures.ends way.syntax way.limits bytes was.goes.signs was.goes.shown)

pub returns-in-Ok-clause-whole : goal.returns-in-Ok-clause-whole
returns-in-Ok-clause-whole g c =
    let on = goes_on c.self.inside.latch c.repeat.result c.repeat.ensures c.in_default.not-Err in
    let kept = c.self.invariant on.0 on.1 in
    let s = kept.0 in
    let way = g.L.Listener.way s.setting in
    record {
      setting = s.setting;
      bytes = s.bytes;
      whole =
          ends_whole way (g.L.Listener.knows s.setting) c.self.inside.nest c.self.inside.listener s.bytes s.goes (g.met.L.Listener.accepts s.setting c.self.inside.listener s.goes.signs s.goes.known) kept.1
          (c.in-Ok.ensures.ends way.syntax way.limits s.bytes s.goes.signs s.goes.shown);
    }

pub returns-in-Err-end-clause-gives : goal.returns-in-Err-end-clause-gives
returns-in-Err-end-clause-gives g c setting bytes s =
    let way = g.L.Listener.way setting in
    let was = subst (λ v. ReadingStands way (g.L.Listener.knows setting) v bytes) (sym c.self.view_is) s in
    end_stops way bytes was.goes.signs c.self.inside.nest c.end.new.self c.in-Err-end.stop (c.in-Err-end.ensures.ends way.syntax way.limits bytes was.goes.signs was.goes.shown)
