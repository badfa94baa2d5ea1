use Rattle.rx_nest.proofs.Common.{◌≡◌, true, sym, subst, take_rest, is_quiet}
use Rattle.rx_nest.proofs.Turning.{Taken, taken_start, taken_more, taken_whole, taken_stop, somewhere_taken}
use Rattle.rx_nest.specs.Quiets.{QuietAt}
use Rattle.rx_nest.specs.Readings.{ListenerStands}
use Rattle.rx_nest.proofs.QuietReading.{quiet_drop}
use Rattle.rx_nest.proofs.readings.take_all.Goals as goal

pub turns-init : goal.turns-init
turns-init g c =
    record {
      taken = λ setting bytes k. taken_start (ListenerStands (g.L.Listener.way setting) (g.L.Listener.knows setting)) bytes c.args.piece.now c.args.nest.now c.args.listener.now k;
      quiet = λ setting bytes k q. (taken_start (QuietAt (g.L.Listener.way setting) (g.L.Listener.knows setting) g.L.Listener.idle) bytes c.args.piece.now c.args.nest.now c.args.listener.now k, q);
    }

pub take_some-requires : goal.take_some-requires
take_some-requires g c =
    somewhere_taken g.L.Listener.way g.L.Listener.knows c.args.nest.now c.turns.nest c.args.listener.now c.turns.listener c.args.piece.now c.turns.rest.now c.turns.invariant.taken c.requires

pub turns-preserved : goal.turns-preserved
turns-preserved g c =
    let gives = rw c.in-Ok-Took.field-0-is at c.in-Ok-Took.ensures.gives in
    let quiets = rw c.in-Ok-Took.field-0-is at c.in-Ok-Took.ensures.quiet in
    record {
      taken = λ setting bytes k.
          let Is = ListenerStands (g.L.Listener.way setting) (g.L.Listener.knows setting) in
          let t = c.turns.invariant.taken setting bytes k in
          subst (λ x. Taken Is bytes c.args.piece.now x c.take_some.new.nest c.take_some.new.listener) (sym (take_rest c.turns.rest.now c.in-Ok-Took.taken))
          (taken_more Is bytes c.args.piece.now c.turns.rest.now c.in-Ok-Took.taken c.turns.nest c.take_some.new.nest c.turns.listener c.take_some.new.listener t (gives setting _ t.goes));
      quiet = λ setting bytes k q.
          let Is = QuietAt (g.L.Listener.way setting) (g.L.Listener.knows setting) g.L.Listener.idle in
          let t = c.turns.invariant.quiet setting bytes k q in
          subst (λ x. Taken Is bytes c.args.piece.now x c.take_some.new.nest c.take_some.new.listener × (is_quiet x ≡ true)) (sym (take_rest c.turns.rest.now c.in-Ok-Took.taken)) (
            taken_more Is bytes c.args.piece.now c.turns.rest.now c.in-Ok-Took.taken c.turns.nest c.take_some.new.nest c.turns.listener c.take_some.new.listener t.0 (quiets setting _ t.0.goes t.1),
            quiet_drop c.in-Ok-Took.taken c.turns.rest.now t.1,
          );
    }

pub returns-in-Ok-Done-clause-gives : goal.returns-in-Ok-Done-clause-gives
returns-in-Ok-Done-clause-gives g c setting bytes k =
    let t = c.turns.invariant.taken setting bytes k in
    let gives = rw c.in-Ok-Done.field-0-is at c.in-Ok-Done.ensures.gives in
    taken_whole (g.L.Listener.way setting) (g.L.Listener.knows setting) bytes c.args.piece.now c.turns.rest.now c.turns.nest c.take_some.new.nest c.turns.listener c.take_some.new.listener t (gives setting _ t.goes)

pub returns-in-Err-clause-gives : goal.returns-in-Err-clause-gives
returns-in-Err-clause-gives g c setting bytes k =
    let t = c.turns.invariant.taken setting bytes k in
    taken_stop (g.L.Listener.way setting) (g.L.Listener.knows setting) bytes c.args.piece.now c.turns.rest.now c.turns.nest c.take_some.new.nest c.turns.listener c.take_some.new.listener c.in-Err.stop t
    (c.in-Err.ensures.gives setting _ t.goes)

pub returns-in-Err-clause-quiet : goal.returns-in-Err-clause-quiet
returns-in-Err-clause-quiet g c setting bytes k q =
    let t = c.turns.invariant.quiet setting bytes k q in
    c.in-Err.ensures.quiet setting _ t.0.goes t.1
