use Rattle.rx_nest.specs.Quiets.{QuietAt}
use Rattle.rx_nest.specs.Readings.{ListenerStands}
use Rattle.rx_nest.proofs.Turning.{somewhere_on, none_took}
use Rattle.rx_nest.proofs.readings.take_some.Goals as goal

pub step-requires : goal.step-requires
step-requires g c = somewhere_on g.L.Listener.way g.L.Listener.knows c.args.nest.now c.turns.nest c.args.listener.now c.turns.listener c.turns.invariant.on c.requires

pub turns-init : goal.turns-init
turns-init g c = record { on = λ setting bytes k. k; quiet = λ setting bytes k q. k }

pub turns-preserved : goal.turns-preserved
turns-preserved g c =
    let gives = rw c.in-Ok-Took-eq0.field-0-is at c.in-Ok-Took-eq0.ensures.gives in
    let quiets = rw c.in-Ok-Took-eq0.field-0-is at c.in-Ok-Took-eq0.ensures.quiet in
    record {
      on = λ setting bytes k.
          none_took (ListenerStands (g.L.Listener.way setting) (g.L.Listener.knows setting)) bytes c.args.piece.now c.in-Ok-Took-eq0.field-0-0 c.step.new.nest c.step.new.listener c.in-Ok-Took-eq0.field-0-0-test
          (gives setting bytes (c.turns.invariant.on setting bytes k));
      quiet = λ setting bytes k q.
          none_took (QuietAt (g.L.Listener.way setting) (g.L.Listener.knows setting) g.L.Listener.idle) bytes c.args.piece.now c.in-Ok-Took-eq0.field-0-0 c.step.new.nest c.step.new.listener c.in-Ok-Took-eq0.field-0-0-test
          (quiets setting bytes (c.turns.invariant.quiet setting bytes k q) q);
    }

pub returns-in-Err-clause-gives : goal.returns-in-Err-clause-gives
returns-in-Err-clause-gives g c = λ setting bytes k. c.in-Err.ensures.gives setting bytes (c.turns.invariant.on setting bytes k)
