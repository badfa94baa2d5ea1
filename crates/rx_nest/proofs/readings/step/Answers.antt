use Rattle.rx_nest.proofs.Common.{ℕ, ◌∙◌, ◌++◌, sym, take, event_signs}
use Rattle.rx_nest.specs.declared.nests.Event.{Event}
use Rattle.rx_nest.proofs.Fronts.{shows_one}
use Rattle.rx_nest.proofs.Turning.{took, done, heard_stop, step_stop}
use Rattle.rx_nest.proofs.QuietReading.{no_want, steps_quietly}
use Rattle.rx_nest.proofs.readings.step.Goals as goal

pub returns-in-Err-clause-gives : goal.returns-in-Err-clause-gives
returns-in-Err-clause-gives g c setting bytes h =
    let way = g.L.Listener.way setting in
    let s = rw c.in-Err.is at c.step.follows.holds-at-none in
    step_stop way (g.L.Listener.knows setting) (g.met.L.Listener.refuses setting) bytes c.args.piece.now c.args.nest.now c.step.follows.lender-at-none c.args.listener.now h
    (g.met.L.Listener.accepts setting c.args.listener.now h.signs h.known) c.in-Err.stop (s.1 way.syntax way.limits bytes h.signs h.shown)

pub hear-requires : goal.hear-requires
hear-requires g c =
    let q = c.requires in
    let way = g.L.Listener.way q.setting in
    let h = rw c.in-Ok.is at c.step.follows.holds-at-none in
    let s = h.1 way.syntax way.limits q.bytes q.goes.signs q.goes.shown in
    record {
      setting = q.setting;
      signs = q.goes.signs;
      known = q.goes.known;
      front = shows_one way.syntax way.limits c.step.follows.lender-at-none (q.bytes ++ take c.in-Ok.step.0 c.args.piece.now) (q.goes.signs ++ event_signs c.in-Ok.step.1) s.stands;
    }

pub returns-in-Ok-hear-clause-gives : goal.returns-in-Ok-hear-clause-gives
returns-in-Ok-hear-clause-gives g c setting bytes k =
    let way = g.L.Listener.way setting in
    let h = rw c.in-Ok.is at c.step.follows.holds-at-none in
    let s = h.1 way.syntax way.limits bytes k.signs k.shown in
    let front = shows_one way.syntax way.limits c.step.follows.lender-at-none (bytes ++ take c.in-Ok.step.0 c.args.piece.now) (k.signs ++ event_signs c.in-Ok.step.1) s.stands in
    let more = sym c.is_more-is_done.ensures ∙ c.if-is_done.true in
    done way (g.L.Listener.knows setting) (g.met.L.Listener.refuses setting) bytes c.args.piece.now k.signs c.in-Ok.step.0 c.in-Ok.step.1 c.step.follows.lender-at-none s c.hear.new.self
    (c.in-Ok-hear.ensures.hears setting k.signs k.known front) more (h.0.4.due more).1

pub returns-in-Ok-2-clause-gives : goal.returns-in-Ok-2-clause-gives
returns-in-Ok-2-clause-gives g c setting bytes k =
    let way = g.L.Listener.way setting in
    let h = rw c.in-Ok.is at c.step.follows.holds-at-none in
    let s = h.1 way.syntax way.limits bytes k.signs k.shown in
    let front = shows_one way.syntax way.limits c.step.follows.lender-at-none (bytes ++ take c.in-Ok.step.0 c.args.piece.now) (k.signs ++ event_signs c.in-Ok.step.1) s.stands in
    took way (g.L.Listener.knows setting) (g.met.L.Listener.refuses setting) bytes c.args.piece.now k.signs c.in-Ok.step.0 c.in-Ok.step.1 c.step.follows.lender-at-none s c.hear.new.self
    (c.in-Ok-2.ensures.hears setting k.signs k.known front)

pub returns-in-Err-hear-clause-gives : goal.returns-in-Err-hear-clause-gives
returns-in-Err-hear-clause-gives g c setting bytes k =
    let way = g.L.Listener.way setting in
    let h = rw c.in-Ok.is at c.step.follows.holds-at-none in
    let s = h.1 way.syntax way.limits bytes k.signs k.shown in
    let front = shows_one way.syntax way.limits c.step.follows.lender-at-none (bytes ++ take c.in-Ok.step.0 c.args.piece.now) (k.signs ++ event_signs c.in-Ok.step.1) s.stands in
    heard_stop way (g.L.Listener.knows setting) (g.met.L.Listener.refuses setting) bytes c.args.piece.now k.signs c.in-Ok.step.0 c.in-Ok.step.1 c.step.follows.lender-at-none s c.in-Err-hear.stop c.hear.new.self
    (c.in-Err-hear.ensures.hears setting k.signs k.known front)

pub returns-in-Err-clause-quiet : goal.returns-in-Err-clause-quiet
returns-in-Err-clause-quiet g c setting bytes k q =
    let way = g.L.Listener.way setting in
    no_want (ℕ × Event) c.in-Err.stop (c.in-Err.ensures.quiet way.syntax way.limits bytes k.goes.signs k.goes.shown k.between q)

pub returns-in-Ok-2-clause-quiet : goal.returns-in-Ok-2-clause-quiet
returns-in-Ok-2-clause-quiet g c setting bytes k q =
    let way = g.L.Listener.way setting in
    let h = rw c.in-Ok.is at c.step.follows.holds-at-none in
    let s = h.1 way.syntax way.limits bytes k.goes.signs k.goes.shown in
    let r = steps_quietly way.syntax way.limits bytes c.args.piece.now k.goes.signs c.args.nest.now c.step.follows.lender-at-none c.in-Ok.step.0 c.in-Ok.step.1 k.goes.shown k.paid k.between q s in
    record { goes = returns-in-Ok-2-clause-gives g c setting bytes k.goes; between = r.between; paid = r.paid; idles = (c.in-Ok-2.ensures.quiet r.calm k.idles).1 }

pub returns-in-Err-hear-clause-quiet : goal.returns-in-Err-hear-clause-quiet
returns-in-Err-hear-clause-quiet g c setting bytes k q =
    let way = g.L.Listener.way setting in
    let h = rw c.in-Ok.is at c.step.follows.holds-at-none in
    let s = h.1 way.syntax way.limits bytes k.goes.signs k.goes.shown in
    let r = steps_quietly way.syntax way.limits bytes c.args.piece.now k.goes.signs c.args.nest.now c.step.follows.lender-at-none c.in-Ok.step.0 c.in-Ok.step.1 k.goes.shown k.paid k.between q s in
    let none = (c.in-Err-hear.ensures.quiet r.calm k.idles).0 in
    absurd (cc)
