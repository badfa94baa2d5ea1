use Rattle.rx_walk.proofs.Common.{◌-◌, [], refl, ap, arith, KeptNames, finished, line_of}
use Rattle.rx_walk.proofs.Fronting.{front_left}
use Rattle.rx_walk.proofs.Coursing.{accepts_of, absolute_around, takes_one, runs_more, popped_around, around_length, marks_of}
use Rattle.rx_walk.proofs.Accepted.{accepts_more}
use Rattle.rx_walk.proofs.courses.RdfaListener.finish.Goals as goal

pub finish-requires : goal.finish-requires
finish-requires c = takes_one c.args.self.now c.requires.setting.0.context c.requires.setting.1 c.requires.setting.0.limits.depth c.requires.signs finished c.requires.known c.requires.front

pub pop-requires : goal.pop-requires
pop-requires c =
    let some = front_left c.requires.setting.0.limits.depth c.requires.signs c.requires.front in
    let marks = marks_of c.args.self.now.names (line_of [] c.requires.signs) c.requires.known.names_are in
    omega (arith, some, marks)

pub overflow_sub-self : goal.overflow_sub-self
overflow_sub-self c =
    let some = front_left c.requires.setting.0.limits.depth c.requires.signs c.requires.front in
    omega (arith, some, c.requires.known.count_is)

pub returns : goal.returns
returns c context address levels signs r f =
    let some = front_left levels signs f in
    let size = around_length (line_of [] signs) some in
    runs_more context address levels c.args.self.now (record { origin = c.args.self.now.origin; names = c.pop.new.self; maker = c.args.self.now.maker; facts = c.args.self.now.facts; count = c.args.self.now.count - 1; stage = c.finish.new.self }) signs r finished f
    (accepts_more context c.args.self.now.names signs (accepts_of r) c.pop.new.self finished (popped_around c.args.self.now.names c.pop.new.self c.pop.ensures.line (line_of [] signs) some r.names_are)
    (ap (λ (k : KeptNames). k.context) c.pop.ensures.popped) (absolute_around (line_of [] signs) r.absolute) refl)
    refl (omega (arith, size, r.count_is)) c.in_ok-finish.ensures
