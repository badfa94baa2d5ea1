use Rattle.rx_walk.proofs.Common.{[], refl, ap, arith, KeptNames, finished, line_of}
use Rattle.rx_walk.proofs.Fronting.{front_left}
use Rattle.rx_walk.proofs.Coursing.{popped_around, marks_of, absolute_around}
use Rattle.rx_walk.proofs.Accepted.{accepts_more}
use Rattle.rx_walk.proofs.scopes.CheckingListener.finish.Goals as goal

pub pop-requires : goal.pop-requires
pop-requires c =
    let some = front_left c.requires.setting.limits.depth c.requires.signs c.requires.front in
    let marks = marks_of c.args.self.now.names (line_of [] c.requires.signs) c.requires.known.names_are in
    omega (arith, some, marks)

pub returns : goal.returns
returns c setting signs r f =
    let line = line_of [] signs in
    accepts_more setting.context c.args.self.now.names signs r c.pop.new.self finished (popped_around c.args.self.now.names c.pop.new.self c.pop.ensures.line line (front_left setting.limits.depth signs f) r.names_are)
    (ap (λ (k : KeptNames). k.context) c.pop.ensures.popped) (absolute_around line r.absolute) refl
