use Rattle.std.proofs.Common.{◌∙◌, ◌-◌, length, rules, arith, drop, take_all, length-drop}
use Rattle.rx_pieces.specs.Underway.{delivery}
use Rattle.rx_pieces.proofs.Adding.{adds_label}
use Rattle.rx_pieces.proofs.labels.push_label.Goals as goal

pub returns-clause-adds : goal.returns-clause-adds
returns-clause-adds g c =
    let w = c.put_label-start in
    let a = c.add in
    adds_label {b = delivery a.new.self (g.S.Sink.held a.new.sink) (g.S.Sink.faults a.new.sink)} _ c.args.blank.0 (drop 23 c.args.text.now) (search rules) c.requires.ascii a.ensures
    (take_all (length w.new.text - w.result) (drop w.result w.new.text) (omega (arith, length-drop w.result w.new.text)) ∙ w.ensures.written)
