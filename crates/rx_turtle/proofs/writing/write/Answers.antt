use Rattle.rx_turtle.proofs.Common.{refl, adds_by, end_stands, whole_sent}
use Rattle.rx_turtle.proofs.writing.write.Goals as goal

pub returns-clause-ok : goal.returns-clause-ok
returns-clause-ok g c = whole_sent _ (end_stands c.in-Ok.ensures (adds_by c.in_ok-plan.ensures.text c.push_plan.ensures).bytes c.in_ok-send.ensures.adds)

pub returns-clause-later : goal.returns-clause-later
returns-clause-later g c = (end_stands c.in-Ok.ensures (adds_by c.in_ok-plan.ensures.text c.push_plan.ensures).bytes c.in_ok-send.ensures.adds).later

pub returns-clause-steady : goal.returns-clause-steady
returns-clause-steady g c = (end_stands c.in-Ok.ensures (adds_by c.in_ok-plan.ensures.text c.push_plan.ensures).bytes c.in_ok-send.ensures.adds).steady refl

pub returns-in_err-send-clause-partly : goal.returns-in_err-send-clause-partly
returns-in_err-send-clause-partly g c = λ _. (end_stands c.in-Ok.ensures (adds_by c.in_ok-plan.ensures.text c.push_plan.ensures).bytes c.in_err-send.ensures.adds).told

pub returns-in_err-send-clause-cause : goal.returns-in_err-send-clause-cause
returns-in_err-send-clause-cause g c = λ _. (end_stands c.in-Ok.ensures (adds_by c.in_ok-plan.ensures.text c.push_plan.ensures).bytes c.in_err-send.ensures.adds).cause refl

pub returns-in_err-send-clause-later : goal.returns-in_err-send-clause-later
returns-in_err-send-clause-later g c = (end_stands c.in-Ok.ensures (adds_by c.in_ok-plan.ensures.text c.push_plan.ensures).bytes c.in_err-send.ensures.adds).later
