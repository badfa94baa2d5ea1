use Rattle.rx_walk.proofs.courses.RdfaListenerListener.hear.Goals as goal

pub returns-in-Begin-clause-hears : goal.returns-in-Begin-clause-hears
returns-in-Begin-clause-hears c made signs r f =
    let front = rw c.in-Begin.is at f in
    rw c.in-Begin.is (c.begin.ensures made.0.context made.1 made.0.limits.depth signs r front)

pub returns-in-Text-clause-hears : goal.returns-in-Text-clause-hears
returns-in-Text-clause-hears c made signs r f =
    let front = rw c.in-Text.is at f in
    rw c.in-Text.is (c.text.ensures.hears made.0.context made.1 made.0.limits.depth signs r front)

pub returns-in-Finish-clause-hears : goal.returns-in-Finish-clause-hears
returns-in-Finish-clause-hears c made signs r f =
    let front = rw c.in-Finish.is at f in
    rw c.in-Finish.is (c.finish.ensures made.0.context made.1 made.0.limits.depth signs r front)
