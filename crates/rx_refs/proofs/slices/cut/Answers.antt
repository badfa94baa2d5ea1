use Rattle.rx_refs.proofs.Common.{sym, ◌∙◌, ap, chars, before, behind}
use Rattle.rx_refs.proofs.PartLemmas.{cut-at, uncut}
use Rattle.rx_refs.proofs.slices.cut.Goals as goal

pub returns-in-Some-clause-front : goal.returns-in-Some-clause-front
returns-in-Some-clause-front c = sym (ap (before c.args.mark) c.in-Some.ensures.0 ∙ (cut-at c.args.mark (chars c.in-Some.front.now) (chars c.in-Some.rest.now) c.in-Some.ensures.1).0)

pub returns-in-Some-clause-rest : goal.returns-in-Some-clause-rest
returns-in-Some-clause-rest c = sym (ap (behind c.args.mark) c.in-Some.ensures.0 ∙ (cut-at c.args.mark (chars c.in-Some.front.now) (chars c.in-Some.rest.now) c.in-Some.ensures.1).2)

pub returns-in-None-clause-front : goal.returns-in-None-clause-front
returns-in-None-clause-front c = sym (uncut c.args.mark (chars c.args.text.now) c.in-None.ensures).0

pub returns-in-None-clause-rest : goal.returns-in-None-clause-rest
returns-in-None-clause-rest c = sym (uncut c.args.mark (chars c.args.text.now) c.in-None.ensures).2
