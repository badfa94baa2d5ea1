use Rattle.rx_many.proofs.Common.{◌∙◌, ◌+◌, ap, known_seen, place_by, blank_numbers}
use Rattle.rx_many.proofs.blanks.place_behind.Goals as goal

pub returns-clause-known : goal.returns-clause-known
returns-clause-known c = ap blank_numbers c.in_ok-place.ensures.keys ∙ known_seen c.args.others.now c.args.blank

pub returns-clause-place : goal.returns-clause-place
returns-clause-place c = c.in-Some.ensures.1 ∙ ap (λ n. c.args.next + n) (place_by c.args.others.now _ c.args.blank c.in_ok-place.place c.in_ok-place.ensures.keys c.in_ok-place.ensures.index)
