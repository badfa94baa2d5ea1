use Rattle.std.proofs.Common.{◌∙◌, ap, map}
use Rattle.rx_graph.proofs.NumberLemmas.{number_of, known_seen, place_by}
use Rattle.rx_graph.proofs.numbering.Numbers.blank.Goals as goal

pub returns-clause-known : goal.returns-clause-known
returns-clause-known c = ap (map number_of) c.in_ok-place.ensures.keys ∙ rw (← c.self.view_is) (known_seen c.self.inside.blanks c.args.blank)

pub returns-clause-place : goal.returns-clause-place
returns-clause-place c = place_by c.self.inside.blanks _ c.args.blank _ c.in_ok-place.ensures.keys c.in_ok-place.ensures.index
