-- Where the value of an element's text goes.
use Rattle.std.specs.Prelude.{List, Option, Some, None}
use Rattle.rx_terms.specs.Text.{Chars}
use Rattle.rx_eval.specs.declared.frames.Target.{Target}
use Rattle.rx_eval.specs.declared.frames.Target.TheVariants.{Said, Listed}

-- the predicates of the triples that are to be, none where the value goes to lists
abbrev pub target_seen : Target → Option (List Chars)
target_seen (Said predicates) = Some predicates
target_seen (Listed slots) = None
