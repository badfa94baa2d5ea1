use Rattle.std.proofs.lemmas.Option.{slice_get_within}
use Rattle.rx_turtle.proofs.PlaceLemmas.{front_fits, is_short}
use Rattle.rx_turtle.proofs.shorts.Shorts.short.Goals as goal

pub at-requires : goal.at-requires
at-requires c = slice_get_within c.args.self.now c.in-Some.place _ c.in-Some.ensures.is.1

pub rest_of-requires : goal.rest_of-requires
rest_of-requires c = front_fits c.args.self.now c.args.iri.now c.in-Some.place _ _ c.at.ensures.row c.in-Some.ensures.is

pub returns : goal.returns
returns c = is_short c.args.self.now c.args.iri.now c.in-Some.place _ _ c.at.ensures.row c.in-Some.ensures.is _ c.rest_of.ensures
