use Rattle.rx_turtle.proofs.Common.{◌∙◌, ap, sym, subst, length, names_rise, prefix_of, IsPlace}
use Rattle.rx_turtle.proofs.Finding.{place_is}
use Rattle.rx_turtle.proofs.PlaceLemmas.{rises, no_place}
use Rattle.rx_turtle.proofs.shorts.Shorts.place.Goals as goal

pub returns-then-prefix_count-eq0-clause-place : goal.returns-then-prefix_count-eq0-clause-place
returns-then-prefix_count-eq0-clause-place c = no_place c.args.self.now c.args.iri.now (ap length (sym c.self.view_is) ∙ sym c.prefix_count.ensures.count ∙ c.if-prefix_count-eq0.true)

pub returns-then-prefix_count-eq0-clause-is : goal.returns-then-prefix_count-eq0-clause-is
returns-then-prefix_count-eq0-clause-is c =
    subst (IsPlace c.args.self.now (prefix_of c.args.self.now c.args.iri.now))
    (sym (no_place c.args.self.now c.args.iri.now (ap length (sym c.self.view_is) ∙ sym c.prefix_count.ensures.count ∙ c.if-prefix_count-eq0.true)))
    (place_is c.args.self.now c.args.iri.now (ap names_rise (sym c.self.view_is) ∙ rises c.self.inside.context.now.prefixes ∙ c.prefix_count.ensures.in_order))

pub returns-clause-is : goal.returns-clause-is
returns-clause-is c =
    subst (IsPlace c.args.self.now (prefix_of c.args.self.now c.args.iri.now)) (sym c.found.ensures)
    (place_is c.args.self.now c.args.iri.now (ap names_rise (sym c.self.view_is) ∙ rises c.self.inside.context.now.prefixes ∙ c.prefix_count.ensures.in_order))
