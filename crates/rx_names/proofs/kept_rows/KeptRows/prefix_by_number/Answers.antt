use Rattle.rx_names.proofs.Common.{◌∙◌, ℕ, ap, sym, rules, chars, lowered, slice_get_within, number_of, last_of, prefix_in, nearer}
use Rattle.rx_unique.specs.Places.{last_place}
use Rattle.rx_names.proofs.RowLemmas.{sound-at, told-at-first, told-there, told-before, row-within, other-prefix}
use Rattle.rx_names.proofs.kept_rows.KeptRows.prefix_by_number.Goals as goal

pub loop-next-init : goal.loop-next-init
loop-next-init c = told-at-first (prefix_in (lowered (chars c.args.name.now))) (number_of (lowered (chars c.args.name.now))) (other-prefix (lowered (chars c.args.name.now))) c.self.inside.rows.items c.self.inside.places c.last-next.result c.self.invariant (c.last-next.ensures ∙ ap (λ (k : ℕ). last_place k c.self.inside.places) c.number_of.ensures)

pub index-requires : goal.index-requires
index-requires c =
    let within = row-within c.self.inside.rows.items c.self.inside.places c.in-Some.place (number_of (lowered (chars c.args.name.now))) c.self.invariant (c.loop-next.invariant.there c.in-Some.place c.in-Some.is) in
    search (rules, within)

pub prefix-requires : goal.prefix-requires
prefix-requires c =
    let within = row-within c.self.inside.rows.items c.self.inside.places c.in-Some.place (number_of (lowered (chars c.args.name.now))) c.self.invariant (c.loop-next.invariant.there c.in-Some.place c.in-Some.is) in
    sound-at c.self.inside.rows.items c.in-Some.place c.index.result.now c.self.invariant.sound within c.index.ensures

pub returns-in-Some-prefix-clause-last : goal.returns-in-Some-prefix-clause-last
returns-in-Some-prefix-clause-last c =
    sym (told-there (prefix_in (lowered (chars c.args.name.now))) (number_of (lowered (chars c.args.name.now))) (other-prefix (lowered (chars c.args.name.now))) c.self.inside.rows.items c.self.inside.places c.loop-next.next c.in-Some.place c.index.result.now _
    c.self.invariant c.loop-next.invariant c.in-Some.is c.index.ensures (sym c.in-Some-prefix.ensures.iri))
    ∙ ap (last_of (prefix_in (lowered (chars c.args.name.now)))) c.self.view_is

pub earlier-next-requires : goal.earlier-next-requires
earlier-next-requires c = slice_get_within c.self.inside.places c.in-Some.place (number_of (lowered (chars c.args.name.now))) (c.loop-next.invariant.there c.in-Some.place c.in-Some.is)

pub loop-next-smaller : goal.loop-next-smaller
loop-next-smaller c = nearer c.self.inside.places c.loop-next.next c.earlier-next.result c.in-Some.place _ c.in-Some.is c.earlier-next.ensures

pub loop-next-preserved : goal.loop-next-preserved
loop-next-preserved c =
    told-before (prefix_in (lowered (chars c.args.name.now))) (number_of (lowered (chars c.args.name.now))) (other-prefix (lowered (chars c.args.name.now))) c.self.inside.rows.items c.self.inside.places c.loop-next.next c.earlier-next.result c.in-Some.place c.index.result.now
    c.self.invariant c.loop-next.invariant c.in-Some.is c.index.ensures (sym c.in_default-prefix.ensures.iri) c.earlier-next.ensures
