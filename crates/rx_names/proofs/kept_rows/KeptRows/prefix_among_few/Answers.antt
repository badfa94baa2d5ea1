use Rattle.rx_names.proofs.Common.{◌∙◌, sym, Some, None, arith, chars, lowered, prefix_in}
use Rattle.rx_names.proofs.RowLemmas.{last-before}
use Rattle.rx_names.proofs.kept_rows.KeptRows.prefix_among_few.Goals as goal

pub returns-in-Some-clause-last : goal.returns-in-Some-clause-last
returns-in-Some-clause-last c =
    let here = last-before (prefix_in (lowered (chars c.args.name.now))) c.self.inside.rows.items c.loop-i.i c.index.result.now (Some (chars c.in-Some.iri.now)) c.loop-i-test.true c.loop-i.invariant.within c.index.ensures (sym c.in-Some.ensures.iri) in
    sym (c.loop-i.invariant.rest ∙ here)

pub loop-i-preserved : goal.loop-i-preserved
loop-i-preserved c = record {
  within = omega arith;
  rest = c.loop-i.invariant.rest ∙ last-before (prefix_in (lowered (chars c.args.name.now))) c.self.inside.rows.items c.loop-i.i c.index.result.now None c.loop-i-test.true c.loop-i.invariant.within c.index.ensures (sym c.in_default.ensures.iri);
}
