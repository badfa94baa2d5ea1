use Rattle.std.proofs.Common.{◌≡◌, ◌<◌, arith, ap, length, Some, slice_get}
use Rattle.rx_tags.specs.Reading.{AttributeReading, rows_read, RowFits, row_read}
use Rattle.rx_tags.proofs.Pieces.{row_at}
use Rattle.rx_tags.proofs.attributes.Attributes.at.Goals as goal
use Rattle.rx_tags.proofs.attributes.Attributes.at.Goals.{After-deref}

row_is : (c : After-deref)
    → RowFits c.self.inside.text.items c.self.inside.start c.index-row.result.now
    × (slice_get (rows_read c.self.inside.text.items c.self.inside.rows.items) c.args.i ≡ Some (row_read c.self.inside.text.items c.index-row.result.now))
row_is c =
    let asked : c.args.i < length (rows_read c.self.inside.text.items c.self.inside.rows.items) = omega (arith, c.requires, ap (λ (r : AttributeReading). length r.whole) c.self.view_is) in
    row_at c.self.inside.text.items _ c.self.inside.rows.items c.args.i c.index-row.result.now c.index-row.result.now c.self.invariant.rows_fit asked c.index-row.ensures

pub text_between-requires-clause-rises : goal.text_between-requires-clause-rises
text_between-requires-clause-rises c = let d = (goal.at.text_between-requires-clause-rises c).After-deref in let r = (row_is d).0 in r.rises

pub text_between-requires-clause-within : goal.text_between-requires-clause-within
text_between-requires-clause-within c = let d = (goal.at.text_between-requires-clause-within c).After-deref in let r = (row_is d).0 in omega (arith, r.apart, r.on, r.within, d.self.invariant.rises, d.self.invariant.on, d.self.invariant.within, ap length d.deref.ensures.value)

pub text_between-requires-clause-utf8 : goal.text_between-requires-clause-utf8
text_between-requires-clause-utf8 c = let d = (goal.at.text_between-requires-clause-utf8 c).After-deref in let r = (row_is d).0 in rw d.deref.ensures.value r.name

pub text_between-requires-2-clause-rises : goal.text_between-requires-2-clause-rises
text_between-requires-2-clause-rises c = let d = (goal.at.text_between-requires-2-clause-rises c).After-deref in let r = (row_is d).0 in r.on

pub text_between-requires-2-clause-within : goal.text_between-requires-2-clause-within
text_between-requires-2-clause-within c = let d = (goal.at.text_between-requires-2-clause-within c).After-deref in let r = (row_is d).0 in omega (arith, r.on, r.within, d.self.invariant.rises, d.self.invariant.on, d.self.invariant.within, ap length c.deref-2.ensures.value)

pub text_between-requires-2-clause-utf8 : goal.text_between-requires-2-clause-utf8
text_between-requires-2-clause-utf8 c = let d = (goal.at.text_between-requires-2-clause-utf8 c).After-deref in let r = (row_is d).0 in rw c.deref-2.ensures.value r.value

pub returns : goal.returns
returns c =
    let d = (goal.at.returns c).After-deref in
    rw (← c.self.view_is, c.text_between.ensures, c.text_between-2.ensures, d.deref.ensures.value, c.deref-2.ensures.value) (row_is d).1
