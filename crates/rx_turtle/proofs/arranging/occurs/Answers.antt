use Rattle.rx_turtle.proofs.Common.{◌∙◌, ◌≡◌, map, length, sym, arith, refl, slice_get_read, resource_seen}
use Rattle.rx_turtle.specs.declared.keys.By.TheVariants as by
use Rattle.rx_turtle.proofs.GroupLemmas.{lent_seen, lent_at}
use Rattle.rx_turtle.proofs.ArrangedLemmas.{occurs_here, occurs_later, occurs_not, seen_length}
use Rattle.rx_turtle.proofs.arranging.occurs.Goals as goal

pub returns-then-has_key : goal.returns-then-has_key
returns-then-has_key c =
    occurs_here by.Predicate (map lent_seen c.args.triples.now) c.loop-i.i (lent_seen c.index-triples-i.result) (resource_seen c.args.key) _
    (lent_at c.args.triples.now c.loop-i.i c.index-triples-i.result (slice_get_read c.args.triples.now _ c.loop-i.i c.index-triples-i.result refl c.loop-i-test.true c.index-triples-i.is))
    (sym c.has_key.ensures ∙ c.if-has_key.true) c.loop-i.invariant

pub loop-i-preserved : goal.loop-i-preserved
loop-i-preserved c =
    occurs_later by.Predicate (map lent_seen c.args.triples.now) c.loop-i.i (lent_seen c.index-triples-i.result) (resource_seen c.args.key) _
    (lent_at c.args.triples.now c.loop-i.i c.index-triples-i.result (slice_get_read c.args.triples.now _ c.loop-i.i c.index-triples-i.result refl c.loop-i-test.true c.index-triples-i.is))
    (sym c.has_key.ensures ∙ c.if-has_key.false) c.loop-i.invariant

pub returns : goal.returns
returns c =
    let size : length (map lent_seen c.args.triples.now) ≡ length c.args.triples.now = seen_length c.args.triples.now in
    occurs_not by.Predicate (map lent_seen c.args.triples.now) c.loop-i.i (resource_seen c.args.key) _ (omega (arith, c.loop-i-test.false, size)) c.loop-i.invariant
