use Rattle.rx_turtle.proofs.Common.{◌∙◌, ◌≡◌, ◌<◌, map, length, sym, arith, refl, slice_get_read, resource_seen}
use Rattle.rx_turtle.proofs.GroupLemmas.{lent_seen, lent_at}
use Rattle.rx_turtle.proofs.ArrangedLemmas.{first_has, have_more, have_front, have_all, ends_at, ends_all, some_first, seen_length}
use Rattle.rx_turtle.proofs.cuts.end_of_run.Goals as goal

pub loop-i-init : goal.loop-i-init
loop-i-init c = (omega arith, first_has c.args.by (map lent_seen c.args.triples.now) (resource_seen c.args.key) c.requires)

pub loop-i-preserved : goal.loop-i-preserved
loop-i-preserved c = (
  omega arith,
  have_more c.args.by (map lent_seen c.args.triples.now) c.loop-i.i (lent_seen c.index-triples-i.result) (resource_seen c.args.key)
      (lent_at c.args.triples.now c.loop-i.i c.index-triples-i.result (slice_get_read c.args.triples.now _ c.loop-i.i c.index-triples-i.result refl c.loop-i-test.true c.index-triples-i.is))
      (sym c.has_key.ensures ∙ c.if-not-has_key.false) c.loop-i.invariant.1,
)

pub returns-then-not-has_key-clause-some : goal.returns-then-not-has_key-clause-some
returns-then-not-has_key-clause-some c = omega (arith, c.loop-i.invariant.0)

pub returns-then-not-has_key-clause-have : goal.returns-then-not-has_key-clause-have
returns-then-not-has_key-clause-have c = have_front c.args.by c.args.triples.now (resource_seen c.args.key) c.loop-i.i c.loop-i.invariant.1

pub returns-then-not-has_key-clause-ends : goal.returns-then-not-has_key-clause-ends
returns-then-not-has_key-clause-ends c =
    ends_at c.args.by c.args.triples.now (resource_seen c.args.key) c.loop-i.i c.index-triples-i.result
    (slice_get_read c.args.triples.now _ c.loop-i.i c.index-triples-i.result refl c.loop-i-test.true c.index-triples-i.is) (sym c.has_key.ensures ∙ c.if-not-has_key.true)

pub returns-clause-some : goal.returns-clause-some
returns-clause-some c =
    let size : length (map lent_seen c.args.triples.now) ≡ length c.args.triples.now = seen_length c.args.triples.now in
    let some : 0 < length (map lent_seen c.args.triples.now) = some_first c.args.by (map lent_seen c.args.triples.now) (resource_seen c.args.key) c.requires in
    omega (arith, size, some)

pub returns-clause-have : goal.returns-clause-have
returns-clause-have c = have_all c.args.by c.args.triples.now (resource_seen c.args.key) c.loop-i.i _ (omega (arith, c.loop-i-test.false)) refl c.loop-i.invariant.1

pub returns-clause-ends : goal.returns-clause-ends
returns-clause-ends c = ends_all c.args.by c.args.triples.now (resource_seen c.args.key) _ refl
