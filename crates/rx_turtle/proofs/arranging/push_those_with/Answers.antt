use Rattle.rx_turtle.proofs.Common.{◌≡◌, map, length, arith, refl, append-nil, sym, filter, slice_get_read, resource_seen, has_key}
use Rattle.rx_turtle.specs.declared.keys.By.TheVariants as by
use Rattle.rx_turtle.proofs.GroupLemmas.{lent_seen, lent_at}
use Rattle.rx_turtle.proofs.ArrangedLemmas.{kept_turn, whole_end, seen_length}
use Rattle.rx_turtle.proofs.arranging.push_those_with.Goals as goal

pub loop-i-init : goal.loop-i-init
loop-i-init c = sym (append-nil (map lent_seen c.args.list.now.items))

pub loop-i-preserved : goal.loop-i-preserved
loop-i-preserved c =
    kept_turn by.Predicate (resource_seen c.args.key) (map lent_seen c.args.triples.now) c.loop-i.i (lent_seen c.index-triples-i.result) (map lent_seen c.args.list.now.items) (map lent_seen c.loop-i.list.items)
    (map lent_seen c.push_if.new.list.items)
    (lent_at c.args.triples.now c.loop-i.i c.index-triples-i.result (slice_get_read c.args.triples.now _ c.loop-i.i c.index-triples-i.result refl c.loop-i-test.true c.index-triples-i.is))
    c.in_ok-push_if.ensures c.loop-i.invariant

pub returns : goal.returns
returns c =
    let size : length (map lent_seen c.args.triples.now) ≡ length c.args.triples.now = seen_length c.args.triples.now in
    whole_end (filter (has_key by.Predicate (resource_seen c.args.key))) (map lent_seen c.args.triples.now) c.loop-i.i (map lent_seen c.args.list.now.items) (map lent_seen c.loop-i.list.items) (omega (arith, c.loop-i-test.false, size)) c.loop-i.invariant
