use Rattle.rx_terms.proofs.Common.{map, arith, refl, append-nil, sym, slice_get_read}
use Rattle.rx_turtle.proofs.GroupLemmas.{lent_seen}
use Rattle.rx_turtle.proofs.ArrangedLemmas.{all_turn, whole_end}
use Rattle.rx_turtle.proofs.arranging.push_all.Goals as goal

pub loop-i-init : goal.loop-i-init
loop-i-init c = sym (append-nil (map lent_seen c.args.list.now.items))

pub loop-i-preserved : goal.loop-i-preserved
loop-i-preserved c =
    all_turn c.args.triples.now c.loop-i.i c.index-triples-i.result (map lent_seen c.args.list.now.items) c.loop-i.list.items c.push.new.self.items
    (slice_get_read c.args.triples.now _ c.loop-i.i c.index-triples-i.result refl c.loop-i-test.true c.index-triples-i.is) c.in_ok-push.ensures.items c.loop-i.invariant

pub returns : goal.returns
returns c = whole_end (map lent_seen) c.args.triples.now c.loop-i.i (map lent_seen c.args.list.now.items) (map lent_seen c.loop-i.list.items) (omega (arith, c.loop-i-test.false)) c.loop-i.invariant
