use Rattle.rx_turtle.proofs.Common.{ℕ, codes, refl, map, get_or, slice_get-get_or, Triple, object_text}
use Rattle.rx_turtle.proofs.GroupLemmas.{lent_seen, lent_at}
use Rattle.rx_turtle.proofs.LineLemmas.{listed}
use Rattle.rx_turtle.proofs.lines.push_objects.Goals as goal

pub loop-i-preserved : goal.loop-i-preserved
loop-i-preserved g c =
    listed (λ (t : Triple ℕ). object_text c.args.shorts.now t.object) (codes " , ") refl (map lent_seen c.args.triples.now) c.loop-i.i _
    (lent_at c.args.triples.now c.loop-i.i (get_or c.args.triples.now c.loop-i.i c.index-triples-i.result) (slice_get-get_or c.args.triples.now c.loop-i.i c.index-triples-i.result c.loop-i-test.true))
    c.loop-i.invariant c.push_unless_first.ensures c.push_object.ensures
