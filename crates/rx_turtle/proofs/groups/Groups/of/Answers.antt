use Rattle.rx_turtle.proofs.Common.{◌∙◌, take, map, ap, sym, arith, refl, slice_get_read, group_keys}
use Rattle.rx_turtle.proofs.GroupLemmas.{lent_seen}
use Rattle.rx_turtle.proofs.TakenLemmas.{taken_turn, taken_end, taken_once}
use Rattle.rx_turtle.proofs.groups.Groups.of.Goals as goal

pub loop-i-init : goal.loop-i-init
loop-i-init c = (c.none-groups.ensures, c.new-keys.ensures ∙ sym (ap group_keys c.none-groups.ensures))

pub take-requires-clause-keys : goal.take-requires-clause-keys
take-requires-clause-keys c = c.loop-i.invariant.1

pub take-requires-clause-once : goal.take-requires-clause-once
take-requires-clause-once c = taken_once c.args.by (map lent_seen (take c.loop-i.i c.args.triples.now)) c.loop-i.groups c.loop-i.invariant.0

pub loop-i-preserved : goal.loop-i-preserved
loop-i-preserved c = (
  taken_turn c.args.by c.args.triples.now c.loop-i.i c.index-triples-i.result c.loop-i.groups _
      (slice_get_read c.args.triples.now _ c.loop-i.i c.index-triples-i.result refl c.loop-i-test.true c.index-triples-i.is)
      c.in_ok-place.ensures.taken c.loop-i.invariant.0,
  c.in_ok-place.ensures.keys,
)

pub returns : goal.returns
returns c = taken_end c.args.by c.args.triples.now c.loop-i.i c.loop-i.groups (omega (arith, c.loop-i-test.false)) c.loop-i.invariant.0
