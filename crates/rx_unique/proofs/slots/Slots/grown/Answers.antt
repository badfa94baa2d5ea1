use Rattle.std.proofs.Common.{◌∙◌, inl, inr, rules, sym}
use Rattle.rx_unique.proofs.SlotLemmas.{held-turn, held-other}
use Rattle.rx_unique.proofs.slots.Slots.grown.Goals as goal
use Rattle.rx_unique.proofs.slots.Slots.grown.Goals.{else-not-take-via-then-not-take+else-eq, else-not-take-via-else-not-take}

pub loop-place-preserved : goal.loop-place-preserved
loop-place-preserved c = (
  search rules,
  λ others held. held-turn c.take.new.self others c.args.hashes.now c.loop-place.place c.loop-place-test.true
      (c.take.ensures.held others _ (c.loop-place.invariant.1 others held))
      (record {
        taken = c.take.ensures.taken;
        own = elim c.else-not-take.branch [
          | else-not-take-via-then-not-take+else-eq w ↦
              inr (held-other c.args.self.now others c.args.hashes.now c.loop-place.place w.first.result held c.loop-place-test.true w.first.ensures.free w.first.ensures.own (sym w.eq.ensures ∙ w.if-eq.false))
          | else-not-take-via-else-not-take w ↦ inl (c.take.ensures.own w.if-not-take.false)
        ];
      }),
)
