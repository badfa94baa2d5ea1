use Rattle.std.proofs.Common.{length, ◌≡◌, ◌+◌, add-one, subst, sym, arith, drop, ℕ}
use Rattle.rx_eval.proofs.DrawLemmas.{type_labels, one_counted}
use Rattle.rx_eval.proofs.numbers.count_all.Goals as goal

pub loop-i-preserved : goal.loop-i-preserved
loop-i-preserved c = record {
  left =
      subst (λ (n : ℕ). c.loop-i.count + c.one_if_label-count.result + length (type_labels (drop n c.args.types.now)) ≡ length (type_labels c.args.types.now)) (sym (add-one c.loop-i.i))
      (one_counted c.args.types.now c.loop-i.i c.loop-i.count c.one_if_label-count.result (length (type_labels c.args.types.now)) c.at.result.now c.at.ensures.node c.one_if_label-count.ensures.count c.loop-i.invariant.left);
  bound = omega (arith, c.loop-i.invariant.bound, c.one_if_label-count.ensures.one);
}
