use Rattle.std.proofs.Common.{◌∙◌, ◌++◌, ℕ, List, IsPermutation, ap₂, sym, subst, arith, take_all}
use Rattle.std.proofs.lemmas.List.Sorted.{IsNonDecreasingBy-from_sort}
use Rattle.rx_graph.proofs.PlaceLemmas.{gathered_more}
use Rattle.rx_graph.proofs.index.gathered.Goals as goal

pub loop-i-preserved : goal.loop-i-preserved
loop-i-preserved c = c.in_ok-extend_from_slice.ensures.items ∙ ap₂ ◌++◌ c.loop-i.invariant c.numbers.ensures ∙ sym (gathered_more c.args.own.now c.args.reached.now c.loop-i.i c.at.result c.at.ensures)

pub returns-clause-all : goal.returns-clause-all
returns-clause-all c =
    let all = take_all c.loop-i.i c.args.reached.now (omega (arith, c.loop-i-test.false, c.len-i-end.ensures.len)) in
    subst (λ (z : List ℕ). IsPermutation z c.sort_unstable.new.self.items) (rw all at c.loop-i.invariant) c.sort_unstable.ensures.permutation

pub returns-clause-rises : goal.returns-clause-rises
returns-clause-rises c = IsNonDecreasingBy-from_sort (λ x. x) _ c.sort_unstable.ensures.sorted
