use Rattle.std.proofs.Common.{◌≡◌}
use Rattle.rx_items.specs.Disjoint.{unshared}
use Rattle.rx_items.proofs.DisjointLemmas.{same_members, unshared_apart}
use Rattle.rx_items.proofs.reaches.runs_apart.Goals as goal

pub returns-clause-reach : goal.returns-clause-reach
returns-clause-reach c words gathered times tree sorted up x =
    let runs = c.in_ok-runs.ensures words gathered times tree sorted up x in
    let list : c.in_ok-disjoint.field-0.items ≡ unshared 0 c.sort_by_begin.new.runs.items = rw c.as_slice.ensures.value at c.in_ok-disjoint.ensures in
    let same = same_members c.in_ok-runs.runs.items c.sort_by_begin.new.runs.items c.in_ok-disjoint.field-0.items c.sort_by_begin.ensures.same c.sort_by_begin.ensures.sorted list c.args.members.now x in (
      (λ d. runs.0 (same.0 d)),
      (λ d. same.1 (runs.1 d)),
    )

pub returns-clause-apart : goal.returns-clause-apart
returns-clause-apart c = rw c.in_ok-disjoint.ensures (unshared_apart 0 c.as_slice.result.now)
