use Rattle.rx_items.proofs.Common.{rules, ℕ, nat_lt, IsPartitionPoint-from_clause, IsPartitionedBy-ltb, row_key}
use Rattle.rx_items.proofs.members.before.Goals as goal

pub returns : goal.returns
returns c up =
    IsPartitionPoint-from_clause (λ (x : ℕ). nat_lt (row_key c.args.rows.now x) c.args.bound) c.args.members.now c.partition_point.result c.partition_point.ensures.partitioned
    (IsPartitionedBy-ltb (row_key c.args.rows.now) c.args.members.now c.args.bound up) (λ a r f' called. search rules)
