use Rattle.rx_names.proofs.Common.{◌≡◌, [], members_view, table_on}
use Rattle.rx_names.proofs.context_files.table_of_members.Given as goal

abbrev pub invariant-loop-name : goal.invariant-loop-name
invariant-loop-name l = table_on l.kind [] (members_view l.members.entries) ≡ table_on l.kind l.table (members_view l.name-iterator)
