use Rattle.rx_names.proofs.Common.{◌≡◌, members_view, are_known}
use Rattle.rx_names.proofs.context_files.are_known.Given as goal

abbrev pub invariant-loop-name : goal.invariant-loop-name
invariant-loop-name l = are_known (members_view l.members.entries) ≡ are_known (members_view l.name-iterator)
