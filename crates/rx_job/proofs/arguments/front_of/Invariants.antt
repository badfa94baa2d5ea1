use Rattle.std.proofs.Common.{length}
use Rattle.rx_job.specs.Jobs.{text_in}
use Rattle.rx_job.proofs.WordLemmas.{Reads}
use Rattle.rx_job.proofs.arguments.front_of.Given as goal

abbrev pub invariant-loop-name : goal.invariant-loop-name
invariant-loop-name l =
    Reads l.fn.words l.left
    (record { syntax = text_in l.syntax; format = text_in l.format; graph = text_in l.graph; context = text_in l.context; base = text_in l.base })

abbrev pub decreases-loop-name : goal.decreases-loop-name
decreases-loop-name l = length l.left
