use Rattle.rx_command.proofs.Common.{ap, text_in}
use Rattle.rx_command.proofs.InputLemmas.{if_context}
use Rattle.rx_command.proofs.inputs.read_context.Goals as goal

pub returns-in-Some-clause-ok : goal.returns-in-Some-clause-ok
returns-in-Some-clause-ok g c = if_context c.read_named_context.result _ _ _ c.in-Some.file.now (ap text_in c.in-Some.is) c.read_named_context.ensures.ok
