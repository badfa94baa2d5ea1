use Rattle.rx_command.proofs.pages.end_of.Goals as goal

pub returns-in-Ok-clause-gives : goal.returns-in-Ok-clause-gives
returns-in-Ok-clause-gives g c setting bytes s = c.in-Ok.ensures setting bytes s

pub returns-in-Err-Fault-clause-gives : goal.returns-in-Err-Fault-clause-gives
returns-in-Err-Fault-clause-gives g c setting bytes s = let ends = rw c.in-Err-Fault.field-0-is at c.in-Err-Fault.ensures in ends setting bytes s
