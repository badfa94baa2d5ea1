use Rattle.std.proofs.Common.{refl}
use Rattle.rx_turtle.proofs.SlotLemmas.{no_names}
use Rattle.rx_turtle.proofs.plain.Plain.new.Goals as goal

pub loop-i-init : goal.loop-i-init
loop-i-init c = (refl, no_names 256)
