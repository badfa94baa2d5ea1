use Rattle.rx_command.proofs.Common.{refl, limits_are}
use Rattle.rx_command.proofs.SampleLemmas.{none_fed, started, head_is}
use Rattle.rx_command.proofs.samples.Feeding.new.Goals as goal

pub returns : goal.returns
returns c = none_fed _ (started _ _ _ _ _ (limits_are _ c.standard-2.ensures.depth c.standard-2.ensures.tag c.standard-2.ensures.page) c.in_ok-context.ensures c.in_ok-address.ensures c.in_ok-walk.ensures) refl refl (head_is _ _ c.new-piece.ensures.items c.in-Ok.ensures.items)
