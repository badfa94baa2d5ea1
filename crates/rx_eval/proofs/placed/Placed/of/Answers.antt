use Rattle.rx_eval.proofs.OpenLemmas.{fresh_room}
use Rattle.rx_eval.proofs.DrawLemmas.{all_of_them, on_err}
use Rattle.rx_eval.proofs.placed.Placed.of.Goals as goal

pub number_after-next_blank-requires : goal.number_after-next_blank-requires
number_after-next_blank-requires c = fresh_room _ _ _ c.in_ok-fresh.fresh _ c.in_ok-fresh.ensures.ok c.requires.room

pub returns-in_err-found-clause-err : goal.returns-in_err-found-clause-err
returns-in_err-found-clause-err c = on_err c.from_residual-in_err-found.result (all_of_them _ _ _ _ _ c.in_ok-fresh.ensures.ok)

pub returns-in_err-copy-clause-err : goal.returns-in_err-copy-clause-err
returns-in_err-copy-clause-err c = on_err c.from_residual-in_err-copy.result (all_of_them _ _ _ _ _ c.in_ok-fresh.ensures.ok)
