use Rattle.std.proofs.Common.{rules}
use Rattle.rx_eval.proofs.StandLemmas.{begun_as}
use Rattle.rx_eval.proofs.eval.Eval.new.Goals as goal

pub returns-clause-stands : goal.returns-clause-stands
returns-clause-stands c = begun_as c.args.base c.args.levels _ (search rules)
