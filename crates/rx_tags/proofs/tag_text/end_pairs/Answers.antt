use Rattle.std.proofs.Common.{rules}
use Rattle.rx_tags.proofs.EndLemmas.{ends_last}
use Rattle.rx_tags.proofs.tag_text.end_pairs.Goals as goal

pub returns-then-eq-clause-gives : goal.returns-then-eq-clause-gives
returns-then-eq-clause-gives c = ends_last c.args.syntax c.args.action c.args.pairs.now c.add_last.new.self c.add_last.result (search rules) c.add_last.ensures.gives
