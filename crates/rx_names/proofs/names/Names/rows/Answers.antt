use Rattle.rx_names.proofs.Common.{◌∙◌, ap, length, arith, KeptNames}
use Rattle.rx_names.proofs.LineLemmas.{rows-line}
use Rattle.rx_names.proofs.names.Names.rows.Goals as goal

pub returns-clause-bound : goal.returns-clause-bound
returns-clause-bound c = λ line stands.
    let bound = rows-line c.args.self.now line stands in
    let same = c.len.ensures.length ∙ ap (λ (k : KeptNames). length k.rows) c.self.view_is in
    omega (arith, bound, same)
