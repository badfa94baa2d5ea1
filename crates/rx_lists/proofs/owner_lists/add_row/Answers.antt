use Rattle.rx_terms.proofs.Common.{ap, ◌∙◌, ◌++◌, ◌∷◌, [], Bool, if◌then◌else◌}
use Rattle.rx_lists.proofs.RowLemmas.{none_alike}
use Rattle.rx_lists.proofs.owner_lists.add_row.Goals as goal

pub returns-clause-keys : goal.returns-clause-keys
returns-clause-keys c =
    c.in-Ok.ensures.keys
    ∙ ap (λ (b : Bool). if b then c.args.keys.now else c.args.keys.now ++ c.args.key ∷ []) (none_alike c.args.key c.args.keys.now c.requires)
