use Rattle.rx_terms.proofs.Common.{ap, ◌∙◌, ◌++◌, ◌∷◌, [], Bool, if◌then◌else◌, string_bytes, IsUtf8-string_bytes}
use Rattle.rx_eval.proofs.LabelLemmas.{none_kept}
use Rattle.rx_eval.proofs.labels.add_row.Goals as goal

pub returns-clause-keys : goal.returns-clause-keys
returns-clause-keys c =
    c.in_ok-_is_new.ensures.keys
    ∙ ap (λ (b : Bool). if b then c.args.keys.now else c.args.keys.now ++ c.args.key ∷ []) (none_kept string_bytes (λ k. IsUtf8-string_bytes k) c.args.key c.args.keys.now c.requires.fresh)
