use Rattle.rx_terms.proofs.Common.{◌∙◌, ap, string_bytes, chars, IsUtf8-string_bytes}
use Rattle.rx_terms.proofs.OkLemmas.{on_ok_both}
use Rattle.rx_eval.proofs.LabelLemmas.{is_new_in, added, same_size, texts_more}
use Rattle.rx_eval.proofs.labels.Labels.add.Goals as goal

pub add_row-requires-clause-fresh : goal.add_row-requires-clause-fresh
add_row-requires-clause-fresh c =
    is_new_in c.args.label.now _ _ _ _ c.self.view_is (same_size string_bytes (λ k. IsUtf8-string_bytes k) c.self.inside.labels _ c.self.invariant)
    (ap chars c.in_ok-key.ensures.ok ∙ c.as_str.ensures.characters) c.requires

pub returns-clause-ok : goal.returns-clause-ok
returns-clause-ok c =
    on_ok_both c.add_row.result
    (λ k n.
    added c.args.self.now _ _ _ _ _ c.args.label.now c.args.number c.self.view_is (same_size string_bytes (λ k. IsUtf8-string_bytes k) c.self.inside.labels _ c.self.invariant)
    (ap chars c.in_ok-key.ensures.ok ∙ c.as_str.ensures.characters) (texts_more string_bytes (λ k. IsUtf8-string_bytes k) c.self.inside.labels _ _ k) n)
    c.add_row.ensures.keys c.add_row.ensures.numbers
