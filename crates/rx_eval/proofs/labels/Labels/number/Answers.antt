use Rattle.rx_terms.proofs.Common.{◌∙◌, string_bytes, chars, IsUtf8-string_bytes}
use Rattle.rx_eval.proofs.LabelLemmas.{found, missing, same_position, same_size}
use Rattle.rx_eval.proofs.labels.Labels.number.Goals as goal

pub returns-in-Some : goal.returns-in-Some
returns-in-Some c =
    found (chars c.args.label.now) _ _ _ _ _ c.self.view_is (same_size string_bytes (λ k. IsUtf8-string_bytes k) c.self.inside.labels _ c.self.invariant)
    (c.in-Some.ensures.index ∙ same_position string_bytes (λ k. IsUtf8-string_bytes k) c.args.label.now c.self.inside.labels c.utf8.label) c.index.ensures

pub returns-in-None : goal.returns-in-None
returns-in-None c =
    missing (chars c.args.label.now) _ _ _ c.self.view_is
    (c.in-None.ensures.index ∙ same_position string_bytes (λ k. IsUtf8-string_bytes k) c.args.label.now c.self.inside.labels c.utf8.label)
