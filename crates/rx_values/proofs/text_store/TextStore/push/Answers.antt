use Rattle.rx_terms.proofs.Common.{◌∙◌, ap, ◌++◌, List, ℕ, chars, chars-append, IsUtf8-append}
use Rattle.rx_values.proofs.text_store.TextStore.push.Goals as goal

pub invariant_of-self-2 : goal.invariant_of-self-2
invariant_of-self-2 c = rw c.in_ok-push_str.ensures.bytes (IsUtf8-append _ _ c.self.invariant c.utf8.text)

pub returns-clause-ok : goal.returns-clause-ok
returns-clause-ok c =
    ap chars c.in_ok-push_str.ensures.bytes ∙ chars-append _ _ c.self.invariant ∙ ap (λ (x : List ℕ). x ++ chars c.args.text.now) c.self.view_is
