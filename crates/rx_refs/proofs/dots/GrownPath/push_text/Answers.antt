use Rattle.rx_refs.proofs.Common.{◌∙◌, ap, ◌++◌, List, ℕ, string_bytes, chars, IsUtf8-string_bytes, Grown}
use Rattle.rx_refs.proofs.BufferLemmas.{shown, boundary-push, shown-push}
use Rattle.rx_refs.proofs.dots.GrownPath.push_text.Goals as goal

pub invariant_of-self-2 : goal.invariant_of-self-2
invariant_of-self-2 c =
    rw c.in_ok-push_str.ensures.bytes (boundary-push (string_bytes c.self.inside.text) c.args.text.now c.self.inside.start (IsUtf8-string_bytes c.self.inside.text) c.utf8.text c.self.invariant)

pub returns : goal.returns
returns c =
    ap (λ (bs : List ℕ). shown bs c.self.inside.start c.self.inside.slash) c.in_ok-push_str.ensures.bytes
    ∙ shown-push (string_bytes c.self.inside.text) c.args.text.now c.self.inside.start c.self.inside.slash (IsUtf8-string_bytes c.self.inside.text) c.self.invariant
    ∙ ap (λ (g : Grown). record g { path = g.path ++ chars c.args.text.now }) c.self.view_is
