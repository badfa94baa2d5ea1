use Rattle.rx_refs.proofs.Common.{◌∙◌, ap, ◌++◌, string_bytes, IsUtf8-string_bytes, Grown}
use Rattle.rx_refs.proofs.BufferLemmas.{shown-whole}
use Rattle.rx_refs.proofs.dots.GrownPath.into_text.Goals as goal

pub returns : goal.returns
returns c =
    shown-whole (string_bytes c.self.inside.text) c.self.inside.start c.self.inside.slash (IsUtf8-string_bytes c.self.inside.text) c.self.invariant
    ∙ ap (λ (g : Grown). g.front ++ g.path) c.self.view_is
