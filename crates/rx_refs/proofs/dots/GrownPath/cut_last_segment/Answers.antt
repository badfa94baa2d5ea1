use Rattle.rx_refs.proofs.Common.{◌≡◌, ◌∙◌, ap, List, ℕ, drop, take, string_bytes, chars, Chars, without_last_segment, Grown}
use Rattle.rx_refs.proofs.BufferLemmas.{shown, shown-cut}
use Rattle.rx_refs.proofs.dots.GrownPath.cut_last_segment.Goals as goal

pub returns : goal.returns
returns c =
    let bs : List ℕ = string_bytes c.self.inside.text in
    let path : c.range_from.result.now ≡ drop c.self.inside.start bs = c.range_from.ensures.value ∙ ap (drop c.self.inside.start) c.as_str.ensures.value in
    let front : chars (take c.last_slash-at.result (drop c.self.inside.start bs)) ≡ without_last_segment (chars (drop c.self.inside.start bs)) = rw path at c.last_slash-at.ensures.front in
    ap (λ (x : List ℕ). shown x c.self.inside.start c.self.inside.slash) c.truncate.ensures.bytes
    ∙ shown-cut bs c.self.inside.start c.last_slash-at.result c.self.inside.slash
    ∙ ap (λ (p : Chars). record { front = (shown bs c.self.inside.start c.self.inside.slash).front; path = p; slash = c.self.inside.slash }) front
    ∙ ap (λ (g : Grown). record g { path = without_last_segment g.path }) c.self.view_is
