use Rattle.rx_refs.proofs.Common.{◌∙◌, ap, ℕ, false, length, string_bytes}
use Rattle.rx_refs.proofs.BufferLemmas.{shown, shown-start}
use Rattle.rx_refs.proofs.dots.GrownPath.behind.Goals as goal

pub returns : goal.returns
returns c = ap (λ (n : ℕ). shown (string_bytes c.args.text) n false) (ap length c.as_str.ensures.value) ∙ shown-start (string_bytes c.args.text)
