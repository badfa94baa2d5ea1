use Rattle.rx_scan.proofs.Common.{◌∙◌, ap, chars, is_empty, Buffered}
use Rattle.rx_scan.proofs.BufferLemmas.{no_bytes}
use Rattle.rx_scan.proofs.buffers.Buffer.is_empty.Goals as goal

pub returns-clause-value : goal.returns-clause-value
returns-clause-value c = c.is_empty.ensures ∙ no_bytes c.as_str.result.now c.as_str.utf8 ∙ ap is_empty (ap chars c.as_str.ensures.value ∙ ap (λ (b : Buffered). b.text) c.self.view_is)
