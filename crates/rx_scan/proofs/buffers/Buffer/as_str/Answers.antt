use Rattle.rx_scan.proofs.Common.{◌∙◌, sym, ap, chars, encodes-chars, Buffered}
use Rattle.std.specs.Str.{encode_utf8_all}
use Rattle.rx_scan.proofs.buffers.Buffer.as_str.Goals as goal

pub returns-clause-bytes : goal.returns-clause-bytes
returns-clause-bytes c =
    sym (encodes-chars c.as_str.result.now c.as_str.utf8) ∙ ap encode_utf8_all (ap chars c.as_str.ensures.value ∙ ap (λ (b : Buffered). b.text) c.self.view_is)
