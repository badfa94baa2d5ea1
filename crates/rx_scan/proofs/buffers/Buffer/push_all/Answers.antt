use Rattle.rx_scan.proofs.Common.{◌∙◌, ◌++◌, ap, chars, IsUtf8-string_bytes, chars-append, string_bytes, Buffered}
use Rattle.rx_scan.proofs.buffers.Buffer.push_all.Goals as goal

pub returns-clause-ok : goal.returns-clause-ok
returns-clause-ok c =
    ap chars (rw c.if-is_err.ensures.negation at c.push_str.ensures.bytes) ∙ chars-append (string_bytes c.self.inside.text) c.as_str.result.now (IsUtf8-string_bytes c.self.inside.text)
    ∙ ap (λ t. chars (string_bytes c.self.inside.text) ++ t) (ap chars c.as_str.ensures.value ∙ ap (λ (b : Buffered). b.text) c.other.view_is) ∙ ap (λ (b : Buffered). b.text ++ c.args.other.now.text) c.self.view_is
