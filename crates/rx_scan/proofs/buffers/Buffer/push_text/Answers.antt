use Rattle.rx_scan.proofs.Common.{◌∙◌, ◌++◌, ap, chars, IsUtf8-string_bytes, chars-append, string_bytes, Buffered}
use Rattle.rx_scan.proofs.buffers.Buffer.push_text.Goals as goal

pub returns-clause-ok : goal.returns-clause-ok
returns-clause-ok c =
    ap chars (rw c.if-is_err.ensures.negation at c.push_str.ensures.bytes) ∙ chars-append (string_bytes c.self.inside.text) c.args.text.now (IsUtf8-string_bytes c.self.inside.text)
    ∙ ap (λ (b : Buffered). b.text ++ chars c.args.text.now) c.self.view_is
