use Rattle.rx_scan.proofs.Common.{◌∙◌, ◌++◌, ◌∷◌, [], ap, chars, IsUtf8-string_bytes, string_bytes, Buffered}
use Rattle.rx_tags.proofs.Pieces.{with_char}
use Rattle.rx_scan.proofs.buffers.Buffer.push.Goals as goal

pub returns-clause-ok : goal.returns-clause-ok
returns-clause-ok c =
    ap chars (rw c.if-is_err.ensures.negation at c.push.ensures.bytes) ∙ (with_char (string_bytes c.self.inside.text) c.args.c (IsUtf8-string_bytes c.self.inside.text) c.ranges.c.0).1 ∙ ap (λ (b : Buffered). b.text ++ c.args.c ∷ []) c.self.view_is
