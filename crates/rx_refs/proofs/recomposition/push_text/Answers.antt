use Rattle.rx_refs.proofs.Common.{◌∙◌, ap, string_bytes, chars, IsUtf8-string_bytes, chars-append}
use Rattle.rx_refs.proofs.recomposition.push_text.Goals as goal

pub returns : goal.returns
returns c = ap chars c.in_ok-push_str.ensures.bytes ∙ chars-append (string_bytes c.args.text.now) c.args.piece.now (IsUtf8-string_bytes c.args.text.now)
