use Rattle.std.proofs.Common.{◌∙◌}
use Rattle.rx_pieces.proofs.Sending.{end_stands, whole_sent, holds_text}
use Rattle.rx_nquads.proofs.writing.line_of.Goals as goal

pub returns-in-Ok-send-clause-bytes : goal.returns-in-Ok-send-clause-bytes
returns-in-Ok-send-clause-bytes c =
    c.into_bytes.ensures ∙ holds_text _ _ _ c.in_ok-whole.ensures (whole_sent _ (end_stands c.in-Ok.ensures c.push_line.ensures.adds.bytes c.in-Ok-send.ensures.adds))
