-- The label of a blank node in bytes.
use Rattle.rx_terms.proofs.Common.{◌≡◌, ℕ, encode_utf8_all, ◌<◌, ◌^◌, ascii-same, decimal, IsAscii-decimal}
use Rattle.rx_pieces.specs.Writing.{blank_text}
use Rattle.rx_pieces.proofs.Adding.{all_ascii}

pub label_bytes : (b : ℕ) → b < 2 ^ 64 → encode_utf8_all (blank_text b) ≡ blank_text b
label_bytes b fits = (ascii-same (blank_text b) (all_ascii (decimal b) (IsAscii-decimal b fits))).0
