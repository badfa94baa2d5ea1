-- Characters above ASCII at the front of some bytes.
use Rattle.std.specs.Prelude.{◌≡◌, ◌≤◌, ℕ, true, List, length, take}
use Rattle.rx_terms.specs.Common.{list_all, IsUtf8}
use Rattle.rx_scan.specs.Plain.{is_plain_char}

-- So many bytes at the front are one of them, and none of its bytes means anything else.
pub record BeginsWide (bytes : List ℕ) (n : ℕ) : Type 0 where
  pub fits : n ≤ length bytes
  pub text : IsUtf8 (take n bytes)
  pub plain : list_all is_plain_char (take n bytes) ≡ true
