use Rattle.rx_refs.proofs.Common.{◌≡◌, drop, list_all, is_scheme_char}
use Rattle.rx_refs.proofs.plain.are_scheme_chars.Given as goal

abbrev pub invariant-loop-byte : goal.invariant-loop-byte
invariant-loop-byte l = list_all is_scheme_char (drop l.byte-index l.bytes) ≡ list_all is_scheme_char l.bytes
