use Rattle.rx_refs.proofs.Common.{◌≡◌, true, take, list_all, is_scheme_byte}
use Rattle.rx_refs.proofs.plain.scheme_length.Given as goal

abbrev pub invariant-loop-byte : goal.invariant-loop-byte
invariant-loop-byte l = record { counted : l.count ≡ l.byte-index; front : list_all is_scheme_byte (take l.count l.bytes) ≡ true }
