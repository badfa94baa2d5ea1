use Rattle.rx_refs.proofs.Common.{◌≡◌, drop, has_forbidden}
use Rattle.rx_refs.proofs.plain.has_forbidden.Given as goal

abbrev pub invariant-loop-byte : goal.invariant-loop-byte
invariant-loop-byte l = has_forbidden (drop l.byte-index l.bytes) ≡ has_forbidden l.bytes
