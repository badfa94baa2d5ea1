use Rattle.rx_terms.proofs.Common.{◌≡◌, map, drop, to_ascii_lowercase}
use Rattle.std.specs.Hash.DefaultHasher as sip
use Rattle.rx_names.proofs.numbers.number_of.Given as goal

abbrev pub invariant-loop-byte : goal.invariant-loop-byte
invariant-loop-byte l = sip.write l.hasher (map to_ascii_lowercase (drop l.byte-index l.byte-items)) ≡ sip.write sip.initial (map to_ascii_lowercase l.name)
