use Rattle.rx_scan.proofs.Common.{◌≡◌, drop, body_length, body_from}
use Rattle.rx_reader.specs.declared.phases.RunMove.TheVariants.{Goes}
use Rattle.rx_scan.proofs.whole_references.body_length.Given as goal

abbrev pub invariant-loop-byte : goal.invariant-loop-byte
invariant-loop-byte l = (l.count ≡ l.byte-index) × (body_length l.bytes ≡ body_from (Goes l.phase) l.count (drop l.byte-index l.bytes))
