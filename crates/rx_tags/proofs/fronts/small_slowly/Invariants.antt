use Rattle.rx_terms.proofs.Common.{◌≡◌, true, take, list_all}
use Rattle.rx_tags.specs.Fronts.{is_small}
use Rattle.rx_tags.proofs.fronts.small_slowly.Given as goal

abbrev pub invariant-loop-byte : goal.invariant-loop-byte
invariant-loop-byte l = record {
  counted : l.count ≡ l.byte-index;
  small : list_all is_small (take l.count l.bytes) ≡ true;
}
