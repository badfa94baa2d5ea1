use Rattle.rx_scan.proofs.Common.{◌≡◌, ◌-◌, ◌≤◌, true, length, take, list_all, IsUtf8, is_plain_char}
use Rattle.rx_scan.proofs.plain.text_length.Given as goal

abbrev pub invariant-loop-count : goal.invariant-loop-count
invariant-loop-count l = record {
  fits : l.count ≤ length l.bytes;
  text : IsUtf8 (take l.count l.bytes);
  plain : list_all is_plain_char (take l.count l.bytes) ≡ true;
}

abbrev pub decreases-loop-count : goal.decreases-loop-count
decreases-loop-count l = length l.bytes - l.count
