use Rattle.rx_names.proofs.Common.{◌≡◌, ◌++◌, length, chars, tokens, seen_slice, Utf8, shadow, pairs, pairs_after, mapping_rows}
use Rattle.rx_names.proofs.declarations.push_pairs.Given as goal

abbrev pub invariant-loop-token : goal.invariant-loop-token
invariant-loop-token l = record {
  utf8 : shadow (Utf8 l.rest);
  rows : l.rows ++ mapping_rows (pairs_after (seen_slice l.waiting) (tokens (chars l.rest))) ≡ l.fn.rows ++ mapping_rows (pairs (tokens (chars l.value)));
}

abbrev pub decreases-loop-token : goal.decreases-loop-token
decreases-loop-token l = length l.rest
