use Rattle.rx_names.proofs.Common.{◌≡◌, ◌≤◌, take, length, chars, lowered, last_of, prefix_in}
use Rattle.rx_names.proofs.kept_rows.KeptRows.prefix_among_few.Given as goal

abbrev pub invariant-loop-i : goal.invariant-loop-i
invariant-loop-i l = record {
  within : l.i ≤ length l.self-inside.rows.items;
  rest : last_of (prefix_in (lowered (chars l.name))) l.self ≡ last_of (prefix_in (lowered (chars l.name))) (take l.i l.self-inside.rows.items);
}
