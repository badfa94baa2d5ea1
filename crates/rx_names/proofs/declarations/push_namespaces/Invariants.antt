use Rattle.rx_names.proofs.Common.{◌≡◌, ◌++◌, take, flat_map, xmlns_of, tag_seen, token_tag, mapping_rows}
use Rattle.rx_names.proofs.declarations.push_namespaces.Given as goal

abbrev pub invariant-loop-i : goal.invariant-loop-i
invariant-loop-i l = l.rows ≡ l.fn.rows ++ mapping_rows (flat_map xmlns_of (take l.i (token_tag (tag_seen l.tag)).attributes))
