use Rattle.rx_terms.proofs.Common.{◌≡◌, ℕ, ◌++◌, Option, length, chars, Chars, tokens, filter_map, Utf8, shadow}
use Rattle.rx_items.specs.Ids.{Looks}
use Rattle.rx_items.proofs.references.found_in.Given as goal

abbrev pub invariant-loop-token : goal.invariant-loop-token
invariant-loop-token l = record {
  utf8 : shadow (Utf8 l.rest);
  found : (look : Chars → Option ℕ) → Looks l.ids look → l.list.items ++ filter_map look (tokens (chars l.rest)) ≡ filter_map look (tokens (chars l.text));
}

abbrev pub decreases-loop-token : goal.decreases-loop-token
decreases-loop-token l = length l.rest
