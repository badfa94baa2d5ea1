use Rattle.rx_grammar.proofs.Common.{◌≡◌, ℕ, List, ◌++◌, length, chars, IsUtf8, Chars, tokens, is_among, Utf8, shadow}
use Rattle.rx_microdata.specs.Facts.{distinct_tokens, without_repeats_of}
use Rattle.rx_items.proofs.distinct.distinct.Given as goal
use Rattle.rx_tags.specs.Repeats.{has_text}

abbrev pub invariant-loop-token : goal.invariant-loop-token
invariant-loop-token l = record {
  utf8 : shadow (Utf8 l.rest);
  so_far : List Chars;
  sees : (text : List ℕ) → IsUtf8 text → has_text l.seen text ≡ is_among so_far (chars text);
  whole : l.list.items ++ without_repeats_of so_far (tokens (chars l.rest)) ≡ distinct_tokens (chars l.text);
}

abbrev pub decreases-loop-token : goal.decreases-loop-token
decreases-loop-token l = length l.rest
