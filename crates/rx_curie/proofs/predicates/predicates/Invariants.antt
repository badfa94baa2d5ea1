use Rattle.rx_rdfa.proofs.Common.{◌≡◌, ◌++◌, List, length, chars, tokens, ElementTag, predicate, predicates, Utf8, shadow}
use Rattle.std.specs.List.{filter_map}
use Rattle.rx_names.specs.Lines.{NamesStand}
use Rattle.rx_names.specs.Views.{names_seen}
use Rattle.rx_curie.proofs.predicates.predicates.Given as goal

abbrev pub invariant-loop-token : goal.invariant-loop-token
invariant-loop-token l = record {
  utf8 : shadow (Utf8 l.rest);
  read : (line : List ElementTag) → NamesStand (names_seen l.names) line
      → l.iris ++ filter_map (predicate (names_seen l.names).context line) (tokens (chars l.rest)) ≡ predicates (names_seen l.names).context line (chars l.value);
}

abbrev pub decreases-loop-token : goal.decreases-loop-token
decreases-loop-token l = length l.rest
