use Rattle.rx_rdfa.proofs.Common.{◌≡◌, List, [], length, true, false, chars, tokens, ElementTag, link, Utf8, shadow}
use Rattle.rx_names.specs.Lines.{NamesStand}
use Rattle.rx_names.specs.Views.{names_seen}
use Rattle.rx_curie.proofs.TokenSteps.{so_far}
use Rattle.rx_curie.proofs.predicates.kept_predicates.Given as goal

abbrev pub invariant-loop-token : goal.invariant-loop-token
invariant-loop-token l = record {
  utf8 : shadow (Utf8 l.rest);
  none : l.is_present ≡ false → l.iris ≡ [];
  read : (line : List ElementTag) → NamesStand (names_seen l.names) line
      → so_far (names_seen l.names).context line l.is_present l.iris (tokens (chars l.rest)) ≡ link (names_seen l.names).context line true (chars l.value);
}

abbrev pub decreases-loop-token : goal.decreases-loop-token
decreases-loop-token l = length l.rest
