use Rattle.rx_rdfa.proofs.Common.{◌≡◌, ◌++◌, List, length, option_map, chars, tokens, ElementTag, ref_of, types_of, Utf8, shadow}
use Rattle.std.specs.List.{filter_map}
use Rattle.rx_rdfa.specs.Readings.{read_term}
use Rattle.rx_names.specs.Lines.{NamesStand}
use Rattle.rx_names.specs.Views.{names_seen}
use Rattle.rx_curie.specs.Seen.{refs_seen}
use Rattle.rx_curie.proofs.types.types_of.Given as goal

abbrev pub invariant-loop-token : goal.invariant-loop-token
invariant-loop-token l = record {
  utf8 : shadow (Utf8 l.rest);
  read : (line : List ElementTag) → NamesStand (names_seen l.names) line
      → refs_seen l.types ++ filter_map (λ token. option_map ref_of (read_term (names_seen l.names).context line token)) (tokens (chars l.rest)) ≡ types_of (names_seen l.names).context line (chars l.value);
}

abbrev pub decreases-loop-token : goal.decreases-loop-token
decreases-loop-token l = length l.rest
