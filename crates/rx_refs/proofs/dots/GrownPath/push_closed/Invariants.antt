use Rattle.rx_refs.proofs.Common.{◌≡◌, ◌++◌, length, chars, Chars, through_last_slash, Takes}
use Rattle.rx_terms.proofs.Common.{Utf8, shadow}
use Rattle.rx_refs.proofs.dots.GrownPath.push_closed.Given as goal

abbrev pub invariant-loop-segment : goal.invariant-loop-segment
invariant-loop-segment l = record {
  utf8 : shadow (Utf8 l.rest);
  taken : Chars;
  whole : chars l.path ≡ taken ++ chars l.rest;
  closed : through_last_slash (chars l.path) ≡ taken ++ through_last_slash (chars l.rest);
  takes : Takes l.fn.self l.self taken;
}

abbrev pub decreases-loop-segment : goal.decreases-loop-segment
decreases-loop-segment l = length (chars l.rest)
