use Rattle.rx_grammar.proofs.Common.{◌≡◌, ◌≤◌, drop, number_from}
use Rattle.rx_tags.specs.Numbers.{capped}
use Rattle.rx_tags.proofs.references.number.Given as goal

abbrev pub invariant-loop-digit : goal.invariant-loop-digit
invariant-loop-digit l =
    (l.number ≤ 0x110000) × (capped (number_from l.base 0 l.digits) ≡ capped (number_from l.base l.number (drop l.digit-index l.digits)))
