use Rattle.rx_terms.proofs.Common.{◌≡◌, ◌&&◌, nat_lt, drop, list_all}
use Rattle.rx_items.proofs.distinct.is_unbroken.Given as goal

abbrev pub invariant-loop-byte : goal.invariant-loop-byte
invariant-loop-byte l = (l.all && list_all (λ b. nat_lt 32 b) (drop l.byte-index l.byte-items)) ≡ list_all (λ b. nat_lt 32 b) l.text
