use Rattle.rx_terms.proofs.Common.{◌≡◌, ℕ, ◌+◌, List, true, take, drop, sym, subst, list_all, take_rest, is_ascii}
use Rattle.rx_tags.proofs.TakeLemmas.{plain_ascii, small_ascii}
use Rattle.rx_tags.proofs.pairs.Pairs.add_whole.Goals as goal

pub add_ascii-requires-clause-name : goal.add_ascii-requires-clause-name
add_ascii-requires-clause-name c = small_ascii (take c.args.name c.args.bytes.now) c.requires.whole.small

pub add_ascii-requires-clause-value : goal.add_ascii-requires-clause-value
add_ascii-requires-clause-value c =
    subst (λ (x : List ℕ). list_all is_ascii (take c.args.value x) ≡ true) (sym (take_rest c.args.bytes.now (c.args.name + 2))) (plain_ascii (take c.args.value (drop (c.args.name + 2) c.args.bytes.now)) c.requires.whole.plain)
