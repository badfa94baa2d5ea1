use Rattle.rx_terms.proofs.Common.{◌∙◌, ◌++◌, sym, ap, bytes_eq, chars}
use Rattle.rx_curie.proofs.WordLemmas.{same-behind, no-front}
use Rattle.rx_curie.proofs.comparisons.are_text.Goals as goal

pub returns-in-Some : goal.returns-in-Some
returns-in-Some c =
    c.is_same.ensures ∙ (sym (same-behind (chars c.args.front.now) (chars c.args.more.now) (chars c.in-Some.rest.now))
    ∙ ap (bytes_eq (chars c.args.front.now ++ chars c.args.more.now)) (sym c.in-Some.ensures))

pub returns-in-None : goal.returns-in-None
returns-in-None c = sym (no-front (chars c.args.front.now) (chars c.args.more.now) (chars c.args.text.now) c.in-None.ensures)
