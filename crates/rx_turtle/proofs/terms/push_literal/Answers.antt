use Rattle.rx_turtle.proofs.Common.{codes, refl, kind_seen, kind_suffix, adds_then, adds_by, behind_words, literal}
use Rattle.rx_turtle.proofs.TextLemmas.{string_ended}
use Rattle.rx_turtle.proofs.terms.push_literal.Goals as goal

pub returns : goal.returns
returns g c =
    adds_by (string_ended c.args.literal.now.lexical (kind_suffix c.args.shorts.now (kind_seen c.args.literal.now.kind)))
    (adds_then (behind_words (codes "\"") _ refl c.push_text.ensures.adds) (adds_then (literal (codes "\"") refl c.push.ensures) c.push_suffix.ensures))
