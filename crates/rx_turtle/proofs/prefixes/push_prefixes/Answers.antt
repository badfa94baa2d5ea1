use Rattle.rx_turtle.proofs.Common.{◌∙◌, codes, refl, sym, literal}
use Rattle.rx_turtle.proofs.LineLemmas.{lines_ended, no_lines}
use Rattle.rx_turtle.proofs.prefixes.push_prefixes.Goals as goal

pub returns-then-has_mark : goal.returns-then-has_mark
returns-then-has_mark g c =
    lines_ended c.args.marks.now c.args.shorts.now c.requires (sym c.has_mark.ensures ∙ c.if-has_mark.true) c.push_prefix_lines.ensures (literal (codes "\n") refl c.push.ensures)

pub returns-else-has_mark : goal.returns-else-has_mark
returns-else-has_mark g c = no_lines c.args.marks.now c.args.shorts.now (sym c.has_mark.ensures ∙ c.if-has_mark.false) c.push_prefix_lines.ensures
