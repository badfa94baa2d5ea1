use Rattle.rx_grammar.proofs.Common.{◌∙◌, ap, sym, arith, meaning}
use Rattle.rx_scan.proofs.ReferenceLemmas.{body_is}
use Rattle.rx_scan.proofs.whole_references.other_reference.Goals as goal

pub returns-in-Some : goal.returns-in-Some
returns-in-Some c =
    body_is c.args.syntax c.args.behind.now c.body_length-count.result c.in-Some.c c.body_length-count.ensures.is (omega (arith, c.if-count-lt3.false)) (ap (meaning c.args.syntax) (sym c.in-Ok.ensures.cases.0) ∙ (sym c.meaning.ensures ∙ c.in-Some.is))
