use Rattle.rx_turtle.proofs.Common.{◌∙◌, ◌≡◌, drop, map, length, sym, ap, arith, runs, statements_text}
use Rattle.rx_turtle.specs.declared.keys.By.TheVariants as by
use Rattle.rx_turtle.proofs.GroupLemmas.{lent_seen}
use Rattle.rx_turtle.proofs.ArrangedLemmas.{seen_length}
use Rattle.rx_turtle.proofs.CutLemmas.{remains_start, remains_less, remains_failed, remains_none, statements_next, none_left}
use Rattle.rx_turtle.proofs.lines.push_statements.Goals as goal

pub loop-at-init : goal.loop-at-init
loop-at-init g c = remains_start _ _

pub returns-then-has_failed : goal.returns-then-has_failed
returns-then-has_failed g c = remains_failed c.loop-at.invariant (sym c.has_failed.ensures ∙ c.if-has_failed.true)

pub loop-at-preserved : goal.loop-at-preserved
loop-at-preserved g c =
    remains_less _ _ c.loop-at.invariant
    (statements_next c.args.shorts.now (runs by.Subject (drop c.loop-at.at (map lent_seen c.args.triples.now))) (runs by.Subject (drop c.push_next_statement-at.result (map lent_seen c.args.triples.now))) c.push_next_statement-at.ensures.next)
    c.push_next_statement-at.ensures.text

pub returns : goal.returns
returns g c =
    let size : length (map lent_seen c.args.triples.now) ≡ length c.args.triples.now = seen_length c.args.triples.now in
    remains_none c.loop-at.invariant (ap (statements_text c.args.shorts.now) (none_left by.Subject (map lent_seen c.args.triples.now) c.loop-at.at (omega (arith, size, c.loop-at-test.false))))
