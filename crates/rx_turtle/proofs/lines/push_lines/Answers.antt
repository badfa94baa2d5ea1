use Rattle.rx_turtle.proofs.Common.{◌≡◌, map, length, arith, adds_then}
use Rattle.rx_turtle.specs.declared.keys.By.TheVariants as by
use Rattle.rx_turtle.proofs.GroupLemmas.{lent_seen}
use Rattle.rx_turtle.proofs.ArrangedLemmas.{seen_length}
use Rattle.rx_turtle.proofs.CutLemmas.{remains_start, remains_less, remains_none, lines_next, no_lines, none_left}
use Rattle.rx_turtle.proofs.lines.push_lines.Goals as goal

pub loop-at-init : goal.loop-at-init
loop-at-init g c = remains_start _ _

pub loop-at-preserved : goal.loop-at-preserved
loop-at-preserved g c =
    let size : length (map lent_seen c.args.triples.now) ≡ length c.args.triples.now = seen_length c.args.triples.now in
    remains_less _ _ c.loop-at.invariant
    (lines_next c.args.shorts.now (map lent_seen c.args.triples.now) c.loop-at.at c.push_next_line-at.result (omega (arith, size, c.loop-at-test.true)) c.push_next_line-at.ensures.more c.push_next_line-at.ensures.next)
    (adds_then c.push_unless_first.ensures c.push_next_line-at.ensures.text)

pub returns : goal.returns
returns g c =
    let size : length (map lent_seen c.args.triples.now) ≡ length c.args.triples.now = seen_length c.args.triples.now in
    remains_none c.loop-at.invariant (no_lines c.args.shorts.now c.loop-at.at _ (none_left by.Predicate (map lent_seen c.args.triples.now) c.loop-at.at (omega (arith, size, c.loop-at-test.false))))
