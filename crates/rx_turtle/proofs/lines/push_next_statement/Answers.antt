use Rattle.rx_turtle.proofs.Common.{sym, ap, resource_seen, adds_by, first_statement}
use Rattle.rx_turtle.specs.declared.keys.By.TheVariants as by
use Rattle.rx_turtle.proofs.CutLemmas.{here_runs, later_runs}
use Rattle.rx_turtle.proofs.lines.push_next_statement.Goals as goal

pub returns-clause-text : goal.returns-clause-text
returns-clause-text g c =
    adds_by
    (sym
    (ap (first_statement c.args.shorts.now)
    (here_runs by.Subject c.args.triples.now c.args.at c.split_at.result.1.now c.in-Some.part.triples.now c.in-Some.part.rest.now (resource_seen c.in-Some.part.key) c.split_at.ensures.back c.in-Some.ensures.runs)))
    c.push_statement.ensures

pub returns-clause-next : goal.returns-clause-next
returns-clause-next g c =
    later_runs by.Subject c.args.triples.now c.args.at c.split_at.result.1.now c.in-Some.part.triples.now c.in-Some.part.rest.now (resource_seen c.in-Some.part.key) c.split_at.ensures.back c.in-Some.ensures.runs
    c.place_before.result c.place_before.ensures
