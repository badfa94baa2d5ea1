use Rattle.rx_turtle.proofs.Common.{◌∙◌, sym, map, resource_seen}
use Rattle.rx_turtle.proofs.GroupLemmas.{lent_seen}
use Rattle.rx_turtle.proofs.RunLemmas.{pushed_cells, says_statement}
use Rattle.rx_turtle.proofs.nesting.state.Goals as goal

pub run-requires-clause-cells : goal.run-requires-clause-cells
run-requires-clause-cells c =
    pushed_cells c.args.source.now (resource_seen c.args.subject) (map lent_seen c.args.triples.now) c.requires.subject c.push_statement.new.stack c.args.stack.now c.requires.stack c.in_ok-push_statement.ensures

pub returns-clause-says : goal.returns-clause-says
returns-clause-says c =
    says_statement c.args.source.now (resource_seen c.args.subject) (map lent_seen c.args.triples.now) c.requires.subject c.push_statement.new.stack c.args.stack.now c.args.tokens.now.items
    c.run.new.tokens.items c.requires.stack c.in_ok-push_statement.ensures (sym c.is_top.ensures ∙ c.if-not-is_top.false) c.in_ok-run.ensures.comes
