use Rattle.rx_names.proofs.LineLemmas.{none_is_pushed, pushed_stands}
use Rattle.rx_names.proofs.names.Names.push_of.Goals as goal

pub returns-clause-ok : goal.returns-clause-ok
returns-clause-ok c = none_is_pushed c.push_none.result c.args.self.now c.push_none.new.self c.args.attributes.now (c.may_declare.ensures c.if-may_declare.false) c.push_none.ensures.ok

pub returns-clause-line : goal.returns-clause-line
returns-clause-line c = pushed_stands c.push_none.result c.args.self.now c.push_none.new.self c.args.attributes.now (returns-clause-ok c)
