use Rattle.rx_many.proofs.Common.{◌∙◌, ap, insert_key}
use Rattle.rx_many.proofs.NameLemmas.{iri_eq, noted_once, noted_again}
use Rattle.rx_many.proofs.names.Names.add.Goals as goal

pub returns-then-branch : goal.returns-then-branch
returns-then-branch c =
    noted_once c.args.self.now.seen c.args.self.now.shared c.insert.new.self c.args.name c.in_ok-insert.field-0 c.in_ok-insert.ensures.keys c.in_ok-insert.ensures.added c.if-branch.true

pub returns : goal.returns
returns c =
    noted_again c.args.self.now.seen c.args.self.now.shared c.insert.new.self c.insert-2.new.self c.args.name c.in_ok-insert.ensures.keys
    (c.in_ok-insert-2.ensures.keys ∙ ap (insert_key iri_eq c.args.self.now.shared) c.in_ok-again.ensures)
