use Rattle.std.proofs.Common.{arith}
use Rattle.rx_tags.proofs.TagLemmas.{bare_behind, list_behind}
use Rattle.rx_tags.proofs.pairs.Pairs.take_behind.Goals as goal

pub returns-then-bytes-count-eq62-clause-takes : goal.returns-then-bytes-count-eq62-clause-takes
returns-then-bytes-count-eq62-clause-takes c = λ _. bare_behind c.args.bytes.now c.args.count c.args.self.now c.requires.none (record { fits = c.requires.fits; closes = c.if-bytes-count-eq62.true })

pub returns-clause-takes : goal.returns-clause-takes
returns-clause-takes c =
    λ _. list_behind c.args.bytes.now c.args.count c.take_list-end.result c.take_list-end.new.self c.requires.fits c.if-bytes-count-ne32.false
    (c.take_list-end.ensures.takes (omega (arith, c.if-end-eq0.false)))
