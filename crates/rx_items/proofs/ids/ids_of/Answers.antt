use Rattle.rx_items.proofs.Common.{◌∙◌, sym, look_in}
use Rattle.rx_items.proofs.IdLemmas.{looks_for, looks_for_none}
use Rattle.rx_items.proofs.ids.ids_of.Goals as goal

pub returns-then-not-refer : goal.returns-then-not-refer
returns-then-not-refer c gathered times ps shows n place row there span is = looks_for_none c.args.rows.now place row span there (sym c.refer.ensures ∙ c.if-not-refer.true) is

pub returns : goal.returns
returns c gathered times ps shows n = looks_for c.args.rows.now (look_in ps) c.first_ids.result (c.first_ids.ensures gathered times ps shows n)
