use Rattle.rx_shapes.proofs.Common.{◌∙◌, suc, ap, arith, length, slice_get-get_or, source_row, filed_in}
use Rattle.rx_shapes.proofs.RowLemmas.{filing, filing_end, one_row_more}
use Rattle.rx_shapes.proofs.chains.sources.Goals as goal

pub loop-i-init : goal.loop-i-init
loop-i-init c = one_row_more (source_row (length c.args.links.now)) (length c.args.links.now) _ _ c.in_ok-rows.ensures c.in_ok-add.ensures

pub loop-i-preserved : goal.loop-i-preserved
loop-i-preserved c = filing (source_row (length c.args.links.now)) c.args.links.now c.loop-i.i (suc (length c.args.links.now)) _ c.loop-i.rows _
    (slice_get-get_or c.args.links.now c.loop-i.i _ c.loop-i-test.true)
    (c.in_ok-file.ensures ∙ ap (λ o. filed_in c.loop-i.rows o c.loop-i.i) c.source_row.ensures) c.loop-i.invariant

pub returns : goal.returns
returns c = filing_end (source_row (length c.args.links.now)) c.args.links.now c.loop-i.i (suc (length c.args.links.now)) c.loop-i.rows (omega (arith, c.loop-i-test.false)) c.loop-i.invariant
