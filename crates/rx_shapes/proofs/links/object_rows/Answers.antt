use Rattle.rx_shapes.proofs.Common.{◌∙◌, ℕ, ap, arith, length, length-map, Triple, triple_seen, triples_seen, empty_rows, object_number, filed_in}
use Rattle.rx_shapes.proofs.RowLemmas.{filing, filing_start, filing_end}
use Rattle.rx_shapes.proofs.IndexLemmas.{seen_at}
use Rattle.rx_shapes.proofs.links.object_rows.Goals as goal

pub loop-i-init : goal.loop-i-init
loop-i-init c = c.in_ok-rows.ensures ∙ ap empty_rows c.len.ensures ∙ filing_start (λ (t : Triple ℕ). object_number c.args.index.now t.object) (length c.args.index.now)

pub loop-i-preserved : goal.loop-i-preserved
loop-i-preserved c = filing (λ (t : Triple ℕ). object_number c.args.index.now t.object) (triples_seen c.args.graph.now) c.loop-i.i (length c.args.index.now) (triple_seen c.at.result.now) c.loop-i.rows _
    (seen_at c.args.graph.now c.loop-i.i c.at.result.now c.at.ensures)
    (c.in_ok-file.ensures ∙ ap (λ o. filed_in c.loop-i.rows o c.loop-i.i) c.object_number.ensures) c.loop-i.invariant

pub returns : goal.returns
returns c = filing_end (λ (t : Triple ℕ). object_number c.args.index.now t.object) (triples_seen c.args.graph.now) c.loop-i.i (length c.args.index.now) c.loop-i.rows
    (omega (arith, c.loop-i-test.false, c.len-i-end.ensures.len, length-map c.args.graph.now triple_seen)) c.loop-i.invariant
