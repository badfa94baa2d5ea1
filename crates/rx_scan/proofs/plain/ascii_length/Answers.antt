use Rattle.rx_scan.proofs.Common.{arith, ends_ascii}
use Rattle.rx_tags.proofs.LaneLemmas.{run_fits, run_stops, run_through}
use Rattle.rx_scan.proofs.plain.ascii_length.Goals as goal

pub returns-then-found-ne0-clause-fits : goal.returns-then-found-ne0-clause-fits
returns-then-found-ne0-clause-fits c =
    let found = c.ascii_ends-found in
    run_fits ends_ascii c.args.bytes.now c.loop-count.count found.result found.ensures (omega arith) (omega arith)

pub returns-then-found-ne0-clause-plain : goal.returns-then-found-ne0-clause-plain
returns-then-found-ne0-clause-plain c =
    let found = c.ascii_ends-found in
    run_stops ends_ascii c.args.bytes.now c.loop-count.count found.result found.ensures (omega arith) c.loop-count.invariant.plain

pub loop-count-preserved : goal.loop-count-preserved
loop-count-preserved c =
    record { fits = omega arith; plain = run_through ends_ascii c.args.bytes.now c.loop-count.count c.loop-count.invariant.plain (omega (arith, c.ascii_ends-found.ensures)) }
