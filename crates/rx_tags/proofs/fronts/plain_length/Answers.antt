use Rattle.std.proofs.Common.{◌+◌, arith, take}
use lib.Count.{count_trailing_zeros}
use Rattle.rx_tags.specs.Fronts.{plain_in_quotes}
use Rattle.rx_tags.specs.Lanes.{ends_plain}
use Rattle.rx_tags.proofs.LaneLemmas.{meets, run_fits, run_stops, run_through}
use Rattle.rx_tags.proofs.fronts.plain_length.Goals as goal

pub returns-then-found-ne0-clause-fits : goal.returns-then-found-ne0-clause-fits
returns-then-found-ne0-clause-fits c =
    let found = c.ends_plain-found in
    run_fits ends_plain c.args.bytes.now c.loop-count.count found.result found.ensures (omega arith) (omega arith)

pub returns-then-found-ne0-clause-plain : goal.returns-then-found-ne0-clause-plain
returns-then-found-ne0-clause-plain c =
    let found = c.ends_plain-found in
    meets plain_in_quotes (take (c.loop-count.count + count_trailing_zeros 64 found.result) c.args.bytes.now) (run_stops ends_plain c.args.bytes.now c.loop-count.count found.result found.ensures (omega arith) c.loop-count.invariant.plain)

pub loop-count-preserved : goal.loop-count-preserved
loop-count-preserved c =
    record { fits = omega arith; plain = run_through ends_plain c.args.bytes.now c.loop-count.count c.loop-count.invariant.plain (omega (arith, c.ends_plain-found.ensures)) }

pub plain_slowly-requires-clause-plain : goal.plain_slowly-requires-clause-plain
plain_slowly-requires-clause-plain c = meets plain_in_quotes (take c.loop-count.count c.args.bytes.now) c.loop-count.invariant.plain
