use Rattle.rx_terms.proofs.Common.{◌≡◌, ℕ, ◌+◌, true, arith, refl, subst, take, list_all}
use lib.Count.{count_trailing_zeros}
use Rattle.rx_tags.specs.Fronts.{is_small}
use Rattle.rx_tags.specs.Lanes.{ends_small}
use Rattle.rx_tags.proofs.LaneLemmas.{meets, run_fits, run_stops, run_through}
use Rattle.rx_tags.proofs.fronts.small_length.Goals as goal

pub returns-then-found-eq0-clause-small : goal.returns-then-found-eq0-clause-small
returns-then-found-eq0-clause-small c =
    meets is_small (take 16 c.args.bytes.now) (run_through ends_small c.args.bytes.now 0 refl (omega (arith, c.ends_small-found.ensures)))

pub returns-clause-fits : goal.returns-clause-fits
returns-clause-fits c =
    let found = c.ends_small-found in
    let fits = run_fits ends_small c.args.bytes.now 0 found.result found.ensures (omega arith) (omega arith) in
    omega (arith, fits)

pub returns-clause-small : goal.returns-clause-small
returns-clause-small c =
    let found = c.ends_small-found in
    let bytes = c.args.bytes.now in
    let count = count_trailing_zeros 64 found.result in
    let front = meets is_small (take (0 + count) bytes) (run_stops ends_small bytes 0 found.result found.ensures (omega arith) refl) in
    subst (λ (n : ℕ). list_all is_small (take n bytes) ≡ true) (omega arith) front
