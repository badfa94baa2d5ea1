use Rattle.rx_terms.proofs.Common.{◌≤◌, ℕ, ◌^◌, ◌<◌, length, rules, arith, decimal, length-decimal-le}
use Rattle.rx_pieces.proofs.Adding.{labelled}
use Rattle.rx_pieces.proofs.labels.put_label.Goals as goal

-- the digits leave room for three bytes
few : (number : ℕ) → number < 2 ^ 64 → length (decimal number) ≤ 20
few number fits = length-decimal-le 20 number (omega arith) (omega (arith, fits)) fits

pub write_digits-start-requires : goal.write_digits-start-requires
write_digits-start-requires c = search (rules, length-decimal-le 20)

pub overflow_sub-text : goal.overflow_sub-text
overflow_sub-text c = omega (arith, c.write_digits-start.ensures.start, few c.args.number c.ranges.number.fits)

pub overflow_sub-text-2 : goal.overflow_sub-text-2
overflow_sub-text-2 c = omega (arith, c.write_digits-start.ensures.start, few c.args.number c.ranges.number.fits)

pub overflow_sub-text-3 : goal.overflow_sub-text-3
overflow_sub-text-3 c = omega (arith, c.write_digits-start.ensures.start, few c.args.number c.ranges.number.fits)

pub overflow_sub-result : goal.overflow_sub-result
overflow_sub-result c = omega (arith, c.write_digits-start.ensures.start, few c.args.number c.ranges.number.fits)

pub returns-clause-written : goal.returns-clause-written
returns-clause-written c =
    let w = c.write_digits-start in
    labelled w.new.text _ w.result (omega (arith, w.ensures.start, few c.args.number c.ranges.number.fits)) (omega (arith, w.ensures.start, c.requires)) w.ensures.written
