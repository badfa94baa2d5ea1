use Rattle.rx_terms.proofs.Common.{◌∙◌, ◌+◌, ◌-◌, ◌%◌, ◌≤◌, arith, length-set}
use Rattle.rx_pieces.proofs.Digits.{some, one_long, one_digit, one_longer, one_more}
use Rattle.rx_pieces.proofs.labels.+write_digits.Goals as goal

pub overflow_sub-place : goal.overflow_sub-place
overflow_sub-place t c = some c.args.number c.args.end c.ranges.number.fits c.requires.0

pub bounds-text-place : goal.bounds-text-place
bounds-text-place t c = let low = some c.args.number c.args.end c.ranges.number.fits c.requires.0 in omega (arith, low, c.requires.1)

pub returns-then-number-lt10-clause-start : goal.returns-then-number-lt10-clause-start
returns-then-number-lt10-clause-start t c = let one = one_long c.args.number (omega (arith, c.if-number-lt10.true)) in omega (arith, one, c.requires.0)

pub returns-then-number-lt10-clause-written : goal.returns-then-number-lt10-clause-written
returns-then-number-lt10-clause-written t c =
    one_digit c.args.text.now c.args.end c.args.number (omega (arith, c.if-number-lt10.true)) (some c.args.number c.args.end c.ranges.number.fits c.requires.0) c.requires.1

pub write_digits-requires : goal.write_digits-requires
write_digits-requires t c =
    let large : 10 ≤ c.args.number = omega (arith, c.if-number-lt10.false) in
    let longer = one_longer c.args.number large c.ranges.number.fits in
    let same = length-set c.args.text.now (c.args.end - 1) (48 + c.args.number % 10) in
    (omega (arith, large, c.decreases), (omega (arith, longer, c.requires.0), omega (arith, same, c.requires.1)))

pub returns-clause-start : goal.returns-clause-start
returns-clause-start t c =
    let large : 10 ≤ c.args.number = omega (arith, c.if-number-lt10.false) in
    let longer = one_longer c.args.number large c.ranges.number.fits in
    omega (arith, longer, c.write_digits.ensures.start, c.requires.0)

pub returns-clause-written : goal.returns-clause-written
returns-clause-written t c =
    c.write_digits.ensures.written
    ∙ one_more c.args.text.now c.args.end c.args.number (omega (arith, c.if-number-lt10.false)) c.ranges.number.fits (some c.args.number c.args.end c.ranges.number.fits c.requires.0) c.requires.1
