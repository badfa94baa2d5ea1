use Rattle.rx_values.proofs.DigitLemmas.{digits_at}
use Rattle.rx_values.proofs.readers.split_digits.Goals as goal

pub returns-clause-digits : goal.returns-clause-digits
returns-clause-digits c = (digits_at c.args.text.now _ c.count_digits-count.ensures).front

pub returns-clause-rest : goal.returns-clause-rest
returns-clause-rest c = (digits_at c.args.text.now _ c.count_digits-count.ensures).rest
