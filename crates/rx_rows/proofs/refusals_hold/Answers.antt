use Rattle.std.proofs.Common.{refl}
use Rattle.rx_rows.specs.Refused.{refused}
use Rattle.rx_rows.proofs.refusals_hold.Goals as goal

pub returns : goal.returns
unfolding refused
returns c = record { relative_vocabulary = refl; empty_vocabulary = refl; absolute_vocabulary = refl; html_literal = refl; xml_literal = refl; datatype_without_property = refl; vocabulary_first = refl; by_vocabulary = refl; other_prefix = refl }
