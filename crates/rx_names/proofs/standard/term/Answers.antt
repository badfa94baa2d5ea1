use Rattle.rx_names.proofs.Common.{◌≡◌, ◌∙◌, true, refl, sym, ap, option_or, lowered, seen_slice, table_value, folded}
use Rattle.std.specs.Str.{chars}
use lib.Utf8.{encode}
use Rattle.rx_names.specs.Contexts.{standard_tables}
use Rattle.rx_names.specs.Given.{are_lowered}
use Rattle.rx_names.proofs.GivenLemmas.{lowered-tells}
use Rattle.rx_names.proofs.PutLemmas.{folded-value}
use Rattle.rx_names.proofs.standard.term.Goals as goal

pub find_lowered-requires : goal.find_lowered-requires
unfolding chars encode
find_lowered-requires c = refl

lowered_already : are_lowered standard_tables.terms ≡ true
unfolding standard_tables
lowered_already = refl

folded_already : folded standard_tables.terms ≡ standard_tables.terms
unfolding standard_tables encode
folded_already = refl

-- the rows of the code are the definition's, by computation
looked_up : (c : goal.After-find_lowered) → seen_slice c.find_lowered.result ≡ table_value (lowered (chars c.args.name.now)) standard_tables.terms
unfolding chars standard_tables
looked_up c = c.find_lowered.ensures.value

pub returns-clause-value : goal.returns-clause-value
returns-clause-value c =
    let name = chars c.args.name.now in
    let terms = standard_tables.terms in
    let same = ap (table_value (lowered name)) (sym folded_already) ∙ folded-value terms (lowered name) in
    looked_up c ∙ sym (lowered-tells name terms lowered_already) ∙ ap (option_or (table_value name terms)) same
