use Rattle.std.proofs.Common.{refl}
use Rattle.rx_rows.specs.Forms.{has_form, has_none}
use Rattle.rx_rows.proofs.forms_hold.Goals as goal

pub returns : goal.returns
unfolding has_form has_none
returns c = record { forms_have_datatypes = refl; others_have_none = refl }
