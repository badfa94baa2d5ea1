use Rattle.std.proofs.Common.{◌∙◌, sym}
use Rattle.rx_pieces.proofs.Adding.{adds_by, plain_text, none_escaped}
use Rattle.rx_pieces.proofs.escapes.push_escaped.Goals as goal

pub returns : goal.returns
returns g c = adds_by (sym (plain_text _ (none_escaped _ c.utf8.text (sym c.has_escaped.ensures ∙ c.if-has_escaped.false)))) c.push.ensures
