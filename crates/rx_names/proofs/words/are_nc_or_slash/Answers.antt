use Rattle.std.proofs.Common.{◌∙◌, sym}
use Rattle.rx_names.proofs.WordLemmas.{bytes_stand}
use Rattle.rx_names.proofs.words.are_nc_or_slash.Goals as goal

pub returns-then-are_term_bytes : goal.returns-then-are_term_bytes
returns-then-are_term_bytes c = sym (bytes_stand _ (sym c.are_term_bytes.ensures ∙ c.if-are_term_bytes.true))
