use Rattle.std.proofs.Common.{◌∙◌, ℕ, ◌+◌, ◌*◌, ◌%◌, ◌^◌, length, ap}
use Rattle.rx_names.specs.Marks.{mark_bit}
use Rattle.rx_names.proofs.MarkLemmas.{mark_of_chars}
use Rattle.rx_names.proofs.attributes.mark_of.Goals as goal

pub returns-clause-bytes : goal.returns-clause-bytes
unfolding mark_bit
returns-clause-bytes c = ap (λ (f : ℕ). 1 * 2 ^ ((f + length c.args.name.now % 64 * 37) % 64) % 2 ^ 64) (c.from.ensures ∙ c.first_byte.ensures)

pub returns-clause-characters : goal.returns-clause-characters
returns-clause-characters c = returns-clause-bytes c ∙ mark_of_chars c.args.name.now c.utf8.name
