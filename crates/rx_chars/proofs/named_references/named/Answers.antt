use Rattle.std.proofs.Common.{◌∙◌, map, refl}
use Rattle.rx_chars.specs.Named.{named_table}
use Rattle.rx_chars.specs.declared.named_references.TheConstants.{NAMES}
use Rattle.rx_chars.proofs.NamedLemmas.{same_rows}
use Rattle.rx_chars.proofs.named_references.named.Goals as goal

-- the two tables have the same rows, by computation
pub returns : goal.returns
unfolding named_table
returns c = c.search.ensures ∙ same_rows (map (λ row. (row.0.now, row.1)) NAMES) named_table c.args.name.now refl refl
