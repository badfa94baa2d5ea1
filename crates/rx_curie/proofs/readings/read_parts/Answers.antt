use Rattle.std.specs.Str.{chars}
use Rattle.rx_names.specs.Views.{names_seen}
use Rattle.rx_curie.proofs.ReadLemmas.{empty-prefix, xhtml-scheme}
use Rattle.rx_curie.proofs.readings.read_parts.Goals as goal

pub returns-then-is_empty-clause-line : goal.returns-then-is_empty-clause-line
returns-then-is_empty-clause-line c = λ line stands.
    empty-prefix (names_seen c.args.names.now).context line (chars c.args.prefix.now) (chars c.args.reference.now) c.is_empty.result c.is_empty.ensures c.if-is_empty.true

pub returns-then-is_empty-clause-absolute : goal.returns-then-is_empty-clause-absolute
returns-then-is_empty-clause-absolute c = xhtml-scheme
