use Rattle.rx_nest.proofs.Meanings.{refused_tags_are_last as law}
use Rattle.rx_nest.proofs.refused_tags_are_last.Goals as goal

pub returns : goal.returns
returns c = law
