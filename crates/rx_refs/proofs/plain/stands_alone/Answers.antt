use Rattle.rx_refs.proofs.ByteLemmas.{whole-chars}
use Rattle.rx_refs.proofs.plain.stands_alone.Goals as goal

pub returns : goal.returns
returns c = whole-chars c.args.reference.now c.as_bytes.result.now c.is_whole.result c.as_bytes.ensures.value c.utf8.reference c.is_whole.ensures
