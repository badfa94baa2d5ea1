use Rattle.rx_tags.proofs.TellLemmas.{whole_tells}
use Rattle.rx_tags.proofs.tag_buf.TagBuf.take_whole.Goals as goal

pub returns-clause-tells : goal.returns-clause-tells
returns-clause-tells c = λ some chars stands. whole_tells c.args.self.now c.read_whole.new.self c.args.bytes.now c.read_whole.result (c.read_whole.ensures.takes some) chars stands
