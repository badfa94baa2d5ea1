use Rattle.rx_tags.proofs.TakeLemmas.{may_step, none_same}
use Rattle.rx_tags.proofs.TellLemmas.{front_tells}
use Rattle.rx_tags.proofs.tag_buf.TagBuf.take_front.Goals as goal

pub returns-clause-none : goal.returns-clause-none
returns-clause-none c = λ z. none_same c.args.self.now c.read_front.new.self c.args.bytes.now c.read_front.result c.read_front.ensures z

pub returns-clause-may_step : goal.returns-clause-may_step
returns-clause-may_step c = may_step c.args.self.now c.read_front.new.self c.args.bytes.now c.read_front.result c.read_front.ensures c.requires

pub returns-clause-tells : goal.returns-clause-tells
returns-clause-tells c = λ chars stands. front_tells c.args.self.now c.read_front.new.self c.args.bytes.now c.read_front.result c.read_front.ensures chars stands
