use Rattle.rx_tags.proofs.TellLemmas.{tells, answers}
use Rattle.rx_tags.proofs.tag_buf.TagBuf.step.Goals as goal

pub returns-clause-tells : goal.returns-clause-tells
returns-clause-tells c = λ chars stands. tells c.args.self.now c.read.new.self c.args.c c.read.result c.read.ensures chars stands

pub returns-clause-answers : goal.returns-clause-answers
returns-clause-answers c = λ chars stands. answers c.args.self.now c.read.new.self c.args.c c.read.result c.read.ensures chars stands
