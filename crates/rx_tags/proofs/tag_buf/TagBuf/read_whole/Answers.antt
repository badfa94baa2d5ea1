use Rattle.rx_tags.proofs.TagLemmas.{whole_buf}
use Rattle.rx_tags.proofs.tag_buf.TagBuf.read_whole.Goals as goal

pub returns-clause-takes : goal.returns-clause-takes
returns-clause-takes c =
    rw (← c.self.view_is)
    (λ some. whole_buf c.self.inside.text c.take_tag.new.self c.self.inside.refused c.args.bytes.now c.take_tag.result c.take_tag.ensures.syntax (c.take_tag.ensures.takes some))
