use Rattle.std.proofs.lemmas.Str.{chars-nil}
use Rattle.rx_tags.proofs.tag_name.TagName.new.Goals as goal

pub returns : goal.returns
returns c = rw c.new.ensures.items chars-nil
