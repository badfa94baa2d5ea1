use Rattle.std.proofs.lemmas.Str.{chars-nil}
use Rattle.rx_tags.proofs.tag_name.TagName.clear.Goals as goal

pub returns : goal.returns
returns c = rw c.clear.ensures.items chars-nil
