use Rattle.std.proofs.Common.{◌∙◌, ap₂}
use Rattle.std.specs.Hash.DefaultHasher as sip
use Rattle.rx_terms.proofs.NumberLemmas.{all-bytes}
use Rattle.rx_terms.proofs.iris.number_of.Goals as goal

pub returns : goal.returns
returns c = c.finish.ensures ∙ all-bytes c.args.text.now c.write.new.self c.utf8.text (c.write.ensures ∙ ap₂ sip.write c.new-hasher.ensures c.as_bytes.ensures.value)
