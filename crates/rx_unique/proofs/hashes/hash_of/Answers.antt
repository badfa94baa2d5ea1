use Rattle.std.proofs.Common.{◌∙◌, ap, fold}
use Rattle.std.specs.Hash.DefaultHasher as sip
use Rattle.rx_unique.specs.Hashes.{hash_of}
use Rattle.rx_unique.proofs.hashes.hash_of.Goals as goal

pub returns : goal.returns
unfolding hash_of
returns g c = c.finish.ensures ∙ ap sip.finish (c.hash.ensures ∙ ap (λ s. fold sip.write s (g.K.Hash.hash_input c.args.key.now)) c.new-hasher.ensures)
