use Rattle.std.proofs.Common.{◌∙◌, ap, fold}
use Rattle.std.specs.Hash.FoldHasher as folding
use Rattle.rx_unique.specs.Hashes.{quick_hash_of}
use Rattle.rx_unique.proofs.hashes.quick_hash_of.Goals as goal

pub returns : goal.returns
unfolding quick_hash_of
returns g c = c.finish.ensures ∙ ap folding.finish (c.hash.ensures ∙ ap (λ s. fold folding.write s (g.K.Hash.hash_input c.args.key.now)) c.default-hasher.ensures)
