-- Numbers by which keys are found. Keys of one number may still be unlike.
use Rattle.std.specs.Prelude.{ℕ, List, fold}
use Rattle.std.specs.Hash.DefaultHasher as sip
use Rattle.std.specs.Hash.FoldHasher as folding

-- the SipHash of these writes
unfoldable pub hash_of : List (List ℕ) → ℕ
hash_of writes = sip.finish (fold sip.write sip.initial writes)

-- the quick hash of them
unfoldable pub quick_hash_of : List (List ℕ) → ℕ
quick_hash_of writes = folding.finish (fold folding.write folding.initial writes)
