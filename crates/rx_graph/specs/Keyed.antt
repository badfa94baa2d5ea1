-- What a hasher that begins with a key computes.
use Rattle.std.specs.Prelude.{ℕ, List, [], ◌∷◌, length, nat_lt, if◌then◌else◌}
use Rattle.std.specs.Hash as fed
use Rattle.std.specs.Hash.DefaultHasher as sip

-- what is longer than eight bytes is written as its SipHash
unfoldable pub shortened : List ℕ → List (List ℕ)
shortened bytes = if nat_lt 8 (length bytes) then fed.u64 (sip.finish (sip.write sip.initial bytes)) else bytes ∷ []
