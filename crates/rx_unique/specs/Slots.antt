-- Slots for keys, by the low bits of their hashes.
use Rattle.std.specs.Prelude.{◌≡◌, ◌≢◌, ℕ, suc, ◌-◌, ◌<◌, ◌⊎◌, List, length, get_or, slice_get, Some, bit_and}

-- the place of a hash's slot
abbrev pub hash_slot : List ℕ → ℕ → ℕ
hash_slot slots hash = bit_and hash (length slots - 1)

-- what its slot says: nothing came to it (0), or more than the place of the key that came first
abbrev pub slot_mark : List ℕ → ℕ → ℕ
slot_mark slots hash = get_or slots (hash_slot slots hash) 0

-- the key at the place is one of the others
abbrev pub IsAmongOthers : List ℕ → ℕ → Type 0
IsAmongOthers others place = (j : ℕ) × (slice_get others j ≡ Some place)

-- the key of this hash at the place: its slot isn't free, and is its own, or the key is one of the others
pub record IsHeld (slots others : List ℕ) (hash place : ℕ) : Type 0 where
  pub taken : slot_mark slots hash ≢ 0
  pub own : (slot_mark slots hash ≡ suc place) ⊎ IsAmongOthers others place

-- the keys of these hashes, in the order of their places
pub record AreHeld (slots others hashes : List ℕ) : Type 0 where
  pub each : (place : ℕ) → place < length hashes → IsHeld slots others (get_or hashes place 0) place
