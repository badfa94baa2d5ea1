-- Keys, each once.
use Rattle.std.specs.Prelude.{◌≡◌, ℕ, ◌<◌, ◌⊎◌, Bool, List, [], ◌∷◌, ◌++◌, map, length, get_or, if◌then◌else◌}
use Rattle.std.specs.List.{list_any, IsDistinct}
use Rattle.rx_unique.specs.Slots.{AreHeld}

-- the keys after one is put in: they stay where one is alike, and else it comes last
abbrev pub insert_key : {K : Type 0} → (K → K → Bool) → List K → K → List K
insert_key same keys key = if list_any (same key) keys then keys else keys ++ key ∷ []

-- those of the keys that stand at the places of `others`, with their numbers
pub record AreOthers {K : Type 0} (number : K → ℕ) (keys : List K) (others numbers : List ℕ) : Type 0 where
  pub count : length numbers ≡ length others
  pub inside : (j : ℕ) → j < length others → get_or others j 0 < length keys
  pub numbered : (j : ℕ) (default : K) → j < length others → get_or numbers j 0 ≡ number (get_or keys (get_or others j 0) default)

-- nothing came to those at `others` with their numbers, or the one at the place with this number
abbrev pub MayAdd : ℕ → ℕ → List ℕ → List ℕ → List ℕ → List ℕ → Type 0
MayAdd place number others numbers more_others more_numbers =
    ((more_others ≡ others) × (more_numbers ≡ numbers)) ⊎ ((more_others ≡ others ++ place ∷ []) × (more_numbers ≡ numbers ++ number ∷ []))

-- the keys with their quick hashes, the slots by these, and those that found their slot taken with their numbers
pub record AreKept {K : Type 0} (same : K → K → Bool) (quick number : K → ℕ) (keys : List K) (hashes slots others numbers : List ℕ) : Type 0 where
  pub once : IsDistinct same keys
  pub hashed : hashes ≡ map quick keys
  pub held : AreHeld slots others hashes
  pub apart : AreOthers number keys others numbers
