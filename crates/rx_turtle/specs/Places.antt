-- An index of the prefixes by IRI.
use Rattle.std.specs.Prelude.{◌≡◌, ℕ, ◌-◌, ◌<◌, true, false, nat_eq, List, length, get_or, Option, Some, if◌then◌else◌}
use Rattle.rx_terms.specs.Common.{pointwise, slice_cmp, nat_cmp, get_by}
use Rattle.rx_notation.specs.Short.{Prefix, Prefixes, is_name_char}
use Rattle.rx_turtle.specs.declared.places.Places.{Places}
use Rattle.rx_turtle.specs.Shorts.{stands_for, place_from}
use Rattle.rx_turtle.specs.Slots.{SlotsTell}

-- what the index has for the bytes
abbrev pub indexed_place : Places → List ℕ → Option ℕ
indexed_place places bytes = get_by (λ iri. slice_cmp nat_cmp bytes iri.now) places.by_iri

-- What is found has a length that the index knows, its slot tells no other place, and it ends with a byte that isn't plain.
-- Plain bytes are characters of names.
pub record Knows (places : Places) : Type 0 where
  pub length_of : (bytes : List ℕ) (place : ℕ) → indexed_place places bytes ≡ Some place → get_or places.lengths (length bytes) false ≡ true
  pub told : SlotsTell places.slots (indexed_place places)
  pub ends : (bytes : List ℕ) (place : ℕ) → indexed_place places bytes ≡ Some place → 0 < length bytes
      → get_or places.plain (get_or bytes (length bytes - 1) 0) false ≡ false
  pub names : (byte : ℕ) → get_or places.plain byte false ≡ true → is_name_char byte ≡ true

-- new is old with a place for these bytes
pub record PutsBytes (iri : List ℕ) (place : ℕ) (old new : Places) : Type 0 where
  pub each : (bytes : List ℕ) → indexed_place new bytes ≡ (if pointwise nat_eq iri bytes then Some place else indexed_place old bytes)
  pub known : Knows old → Knows new

-- new is old with the place of a prefix, where it has a name that can be written
pub record PutsPrefix (prefix : Prefix) (place : ℕ) (old new : Places) : Type 0 where
  pub each : (bytes : List ℕ) → indexed_place new bytes ≡ (if stands_for bytes prefix then Some place else indexed_place old bytes)
  pub known : Knows old → Knows new

-- the index has the places, counted from one on, of these prefixes
pub record Finds (place : ℕ) (context : Prefixes) (places : Places) : Type 0 where
  pub each : (bytes : List ℕ) → indexed_place places bytes ≡ place_from place context bytes
  pub known : Knows places
