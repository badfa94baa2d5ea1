-- What a number of a text tells of the IRIs that prefixes stand for.
use Rattle.std.specs.Prelude.{◌≡◌, ℕ, ◌+◌, ◌-◌, ◌*◌, nat_lt, nat_eq, List, length, get_or, Option, Some, None, bit_and, if◌then◌else◌}
use Rattle.rx_terms.specs.Common.{pointwise, Bor}
use Rattle.rx_turtle.specs.declared.slots.Slot.{Slot}
use Rattle.rx_turtle.specs.declared.slots.Slot.TheVariants.{Free, One, Many}

-- a number of the text
abbrev pub iri_hash : List ℕ → ℕ
iri_hash bytes =
    let size = length bytes in
    if nat_lt size 8 then size else size + 127 * get_or bytes (size - 3) 0 + 31 * get_or bytes (size - 5) 0 + 1021 * get_or bytes (size - 8) 0

-- the place of the slot of the text
abbrev pub text_slot : List Slot → List ℕ → ℕ
text_slot slots bytes = bit_and (iri_hash bytes) (length slots - 1)

-- the place that is found for the bytes, where the slot tells
abbrev pub told_by : Slot → List ℕ → Option (Option ℕ)
told_by Free bytes = Some None
told_by (One iri place) bytes = Some (if pointwise nat_eq iri.now bytes then Some place else None)
told_by Many bytes = None

abbrev pub told_place : List Slot → List ℕ → Option (Option ℕ)
told_place slots bytes = told_by (get_or slots (text_slot slots bytes) Many) bytes

-- the slot with an IRI more
abbrev pub with_iri : Slot → Bor (List ℕ) → ℕ → Slot
with_iri Free iri place = One iri place
with_iri (One other first) iri place = if pointwise nat_eq other.now iri.now then One iri place else Many
with_iri Many iri place = Many

-- what is found, once a place is put in for these bytes
abbrev pub found_with : List ℕ → ℕ → (List ℕ → Option ℕ) → List ℕ → Option ℕ
found_with iri place found bytes = if pointwise nat_eq iri bytes then Some place else found bytes

-- what is told is so
abbrev pub IsSo : Option (Option ℕ) → Option ℕ → Type 0
IsSo None place = Unit {0}
IsSo (Some told_place) place = told_place ≡ place

-- the slots tell nothing else than what is found for bytes
pub record SlotsTell (slots : List Slot) (found : List ℕ → Option ℕ) : Type 0 where
  pub each : (bytes : List ℕ) → IsSo (told_place slots bytes) (found bytes)
