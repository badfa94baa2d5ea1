-- How the prefix of an IRI's short form is found: by the characters at its end, which are those of a local name.
use Rattle.std.specs.Prelude.{◌≡◌, ◌<◌, ◌≤◌, ◌-◌, ℕ, zero, suc, Bool, ◌&&◌, ◌||◌, ◌==◌, nat_eq, List, [], ◌∷◌, take, length, get_or, Option, Some, None, MatchOption, slice_get, encode_utf8_all, if◌then◌else◌}
use Rattle.rx_terms.specs.Common.{pointwise, option_or, is_letter, low_line, Chars}
use Rattle.rx_notation.specs.Short.{Prefix, Prefixes, is_name_char, is_prefix_name, local_name, prefix_of}

-- what begins a local name
abbrev pub begins_local : ℕ → Bool
begins_local c = is_letter c || c == low_line

-- the prefix has a name that can be written, and its IRI has these bytes
abbrev pub stands_for : List ℕ → Prefix → Bool
stands_for bytes prefix = is_prefix_name prefix.0 && pointwise nat_eq (encode_utf8_all prefix.1) bytes

-- the place, counted from one on, of the first prefix that stands for the bytes
abbrev pub place_from : ℕ → Prefixes → List ℕ → Option ℕ
place_from place [] bytes = None
place_from place (prefix ∷ more) bytes = if stands_for bytes prefix then Some place else place_from (suc place) more bytes

-- the place of the prefix that stands for the first n bytes, where the others can be a local name
abbrev pub place_at : Prefixes → List ℕ → ℕ → Option ℕ
place_at context bytes n = if begins_local (get_or bytes n 0) then place_from 0 context (take n bytes) else None

-- no prefix's IRI ends with the byte
abbrev pub EndsNone : Prefixes → ℕ → Type 0
EndsNone context byte =
    (bytes : List ℕ) (n : ℕ) → 0 < n → n ≤ length bytes → get_or bytes (n - 1) 0 ≡ byte → place_at context bytes n ≡ None

-- the place of the prefix with the longest IRI that has at most n - 1 of the bytes
abbrev pub place_below : Prefixes → List ℕ → ℕ → Option ℕ
place_below context bytes zero = None
place_below context bytes (suc n) = if is_name_char (get_or bytes n 0) then option_or (place_at context bytes n) (place_below context bytes n) else None

-- the place of the prefix of the IRI's short form
abbrev pub prefix_place : Prefixes → Chars → Option ℕ
prefix_place context iri = place_below context (encode_utf8_all iri) (length (encode_utf8_all iri))

-- the place has what is said to be there, or both are nothing
abbrev pub IsPlace : Prefixes → Option Prefix → Option ℕ → Type 0
IsPlace context prefix place = MatchOption place (prefix ≡ None) (λ i. (found : Prefix) × (slice_get context i ≡ Some found) × (prefix ≡ Some found))

-- the short form of the IRI: the prefix's name, and the bytes of the local name
pub record IsPrefixedName (context : Prefixes) (iri name : Chars) (local : List ℕ) : Type 0 where
  pub prefix : Prefix
  pub found : prefix_of context iri ≡ Some prefix
  pub named : name ≡ prefix.0
  pub rest : local ≡ encode_utf8_all (local_name prefix iri)
