-- Marks of names, by which most names that a tag doesn't have are told at once.
use Rattle.std.specs.Prelude.{◌≡◌, ℕ, ◌+◌, ◌*◌, ◌%◌, ◌^◌, ◌==◌, Bool, false, List, [], None, length, get_or, bit_and}
use Rattle.rx_rdfa.specs.Common.{flat_map, encode_utf8_all, Chars, value_of_first, xmlns_of}

-- one of 64 bits, by the length in bytes and the first byte
unfoldable pub mark_bit : List ℕ → ℕ
mark_bit bytes = (1 * 2 ^ ((get_or bytes 0 0 + length bytes % 64 * 37) % 64)) % 2 ^ 64

abbrev pub name_mark : Chars → ℕ
name_mark name = mark_bit (encode_utf8_all name)

abbrev pub has_mark : ℕ → Chars → Bool
has_mark marks name = bit_and marks (name_mark name) == name_mark name

-- a name whose mark isn't there is none of the attributes' names
abbrev pub MarksNames : ℕ → List (Chars × Chars) → Type 0
MarksNames marks attributes = (name : Chars) → has_mark marks name ≡ false → value_of_first attributes name ≡ None

-- names whose marks aren't there are none of the attributes' names, and where that is said no attribute declares a prefix
pub record AreMarked (marks : ℕ) (namespaces : Bool) (attributes : List (Chars × Chars)) : Type 0 where
  pub marked : MarksNames marks attributes
  pub none : namespaces ≡ false → flat_map xmlns_of attributes ≡ []
