-- Well-formed UTF-8, as the Unicode Standard defines it (section 3.9, UTF-8 encoding form, Tables 3-6 and 3-7).
use Rattle.std.specs.Prelude.{◌≡◌, ◌≢◌, ◌↔◌, ℕ, ◌+◌, ◌-◌, ◌*◌, Bool, true, false, ◌&&◌, nat_le, List, [], ◌∷◌, ◌++◌, encode_utf8, if◌then◌else◌}
use Rattle.std.specs.List.{list_any}
use Rattle.std.specs.Char.{IsScalar}
use Rattle.rx_chars.specs.declared.utf8.Utf8Step.{Utf8Step}
use Rattle.rx_chars.specs.declared.utf8.Utf8Step.TheVariants.{More, Char, Bad}

-- the bytes from a lowest to a highest one, both included
abbrev pub Range : Type 0
Range = ℕ × ℕ

abbrev pub is_in : Range → ℕ → Bool
is_in range byte = nat_le range.0 byte && nat_le byte range.1

-- the continuation bytes
abbrev pub tail : Range
tail = (0x80, 0xBF)

-- Table 3-7, Well-Formed UTF-8 Byte Sequences: the bytes that may stand first, second, third and fourth
abbrev pub well_formed_rows : List (List Range)
well_formed_rows =
    ((0x00, 0x7F) ∷ [])  -- U+0000 to U+007F
    ∷ ((0xC2, 0xDF) ∷ tail ∷ [])  -- U+0080 to U+07FF
    ∷ ((0xE0, 0xE0) ∷ (0xA0, 0xBF) ∷ tail ∷ [])  -- U+0800 to U+0FFF
    ∷ ((0xE1, 0xEC) ∷ tail ∷ tail ∷ [])  -- U+1000 to U+CFFF
    ∷ ((0xED, 0xED) ∷ (0x80, 0x9F) ∷ tail ∷ [])  -- U+D000 to U+D7FF
    ∷ ((0xEE, 0xEF) ∷ tail ∷ tail ∷ [])  -- U+E000 to U+FFFF
    ∷ ((0xF0, 0xF0) ∷ (0x90, 0xBF) ∷ tail ∷ tail ∷ [])  -- U+10000 to U+3FFFF
    ∷ ((0xF1, 0xF3) ∷ tail ∷ tail ∷ tail ∷ [])  -- U+40000 to U+FFFFF
    ∷ ((0xF4, 0xF4) ∷ (0x80, 0x8F) ∷ tail ∷ tail ∷ [])  -- U+100000 to U+10FFFF
    ∷ []

-- the bytes are a sequence of this row
abbrev pub fills : List Range → List ℕ → Bool
fills [] [] = true
fills [] (byte ∷ bytes) = false
fills (range ∷ row) [] = false
fills (range ∷ row) (byte ∷ bytes) = is_in range byte && fills row bytes

-- the bytes begin a sequence of this row, and aren't yet one
abbrev pub begins_row : List Range → List ℕ → Bool
begins_row [] bytes = false
begins_row (range ∷ row) [] = true
begins_row (range ∷ row) (byte ∷ bytes) = is_in range byte && begins_row row bytes

-- the bytes are one well-formed sequence
abbrev pub is_well_formed : List ℕ → Bool
is_well_formed bytes = list_any (λ row. fills row bytes) well_formed_rows

-- some well-formed sequence begins with the bytes and is longer
abbrev pub begins_sequence : List ℕ → Bool
begins_sequence bytes = list_any (λ row. begins_row row bytes) well_formed_rows

-- Table 3-6, UTF-8 Bit Distribution: the scalar value of a sequence of one to four bytes
abbrev pub scalar_value : List ℕ → ℕ
scalar_value (a ∷ []) = a
scalar_value (a ∷ b ∷ []) = (a - 0xC0) * 64 + (b - 0x80)
scalar_value (a ∷ b ∷ c ∷ []) = ((a - 0xE0) * 64 + (b - 0x80)) * 64 + (c - 0x80)
scalar_value (a ∷ b ∷ c ∷ d ∷ []) = (((a - 0xF0) * 64 + (b - 0x80)) * 64 + (c - 0x80)) * 64 + (d - 0x80)
scalar_value _ = 0

-- these bytes are the one well-formed sequence of this character
pub record IsCharacter (bytes : List ℕ) (value : ℕ) : Type 0 where
  pub well_formed : is_well_formed bytes ≡ true
  pub scalar : scalar_value bytes ≡ value

-- the sequence of some character begins with these bytes, and is longer
pub record BeginsCharacter (bytes : List ℕ) : Type 0 where
  pub more : List ℕ
  pub value : ℕ
  pub longer : more ≢ []
  pub character : IsCharacter (bytes ++ more) value

-- no character's sequence begins with these bytes, nor is one of them
abbrev pub BeginNone : List ℕ → Type 0
BeginNone bytes = (more : List ℕ) (value : ℕ) → ¬ IsCharacter (bytes ++ more) value

-- What a step answers, by the bytes since the last whole character.
abbrev pub Answers : List ℕ → Utf8Step → Type 0
Answers bytes (Char value) = IsCharacter bytes value
Answers bytes More = BeginsCharacter bytes
Answers bytes Bad = BeginNone bytes

-- The bytes since the last whole character afterwards. Those that begin none may have been forgotten for others that do.
abbrev pub Leaves : List ℕ → Utf8Step → List ℕ → Type 0
Leaves bytes (Char value) after = after ≡ []
Leaves bytes More after = after ≡ bytes
Leaves bytes Bad after = BeginNone after

-- the answer, computed by the tables
abbrev pub answer_of : List ℕ → Utf8Step
answer_of bytes =
    if is_well_formed bytes then Char (scalar_value bytes)
    else if begins_sequence bytes then More
    else Bad

-- Of any bytes exactly one answer holds, and the tables compute it.
abbrev pub AnswersAreExact : Type 0
AnswersAreExact = (bytes : List ℕ) (step : Utf8Step) → Answers bytes step ↔ (step ≡ answer_of bytes)

-- the tables agree with the UTF-8 of Rust's characters
abbrev pub TablesAgree : Type 0
TablesAgree = (bytes : List ℕ) (value : ℕ) → IsCharacter bytes value ↔ (IsScalar value × (encode_utf8 value ≡ bytes))

-- the test by rows says which bytes begin a character's sequence without being one
abbrev pub RowsBegin : Type 0
RowsBegin = (bytes : List ℕ) → BeginsCharacter bytes ↔ (begins_sequence bytes ≡ true)
