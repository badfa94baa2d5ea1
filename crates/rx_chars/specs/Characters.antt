-- The characters of a whole page, each with its place.
use Rattle.std.specs.Prelude.{◌≡◌, ℕ, ◌+◌, ◌-◌, Bool, true, false, ◌&&◌, ◌==◌, List, [], ◌∷◌, ◌++◌, map, Option, None, Some, encode_utf8_all, if◌then◌else◌}
use Rattle.std.specs.Char.{len_utf8}
use Rattle.std.specs.Str.{all_scalars}
use Rattle.rx_terms.specs.Ascii.{carriage_return, line_feed}

abbrev pub byte_order_mark : ℕ
byte_order_mark = 0xFEFF

-- a character, and the offsets of the first and the last byte of its UTF-8 form
pub record PlacedCharacter : Type 0 where
  pub value : ℕ
  pub first : ℕ
  pub last : ℕ

-- the characters with their places, where their UTF-8 forms stand one directly after another from offset `at` on
abbrev pub placed : ℕ → List ℕ → List PlacedCharacter
placed at [] = []
placed at (c ∷ characters) =
    record { value = c; first = at; last = at + len_utf8 c - 1 } ∷ placed (at + len_utf8 c) characters

-- Encoding Standard, 6 (UTF-8 decode): a byte order mark that stands first is passed over.
abbrev pub without_mark : List PlacedCharacter → List PlacedCharacter
without_mark [] = []
without_mark (entry ∷ entries) = if entry.value == byte_order_mark then entries else entry ∷ entries

-- a CR counts as an LF
abbrev pub as_line_end : ℕ → ℕ
as_line_end c = if c == carriage_return then line_feed else c

abbrev pub line_end_entry : PlacedCharacter → PlacedCharacter
line_end_entry entry = record { value = as_line_end entry.value; first = entry.first; last = entry.last }

-- HTML Standard, 13.2.3.5 (preprocessing the input stream), with places: a CR is entered as an LF at its own place, and
-- an LF directly after a CR isn't entered. The first argument says whether the character directly before is a CR.
abbrev pub preprocessed : Bool → List PlacedCharacter → List PlacedCharacter
preprocessed after_return [] = []
preprocessed after_return (entry ∷ entries) =
    if after_return && entry.value == line_feed then preprocessed false entries
    else line_end_entry entry ∷ preprocessed (entry.value == carriage_return) entries

-- These are the characters of the page: its bytes are the UTF-8 forms of scalar values, one directly after another,
-- and what is entered of them is the list.
pub record IsRead (bytes : List ℕ) (entries : List PlacedCharacter) : Type 0 where
  pub characters : List ℕ
  pub scalars : all_scalars characters ≡ true
  pub forms : encode_utf8_all characters ≡ bytes
  pub read : entries ≡ preprocessed false (without_mark (placed 0 characters))

abbrev pub begins_with_line_feed : List ℕ → Bool
begins_with_line_feed [] = false
begins_with_line_feed (c ∷ characters) = c == line_feed

-- each CR LF pair as the one LF
abbrev pub pairs_as_line_feed : List ℕ → List ℕ
pairs_as_line_feed [] = []
pairs_as_line_feed (c ∷ characters) =
    if c == carriage_return && begins_with_line_feed characters then pairs_as_line_feed characters
    else c ∷ pairs_as_line_feed characters

-- Infra Standard, 4.7 (normalize newlines): each CR LF pair becomes one LF, then each CR that is left becomes an LF.
abbrev pub normal : List ℕ → List ℕ
normal characters = map as_line_end (pairs_as_line_feed characters)

-- the same in one pass: what one more character adds, where the one directly before it is a CR or isn't
abbrev pub line_end_given : Bool → ℕ → Option ℕ
line_end_given after_return c = if after_return && c == line_feed then None else Some (as_line_end c)

abbrev pub ends_with_return : List ℕ → Bool
ends_with_return [] = false
ends_with_return (c ∷ []) = c == carriage_return
ends_with_return (c ∷ d ∷ characters) = ends_with_return (d ∷ characters)

abbrev pub given_list : Option ℕ → List ℕ
given_list None = []
given_list (Some c) = c ∷ []

-- A page's bytes have at most one list of characters.
abbrev pub OneReading : Type 0
OneReading = (bytes : List ℕ) (some others : List PlacedCharacter) → IsRead bytes some → IsRead bytes others → some ≡ others

-- What is entered are the characters with normalized newlines.
abbrev pub EntersNormal : Type 0
EntersNormal = (entries : List PlacedCharacter) → map (λ e. e.value) (preprocessed false entries) ≡ normal (map (λ e. e.value) entries)

-- Characters with normalized newlines may be given one at a time.
abbrev pub NormalGrows : Type 0
NormalGrows = (characters : List ℕ) (c : ℕ) →
    normal (characters ++ c ∷ []) ≡ normal characters ++ given_list (line_end_given (ends_with_return characters) c)
