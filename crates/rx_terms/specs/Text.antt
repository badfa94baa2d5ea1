-- Texts as lists of characters, and what the attributes of HTML do with them.
use Rattle.std.specs.Prelude.{ℕ, Bool, true, false, ◌==◌, ◌&&◌, List, [], ◌∷◌, map, reverse, Option, Some, None, if◌then◌else◌}
use Rattle.std.specs.Option.{option_map}
use Rattle.std.specs.Str.{chars}
use Rattle.rx_terms.specs.Ascii.{is_white_space, lowered_char}
use denote.Ref.{Bor}

abbrev pub Chars : Type 0
Chars = List ℕ

-- the characters of a slice, where there is one
abbrev pub seen_slice : Option (Bor (List ℕ)) → Option Chars
seen_slice slice = option_map (λ s. chars s.now) slice

abbrev pub without_leading_space : Chars → Chars
without_leading_space [] = []
without_leading_space (c ∷ text) = if is_white_space c then without_leading_space text else c ∷ text

-- the text without the white space at both ends
abbrev pub trimmed : Chars → Chars
trimmed text = reverse (without_leading_space (reverse (without_leading_space text)))

-- A to Z in lower case
abbrev pub lowered : Chars → Chars
lowered text = map lowered_char text

abbrev pub ends_token : Chars → Bool
ends_token [] = true
ends_token (c ∷ text) = is_white_space c

abbrev pub onto_first : ℕ → List Chars → List Chars
onto_first c [] = (c ∷ []) ∷ []
onto_first c (token ∷ more) = (c ∷ token) ∷ more

-- the maximal runs without white space, in order, repeats kept
abbrev pub tokens : Chars → List Chars
tokens [] = []
tokens (c ∷ text) =
    if is_white_space c then tokens text
    else if ends_token text then (c ∷ []) ∷ tokens text
    else onto_first c (tokens text)

abbrev pub front_grows : ℕ → Option (Chars × Chars) → Option (Chars × Chars)
front_grows c None = None
front_grows c (Some parts) = Some (c ∷ parts.0, parts.1)

-- what stands before and behind the first character that is `mark`
abbrev pub split_at : ℕ → Chars → Option (Chars × Chars)
split_at mark [] = None
split_at mark (c ∷ text) = if c == mark then Some ([], text) else front_grows c (split_at mark text)

abbrev pub begins_with : Chars → Chars → Bool
begins_with [] text = true
begins_with (c ∷ front) [] = false
begins_with (c ∷ front) (d ∷ text) = c == d && begins_with front text

abbrev pub is_empty : Chars → Bool
is_empty [] = true
is_empty (c ∷ text) = false
