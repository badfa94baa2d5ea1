-- The dot segments of a path: RFC 3986, section 5.2.4, on the pair of its input buffer and its output buffer.
use Rattle.std.specs.Prelude.{◌≡◌, ℕ, zero, suc, Bool, false, ◌||◌, ◌==◌, [], ◌∷◌, ◌++◌, drop, length, codes, bytes_eq, if◌then◌else◌}
use Rattle.rx_terms.specs.Common.{list_any, solidus, Chars, begins_with}
use Rattle.rx_refs.specs.Parts.{before, from_first}

pub record Buffers : Type 0 where
  pub input : Chars
  pub output : Chars

abbrev pub is : Chars → Chars → Bool
is text input = bytes_eq text input

abbrev pub holds : ℕ → Chars → Bool
holds mark text = list_any (λ c. c == mark) text

-- the text is cut at its first `mark`
abbrev pub CutsAt : ℕ → Chars → Chars → Chars → Type 0
CutsAt mark text front rest = (text ≡ front ++ mark ∷ rest) × (holds mark front ≡ false)

-- the first segment of the input, with the `/` before it where there is one
abbrev pub first_segment : Chars → Chars
first_segment [] = []
first_segment (c ∷ input) = c ∷ before solidus input

abbrev pub behind_first_segment : Chars → Chars
behind_first_segment [] = []
behind_first_segment (c ∷ input) = from_first solidus input

-- the output without its last segment and the `/` before that, where there is one
abbrev pub without_last_segment : Chars → Chars
without_last_segment [] = []
without_last_segment (c ∷ output) = if holds solidus output then c ∷ without_last_segment output else []

-- one pass of the loop: the first of the rules A to E whose condition holds
unfoldable pub step : Buffers → Buffers
step buffers =
    let input = buffers.input in
    let output = buffers.output in
    if begins_with (codes "../") input then record { input = drop 3 input; output = output }
    else if begins_with (codes "./") input then record { input = drop 2 input; output = output }
    else if begins_with (codes "/./") input then record { input = drop 2 input; output = output }
    else if is (codes "/.") input then record { input = codes "/"; output = output }
    else if begins_with (codes "/../") input then record { input = drop 3 input; output = without_last_segment output }
    else if is (codes "/..") input then record { input = codes "/"; output = without_last_segment output }
    else if is (codes ".") input || is (codes "..") input then record { input = []; output = output }
    else record { input = behind_first_segment input; output = output ++ first_segment input }

abbrev pub after_steps : ℕ → Buffers → Buffers
after_steps zero buffers = buffers
after_steps (suc n) buffers = after_steps n (step buffers)

-- Each pass takes a character or more of an input that isn't empty, and leaves an empty one: so the path's length is
-- enough of them.
unfoldable pub without_dots : Chars → Chars
without_dots path = (after_steps (length path) (record { input = path; output = [] })).output
