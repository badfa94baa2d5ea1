-- The path that grows segment by segment in the code, against the buffers of `Dots`.
use Rattle.std.specs.Prelude.{◌≡◌, Bool, ◌∷◌, ◌++◌, length, if◌then◌else◌, codes, true}
use Rattle.rx_terms.specs.Common.{solidus, Chars}
use Rattle.rx_refs.specs.Dots.{Buffers, after_steps, without_last_segment, is}

pub record Grown : Type 0 where
  pub front : Chars  -- the text before the path
  pub path : Chars  -- the path so far: the output buffer
  pub slash : Bool  -- whether a `/` stands before what is still to be read

abbrev pub slashed : Bool → Chars → Chars
slashed slash text = if slash then solidus ∷ text else text

-- the buffers while `rest` is still to be read
abbrev pub buffers_at : Grown → Chars → Buffers
buffers_at grown rest = record { input = slashed grown.slash rest; output = grown.path }

-- what the loop gives from these buffers on
unfoldable pub reduced : Buffers → Chars
reduced buffers = (after_steps (length buffers.input) buffers).output

abbrev pub segment_pushed : Grown → Chars → Grown
segment_pushed grown segment = record grown { path = grown.path ++ slashed grown.slash segment }

abbrev pub cut_back : Grown → Grown
cut_back grown = record grown { path = if grown.slash then without_last_segment grown.path else grown.path }

-- after a segment that a `/` follows
abbrev pub after_segment : Grown → Chars → Grown
after_segment grown segment =
    if is (codes ".") segment then grown
    else if is (codes "..") segment then cut_back grown
    else record { front = grown.front; path = grown.path ++ slashed grown.slash segment; slash = true }

-- after the last segment
abbrev pub after_last : Grown → Chars → Grown
after_last grown segment =
    if is (codes ".") segment then segment_pushed grown (codes "")
    else if is (codes "..") segment then segment_pushed (cut_back grown) (codes "")
    else segment_pushed grown segment

-- `text` was read: with any rest behind it, the loop gives from the one what it gives from the other
pub record Takes (old new : Grown) (text : Chars) : Type 0 where
  pub same_front : new.front ≡ old.front
  pub leads : (rest : Chars) → reduced (buffers_at old (text ++ rest)) ≡ reduced (buffers_at new rest)
