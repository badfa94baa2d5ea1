-- Numbers that lead to numbers: which lead to each other, and which of them stand for others.
use Rattle.std.specs.Prelude.{◌≡◌, ◌<◌, ◌⊎◌, ℕ, Bool, true, false, not, ◌&&◌, ◌||◌, List, [], ◌∷◌, length, get_or, slice_set, nat_eq, nat_lt, if◌then◌else◌}
use Rattle.rx_model.specs.Sets.{Among, contains, with_one}
use Rattle.rx_graph.specs.Rows.{pushed}

-- the number that stands for a; a itself where there is none
abbrev pub mark_at : List ℕ → ℕ → ℕ
mark_at marks a = get_or marks a a

-- a leads to b at once: b stands in its row
abbrev pub LeadsAtOnce : List (List ℕ) → ℕ → ℕ → Type 0
LeadsAtOnce rows a b = Among (get_or rows a []) b

-- a leads to another by none of them or by one after another
pub data LeadsTo (rows : List (List ℕ)) (a : ℕ) : ℕ → Type 0 where
  stays : LeadsTo rows a a
  goes_on : (b c : ℕ) → LeadsTo rows a b → LeadsAtOnce rows b c → LeadsTo rows a c

-- ---- turned round

-- a at the end of each of some rows
abbrev pub turned_row : ℕ → List (List ℕ) → List ℕ → List (List ℕ)
turned_row a rows [] = rows
turned_row a rows (b ∷ row) = turned_row a (pushed rows b a) row

pub record IsTurned (rows turned : List (List ℕ)) : Type 0 where
  pub size : length turned ≡ length rows
  pub each : (a b : ℕ) → LeadsAtOnce turned a b → LeadsAtOnce rows b a

-- ---- marks that spread along the rows

-- a's mark, where it has none below the size yet
abbrev pub spread_one : ℕ → List ℕ → ℕ → List ℕ
spread_one root marks a = if nat_lt (mark_at marks a) (length marks) then marks else slice_set marks a root

abbrev pub spread_all : ℕ → List ℕ → List ℕ → List ℕ
spread_all root marks [] = marks
spread_all root marks (a ∷ row) = spread_all root (spread_one root marks a) row

-- each mark below the size leads to what it marks
pub record Marked (rows : List (List ℕ)) (marks : List ℕ) : Type 0 where
  pub size : length marks ≡ length rows
  pub each : (a : ℕ) → mark_at marks a < length rows → LeadsTo rows (mark_at marks a) a

-- each leads to its mark, where that is below the size
pub record LeadsToMark (rows : List (List ℕ)) (marks : List ℕ) : Type 0 where
  pub size : length marks ≡ length rows
  pub each : (a : ℕ) → mark_at marks a < length rows → LeadsTo rows a (mark_at marks a)

-- each and its root lead to each other
pub record Joined (rows : List (List ℕ)) (roots : List ℕ) : Type 0 where
  pub size : length roots ≡ length rows
  pub within : (a : ℕ) → a < length rows → mark_at roots a < length rows
  pub down : (a : ℕ) → LeadsTo rows (mark_at roots a) a
  pub up : (a : ℕ) → LeadsTo rows a (mark_at roots a)

-- ---- what roots lead to

-- the roots of a row, but for a, in the row of a
abbrev pub next_row : List ℕ → ℕ → List (List ℕ) → List ℕ → List (List ℕ)
next_row roots a nexts [] = nexts
next_row roots a nexts (b ∷ row) = next_row roots a (if nat_eq a (mark_at roots b) then nexts else pushed nexts a (mark_at roots b)) row

pub record AreNexts (rows : List (List ℕ)) (roots : List ℕ) (nexts : List (List ℕ)) : Type 0 where
  pub size : length nexts ≡ length rows
  pub sound : (a b : ℕ) → LeadsAtOnce nexts a b → LeadsTo rows a b
  pub complete : (a b : ℕ) → LeadsAtOnce rows a b → (mark_at roots a ≡ mark_at roots b) ⊎ LeadsAtOnce nexts (mark_at roots a) (mark_at roots b)

-- ---- what stands for a root

-- the only one so far and b: b where it is the first below the size, a where it is another
abbrev pub merged_lead : ℕ → ℕ → ℕ → ℕ → ℕ
merged_lead a size only b = if nat_lt b size && not (nat_eq b only) then (if nat_lt only size then a else b) else only

-- the only one that stands for all of a row, a where there are several
abbrev pub only_lead : List ℕ → ℕ → ℕ → List ℕ → ℕ
only_lead lead a only [] = only
only_lead lead a only (b ∷ row) = only_lead lead a (merged_lead a (length lead) only (mark_at lead b)) row

-- none of a row leads to anything but to this one
abbrev pub all_led : List ℕ → ℕ → List ℕ → Bool
all_led lead to [] = true
all_led lead to (b ∷ row) = (not (nat_lt (mark_at lead b) (length lead)) || nat_eq (mark_at lead b) to) && all_led lead to row

-- a stands for itself, or gives nothing and leads to nothing but to what stands for it
abbrev pub is_led : List ℕ → ℕ → List ℕ → List ℕ → Bool
is_led lead a gives row = nat_eq (mark_at lead a) a || (nat_eq (length gives) 0 && all_led lead (mark_at lead a) row)

pub record AreLed (nexts own : List (List ℕ)) (lead : List ℕ) : Type 0 where
  pub each : (a : ℕ) → a < length nexts → is_led lead a (get_or own a []) (get_or nexts a []) ≡ true

-- ---- what is reached from one that stands for others

-- what stands for b, where something does
abbrev pub led_one : List ℕ → List ℕ → ℕ → List ℕ
led_one lead reached b = if nat_lt (mark_at lead b) (length lead) then with_one nat_eq reached (mark_at lead b) else reached

abbrev pub led_all : List ℕ → List ℕ → List ℕ → List ℕ
led_all lead reached [] = reached
led_all lead reached (b ∷ row) = led_all lead (led_one lead reached b) row

pub data LedByMarks (nexts : List (List ℕ)) (lead : List ℕ) (from : ℕ) : ℕ → Type 0 where
  led_here : from < length lead → LedByMarks nexts lead from from
  led_on : (a b c : ℕ) → LedByMarks nexts lead from a → LeadsAtOnce nexts a b → mark_at lead b ≡ c → c < length lead → LedByMarks nexts lead from c

-- no number is equal to one after it
abbrev pub EachOnce : List ℕ → Type 0
EachOnce [] = Unit {0}
EachOnce (x ∷ numbers) = (contains nat_eq numbers x ≡ false) × EachOnce numbers

pub record IsWalk (nexts : List (List ℕ)) (lead : List ℕ) (from : ℕ) (reached : List ℕ) : Type 0 where
  pub small : (a : ℕ) → Among reached a → a < length lead
  pub start : from < length lead → Among reached from
  pub sound : (a : ℕ) → Among reached a → LedByMarks nexts lead from a
  pub closed : (a b : ℕ) → Among reached a → LeadsAtOnce nexts a b → mark_at lead b < length lead → Among reached (mark_at lead b)
