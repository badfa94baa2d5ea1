-- Which of the rules' blank nodes have numbers.
use Rattle.std.specs.Prelude.{◌≡◌, ◌<◌, ◌≤◌, ◌^◌, ◌⊎◌, ℕ, Bool, false, Option, Some, None, nat_eq, if◌then◌else◌}
use Rattle.rx_rdfa.specs.Common.{Chars, Bnode, Author, same_bnode}
use Rattle.rx_eval.specs.Labels.{Numbered, label_number}

-- the numbers that are drawn so far, each for one blank node
abbrev pub Numbering : Type 0
Numbering = Bnode → Option ℕ

-- a number, or what has none yet
pub data Name (A : Type 0) : Type 0 where
  Number : ℕ → Name A
  Itself : A → Name A

abbrev pub name_by : {A : Type 0} → A → Option ℕ → Name A
name_by a None = Itself a
name_by a (Some n) = Number n

-- each by its number where it has one, else by itself
abbrev pub numbered_name : {A : Type 0} → (A → Option ℕ) → A → Name A
numbered_name to a = name_by a (to a)

abbrev pub same_name : {A : Type 0} → (A → A → Bool) → Name A → Name A → Bool
same_name same (Number n) (Number m) = nat_eq n m
same_name same (Number n) (Itself b) = false
same_name same (Itself a) (Number m) = false
same_name same (Itself a) (Itself b) = same a b

-- what has a number keeps it
pub record KeepsNumbers {A : Type 0} (old new : A → Option ℕ) : Type 0 where
  pub keeps : (a : A) (n : ℕ) → old a ≡ Some n → new a ≡ Some n

-- one more has a number
abbrev pub with_number : Numbering → Bnode → ℕ → Numbering
with_number to new n b = if same_bnode b new then Some n else to b

-- authors' blank nodes have the numbers of their labels; the numbers are below the next one, or cells'; no two blank nodes
-- have one number
pub record Numbers (to : Numbering) (labels : Numbered) (drawn cells : ℕ) : Type 0 where
  pub label : (l : Chars) → to (Author l) ≡ label_number labels l
  pub bounded : (b : Bnode) (n : ℕ) → to b ≡ Some n → (n < drawn) ⊎ ((2 ^ 61 ≤ n) × (n < cells))
  pub one_to_one : (a b : Bnode) (n : ℕ) → to a ≡ Some n → to b ≡ Some n → a ≡ b
  pub low : drawn ≤ 2 ^ 61
  pub high : 2 ^ 61 ≤ cells
