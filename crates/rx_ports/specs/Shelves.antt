-- What shelves and sinks tell of themselves, and what calls do to it.
use Rattle.std.specs.Prelude.{◌≡◌, ℕ, ◌+◌, ◌<◌, ◌≤◌, List, [], ◌++◌, length, take, Option, Some, None, is_some, Result, MatchResult}
use Rattle.rx_ports.specs.Files.{file_of}
use Rattle.rx_ports.specs.declared.shelf.Failed.{Failed}

-- files by their names, the bytes of the started file that weren't read yet, how many bytes reads have given, and how
-- many files were started
pub record ShelfContent : Type 0 where
  pub files : List (List ℕ × List ℕ)
  pub left : List ℕ
  pub taken : ℕ
  pub starts : ℕ

-- Whether something is told stays; what is told takes a step.
pub record WhereKnown {A : Type 0} (step : A → A → Type 0) (old new : Option A) : Type 0 where
  pub same : is_some new ≡ is_some old
  pub taken : (before after : A) → old ≡ Some before → new ≡ Some after → step before after

-- the shelf tells its files, and this isn't one
abbrev pub Lacks : Option ShelfContent → List ℕ → Type 0
Lacks None name = ⊥
Lacks (Some told) name = file_of told.files name ≡ None

-- the file of this name was started, which counts as one start, or nothing was
pub record Starts (name : List ℕ) (result : Result (Unit {0}) Failed) (old new : ShelfContent) : Type 0 where
  pub files : new.files ≡ old.files
  pub taken : new.taken ≡ old.taken
  pub starts : MatchResult result (λ _. new.starts ≡ old.starts + 1) (λ _. new.starts ≡ old.starts)
  pub left : MatchResult result (λ _. file_of old.files name ≡ Some new.left) (λ _. new.left ≡ old.left)

-- the first n bytes of the buffer were the next of the file, or nothing was read
pub record ShelfReads (buf : List ℕ) (result : Result ℕ Failed) (old new : ShelfContent) : Type 0 where
  pub files : new.files ≡ old.files
  pub starts : new.starts ≡ old.starts
  pub taken : MatchResult result (λ n. new.taken ≡ old.taken + n) (λ _. new.taken ≡ old.taken)
  pub left : MatchResult result (λ n. old.left ≡ take n buf ++ new.left) (λ _. new.left ≡ old.left)
  pub at_end : MatchResult result (λ n. n ≡ 0 → 0 < length buf → old.left ≡ []) (λ _. Unit {0})

-- how many bytes of a piece may be taken: one at least, where it has one
abbrev pub IsProgress : List ℕ → ℕ → Type 0
IsProgress piece n = (n ≤ length piece) × (0 < length piece → 0 < n)

-- the first n bytes of the piece were taken, or nothing was
abbrev pub SinkTakes : List ℕ → Result ℕ Failed → List ℕ → List ℕ → Type 0
SinkTakes piece result old new = MatchResult result (λ n. new ≡ old ++ take n piece) (λ _. new ≡ old)

abbrev pub GrowsBy : List ℕ → List ℕ → List ℕ → Type 0
GrowsBy piece old new = new ≡ old ++ piece

-- new is old and a proper front of the piece
abbrev pub GrowsByPart : List ℕ → List ℕ → List ℕ → Type 0
GrowsByPart piece old new = (n : ℕ) × (n < length piece) × (new ≡ old ++ take n piece)

-- what is told doesn't change
abbrev pub Stays : {A : Type 0} → A → A → Type 0
Stays old new = new ≡ old
