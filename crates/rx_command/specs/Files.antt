-- What reading a file does to a shelf that tells of itself.
use Rattle.std.specs.Prelude.{◌≡◌, ℕ, ◌+◌, ◌≤◌, List, [], ◌++◌, length, Option, Some, None, Result, Ok, Err}
use Rattle.rx_ports.specs.Shelves.{ShelfContent}
use Rattle.rx_ports.specs.Files.{file_of}
use Rattle.rx_command.specs.declared.files.ReadError.{ReadError}
use Rattle.rx_command.specs.declared.files.ReadError.TheVariants as failure

-- the file was started, and these bytes of it were read
pub record HasRead (name bytes : List ℕ) (old new : ShelfContent) : Type 0 where
  pub files : new.files ≡ old.files
  pub file : file_of old.files name ≡ Some (bytes ++ new.left)
  pub taken : new.taken ≡ old.taken + length bytes
  pub starts : new.starts ≡ old.starts + 1

-- a read gave n bytes, which were added to those before; none only at the end
pub record ReadsMore (before now : List ℕ) (n : ℕ) (old new : ShelfContent) : Type 0 where
  pub files : new.files ≡ old.files
  pub bytes : before ++ old.left ≡ now ++ new.left
  pub taken : new.taken ≡ old.taken + n
  pub len : length now ≡ length before + n
  pub at_end : n ≡ 0 → old.left ≡ []
  pub starts : new.starts ≡ old.starts

-- at most so many bytes of what was left were taken, and no file was started
pub record TakesWithin (room : ℕ) (old new : ShelfContent) : Type 0 where
  pub files : new.files ≡ old.files
  pub sum : length new.left + new.taken ≡ length old.left + old.taken
  pub most : new.taken ≤ old.taken + room
  pub starts : new.starts ≡ old.starts

-- the file was read to its end, or to one byte past the limit
pub record ReadsFile (name : List ℕ) (limit : ℕ) (bytes : List ℕ) (old new : ShelfContent) : Type 0 where
  pub read : HasRead name bytes old new
  pub most : length bytes ≤ limit + 1
  pub whole : length bytes ≤ limit → new.left ≡ []

-- how many bytes a file has, none where it is missing
abbrev pub size_of : Option (List ℕ) → ℕ
size_of None = 0
size_of (Some bytes) = length bytes

-- no more was taken than the file has, nor than this, and no more than one file was started
pub record TakesOf (name : List ℕ) (limit : ℕ) (old new : ShelfContent) : Type 0 where
  pub files : new.files ≡ old.files
  pub file : new.taken ≤ old.taken + size_of (file_of old.files name)
  pub most : new.taken ≤ old.taken + limit
  pub starts : new.starts ≤ old.starts + 1

-- unless the shelf failed, its count of faults stayed
abbrev pub SteadyFile : {A : Type 0} → Result A ReadError → ℕ → ℕ → Type 0
SteadyFile (Ok given) before now = now ≡ before
SteadyFile (Err failure.Failed) before now = Unit {0}
SteadyFile (Err failure.NoMemory) before now = now ≡ before
