-- A shelf in memory, as its contracts see it.
use Rattle.std.specs.Prelude.{◌≡◌, ◌<◌, ◌≤◌, ℕ, ◌+◌, ◌^◌, ◌==◌, ◌||◌, nat_le, min, List, [], length, drop, Bool, if◌then◌else◌, Option, Some, None, Result, Ok, Err, is_none, unwrap_or}
use Rattle.std.specs.List.{list_any}
use Rattle.rx_ports.specs.Counts.{count_raised}
use Rattle.rx_ports.specs.Files.{file_of, file_bytes}
use Rattle.rx_ports.specs.Shelves.{ShelfContent}
use Rattle.rx_ports.specs.declared.shelf.Failed.{Failed}

pub record MemoryShelf : Type 0 where
  pub files : List (List ℕ × List ℕ)
  pub left : List ℕ
  pub taken : ℕ
  pub starts : ℕ
  pub chunk : ℕ
  pub failing : List ℕ
  pub calls : ℕ
  pub faults : ℕ

-- what is left of the started file; with nothing started nothing is
abbrev pub left_of : List (List ℕ × List ℕ) → Option ℕ → ℕ → List ℕ
left_of files None at = []
left_of files (Some file) at = drop at (file_bytes files file)

abbrev pub shelf_content : MemoryShelf → ShelfContent
shelf_content shelf = record { files = shelf.files; left = shelf.left; taken = shelf.taken; starts = shelf.starts }

abbrev pub new_shelf : List (List ℕ × List ℕ) → ℕ → List ℕ → MemoryShelf
new_shelf files chunk failing = record { files = files; left = []; taken = 0; starts = 0; chunk = chunk; failing = failing; calls = 0; faults = 0 }

-- whether the next call is one of those that fail
abbrev pub next_fails : MemoryShelf → Bool
next_fails shelf = list_any (λ number. number == count_raised shelf.calls) shelf.failing

-- whether the next start fails, whatever file it asks for: its number is listed, or it couldn't be counted
abbrev pub start_fails : MemoryShelf → Bool
start_fails shelf = next_fails shelf || nat_le (2 ^ 64) (shelf.starts + 1)

abbrev pub start_gives : MemoryShelf → List ℕ → Result (Unit {0}) Failed
start_gives shelf name = if start_fails shelf || is_none (file_of shelf.files name) then Err (record {}) else Ok tt

-- how many files were started after a start that doesn't fail: one more, where there is a file
abbrev pub starts_after : Option (List ℕ) → ℕ → ℕ
starts_after None starts = starts
starts_after (Some bytes) starts = starts + 1

abbrev pub started_shelf : MemoryShelf → List ℕ → MemoryShelf
started_shelf shelf name =
    if start_fails shelf
    then record shelf { calls = count_raised shelf.calls; faults = count_raised shelf.faults }
    else record shelf {
      calls = count_raised shelf.calls;
      left = unwrap_or (file_of shelf.files name) shelf.left;
      starts = starts_after (file_of shelf.files name) shelf.starts;
    }

-- how many bytes a read gives
abbrev pub read_count : MemoryShelf → ℕ → ℕ
read_count shelf room = min (min room shelf.chunk) (length shelf.left)

abbrev pub read_fails : MemoryShelf → ℕ → Bool
read_fails shelf room = next_fails shelf || nat_le (2 ^ 64) (shelf.taken + read_count shelf room)

abbrev pub read_gives : MemoryShelf → ℕ → Result ℕ Failed
read_gives shelf room = if read_fails shelf room then Err (record {}) else Ok (read_count shelf room)

abbrev pub after_read : MemoryShelf → ℕ → MemoryShelf
after_read shelf room =
    if read_fails shelf room
    then record shelf { calls = count_raised shelf.calls; faults = count_raised shelf.faults }
    else record shelf { calls = count_raised shelf.calls; left = drop (read_count shelf room) shelf.left; taken = shelf.taken + read_count shelf room }

-- a place in a started file
abbrev pub IsFilePlace : List (List ℕ × List ℕ) → Option ℕ → ℕ → Type 0
IsFilePlace files None at = at ≡ 0
IsFilePlace files (Some file) at = (file < length files) × (at ≤ length (file_bytes files file))
