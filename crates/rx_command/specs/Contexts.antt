-- Context files of a job.
use Rattle.std.specs.Prelude.{◌≡◌, ℕ, ◌+◌, ◌≤◌, Bool, true, false, List, length, Option, Some, None, encode_utf8_all}
use Rattle.rx_ports.specs.Files.{file_of}
use Rattle.rx_ports.specs.Shelves.{ShelfContent}
use Rattle.rx_rdfa.specs.Common.{Chars, Context, standard}
use Rattle.rx_names.specs.ContextFiles.{context_of}
use Rattle.rx_job.specs.Words.{Job, reads, gathers, samples, job}
use Rattle.rx_command.specs.Files.{size_of}
use Rattle.rx_page.specs.Contexts.{largest_context, is_context}

-- the context file that a job names, and the one that the words name
abbrev pub context_in : Option Job → Option Chars
context_in None = None
context_in (Some (reads asked)) = asked.context
context_in (Some (gathers gathering)) = gathering.context
context_in (Some (samples count)) = None

abbrev pub context_asked : List Chars → Option Chars
context_asked words = context_in (job words)

-- the file is there, and whether it is a context is this
pub record IsContextFile (name : Chars) (valid : Bool) (shelf : ShelfContent) : Type 0 where
  pub bytes : List ℕ
  pub file : file_of shelf.files (encode_utf8_all name) ≡ Some bytes
  pub tested : is_context bytes ≡ valid

-- no context file is named, or one that is there and is a context
abbrev pub HasContext : Option Chars → ShelfContent → Type 0
HasContext None shelf = Unit {0}
HasContext (Some name) shelf = IsContextFile name true shelf

-- a context file is named, and it is there and is no context
abbrev pub HasWrongContext : Option Chars → ShelfContent → Type 0
HasWrongContext None shelf = ⊥
HasWrongContext (Some name) shelf = IsContextFile name false shelf

-- a context file is named, and it isn't there
abbrev pub LacksContext : Option Chars → ShelfContent → Type 0
LacksContext None shelf = ⊥
LacksContext (Some name) shelf = file_of shelf.files (encode_utf8_all name) ≡ None

-- the file is there, and is this context
pub record IsFileOf (name : Chars) (shelf : ShelfContent) (context : Context) : Type 0 where
  pub bytes : List ℕ
  pub file : file_of shelf.files (encode_utf8_all name) ≡ Some bytes
  pub small : length bytes ≤ largest_context
  pub reads : context_of bytes ≡ Some context

-- the context that holds: the standard one, or that of the file that is named
abbrev pub ContextHolds : Option Chars → ShelfContent → Context → Type 0
ContextHolds None shelf context = context ≡ standard
ContextHolds (Some name) shelf context = IsFileOf name shelf context

abbrev pub context_size : Option Chars → ShelfContent → ℕ
context_size None shelf = 0
context_size (Some name) shelf = size_of (file_of shelf.files (encode_utf8_all name))

-- how much is read of the context file at most: one byte past the largest
abbrev pub context_limit : Option Chars → ℕ
context_limit None = 0
context_limit (Some name) = largest_context + 1

-- how many files that are: one, where a context file is named
abbrev pub context_count : Option Chars → ℕ
context_count None = 0
context_count (Some name) = 1

-- no more was taken than the context file has, nor more than its limit, and no other file was started, nor this one twice
pub record TakesContext (file : Option Chars) (old new : ShelfContent) : Type 0 where
  pub files : new.files ≡ old.files
  pub size : new.taken ≤ old.taken + context_size file old
  pub most : new.taken ≤ old.taken + context_limit file
  pub starts : new.starts ≤ old.starts + context_count file

-- the context file was started once and read, where one is named, and this is the context that holds
pub record ReadsContext (file : Option Chars) (context : Context) (old new : ShelfContent) : Type 0 where
  pub is : ContextHolds file old context
  pub takes : TakesContext file old new
  pub starts : new.starts ≡ old.starts + context_count file
