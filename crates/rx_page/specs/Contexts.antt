-- The bytes of a context file.
use Rattle.std.specs.Prelude.{ℕ, nat_le, Bool, ◌&&◌, List, length, is_some, ◌≡◌, ◌≤◌, false, Result, Ok, Err, Some}
use Rattle.rx_rdfa.specs.Names.{Context}
use Rattle.rx_names.specs.ContextFiles.{context_of}
use Rattle.rx_names.specs.declared.context_files.ContextError.{ContextError}
use Rattle.rx_names.specs.declared.context_files.ContextError.TheVariants as error

abbrev pub largest_context : ℕ
largest_context = 65536

-- the bytes are those of a context file that is taken
abbrev pub is_context : List ℕ → Bool
is_context bytes = nat_le (length bytes) largest_context && is_some (context_of bytes)

-- they are this context, or none
abbrev pub ContextGives : List ℕ → Result Context ContextError → Type 0
ContextGives bytes (Ok context) = (length bytes ≤ largest_context) × (context_of bytes ≡ Some context)
ContextGives bytes (Err error.BadContext) = is_context bytes ≡ false
ContextGives bytes (Err error.NoMemory) = Unit {0}
