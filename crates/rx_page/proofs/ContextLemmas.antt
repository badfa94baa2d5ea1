-- What the bytes of a context file give.
use Rattle.rx_eval.proofs.Common.{◌≡◌, ◌∙◌, ◌≤◌, ◌<◌, ℕ, nat_le, true, false, ◌&&◌, List, length, ap, arith, Result, Ok, Err, is_some, nat_tests, Context}
use Rattle.rx_names.specs.ContextFiles.{context_of}
use Rattle.rx_names.specs.FileErrors.{FileGives}
use Rattle.rx_names.specs.declared.context_files.ContextError.{ContextError}
use Rattle.rx_names.specs.declared.context_files.ContextError.TheVariants as error
use Rattle.rx_page.specs.Contexts.{largest_context, is_context, ContextGives}

pub short : (n : ℕ) → n ≤ largest_context → nat_le n largest_context ≡ true
short n e = grind (arith, nat_tests)

pub long : (n : ℕ) → largest_context < n → nat_le n largest_context ≡ false
long n e = grind (arith, nat_tests)

pub too_long : (bytes : List ℕ) → largest_context < length bytes → is_context bytes ≡ false
too_long bytes past = ap (λ b. b && is_some (context_of bytes)) (long (length bytes) past)

pub file_gives : (bytes : List ℕ) (r : Result Context ContextError) → length bytes ≤ largest_context → FileGives r (context_of bytes) → ContextGives bytes r
file_gives bytes (Ok context) small g = (small, g)
file_gives bytes (Err error.BadContext) small g = ap (λ b. b && is_some (context_of bytes)) (short (length bytes) small) ∙ ap is_some g
file_gives bytes (Err error.NoMemory) small g = tt
