-- Context files, as serde_json reads them.
use Rattle.rx_names.proofs.Common.{◌≡◌, ◌∙◌, ◌↔◌, ℕ, Bool, true, false, cond, List, Some, None, sym, ap, IsTrue, option_and_then, IsUtf8, is_utf8, by_test, is_utf8-from_IsUtf8, IsUtf8-from_is_utf8, context_of_data, context_of}
use Rattle.serde_json.specs.Data.{Data}
use Rattle.serde_json.specs.Read.{read}

pub read-context : (bytes : List ℕ) (value : Data) → IsUtf8 bytes → read bytes ≡ Some value → context_of bytes ≡ context_of_data value
read-context bytes value u e =
    ap (λ b. cond b (option_and_then context_of_data (read bytes)) None) (is_utf8-from_IsUtf8 bytes u) ∙ ap (option_and_then context_of_data) e

pub no-context : (bytes : List ℕ) → (IsUtf8 bytes → read bytes ≡ None) → context_of bytes ≡ None
no-context bytes f =
    by_test (is_utf8 bytes)
    (λ t. ap (λ b. cond b (option_and_then context_of_data (read bytes)) None) t ∙ ap (option_and_then context_of_data) (f (IsUtf8-from_is_utf8 bytes t)))
    (λ t. ap (λ b. cond b (option_and_then context_of_data (read bytes)) None) t)

pub not-so : {P : Type 0} (b : Bool) → IsTrue b ↔ P → b ≡ false → P → ⊥
not-so b h e p = let t : true ≡ false = sym (h.1 p) ∙ e in absurd (cc t)
