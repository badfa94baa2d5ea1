-- Characters of a buffer's bytes.
use Rattle.rx_terms.proofs.Common.{◌≡◌, ◌∙◌, ℕ, List, [], ◌∷◌, length, refl, sym, ap, nat_eq, false, arith, chars, IsUtf8, chars-nil, encodes-chars, is_empty, ne_eqb}
use Rattle.std.specs.Str.{encode_utf8_all}

pub chars-none : (bs : List ℕ) → bs ≡ [] → chars bs ≡ []
chars-none bs e = ap chars e ∙ chars-nil

-- there are no bytes where there are no characters
pub no_bytes : (bs : List ℕ) → IsUtf8 bs → nat_eq (length bs) 0 ≡ is_empty (chars bs)
no_bytes [] u = sym (ap is_empty chars-nil)
no_bytes (b ∷ bs) u = ne_eqb (length (b ∷ bs)) 0 (λ e. omega arith) ∙ by (chars (b ∷ bs)) refl
  where
    by : (cs : List ℕ) → chars (b ∷ bs) ≡ cs → false ≡ is_empty cs
    by [] e = absurd (let k : b ∷ bs ≡ [] = sym (encodes-chars (b ∷ bs) u) ∙ ap encode_utf8_all e in cc)
    by (c ∷ cs) e = refl
