-- Terms of ASCII, by their bytes.
use Rattle.rx_terms.proofs.Common.{◌≡◌, ◌∙◌, ℕ, true, List, [], ◌∷◌, ap, refl, ◌||◌, ◌==◌, list_all, chars, and_parts, and_from, is_ascii, solidus, ascii-chars}
use Rattle.rx_chars.specs.NcName.{is_nc}
use Rattle.rx_names.specs.Words.{is_term_byte}

all_ascii : (bs : List ℕ) → list_all is_term_byte bs ≡ true → list_all is_ascii bs ≡ true
all_ascii [] h = refl
all_ascii (b ∷ bs) h = let parts = and_parts (is_term_byte b) _ h in and_from _ _ (and_parts (is_ascii b) _ parts.0).0 (all_ascii bs parts.1)

all_stand : (bs : List ℕ) → list_all is_term_byte bs ≡ true → list_all (λ c. is_nc c || c == solidus) bs ≡ true
all_stand [] h = refl
all_stand (b ∷ bs) h = let parts = and_parts (is_term_byte b) _ h in and_from _ _ (and_parts (is_ascii b) _ parts.0).1 (all_stand bs parts.1)

-- bytes that stand in a term are characters that do
pub bytes_stand : (bs : List ℕ) → list_all is_term_byte bs ≡ true → list_all (λ c. is_nc c || c == solidus) (chars bs) ≡ true
bytes_stand bs h = ap (list_all (λ c. is_nc c || c == solidus)) (ascii-chars bs (all_ascii bs h)) ∙ all_stand bs h
