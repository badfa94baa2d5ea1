-- The UTF-8 forms of Rust's characters against the tables.
use Rattle.std.proofs.Common.{◌≡◌, ◌≤◌, ◌<◌, ◌↔◌, ◌⊎◌, ⊎_elim, ℕ, ◌+◌, ◌-◌, ◌*◌, ◌/◌, ◌%◌, true, ◌&&◌, ltb, List, [], ◌∷◌, refl, sym, ap, ◌∙◌, subst, arith}
use Rattle.std.proofs.lemmas.Bool.{cases_lt, cond-true, cond-false, lt-ltb, le-ltb, and_from, false≢true}
use Rattle.std.proofs.lemmas.Bool.Decides.{nat_tests}
use Rattle.std.specs.Char.{IsScalar}
use lib.Utf8.{encode, scalar_cases}
use Rattle.rx_chars.specs.Utf8.{is_in, tail, IsCharacter}
use Rattle.rx_chars.specs.Held.{fits_second}
use Rattle.rx_chars.proofs.Utf8Rows.{whole_one, whole_two, whole_three, whole_four, whole_more}
use Rattle.rx_chars.proofs.Utf8Values.{Two, Three, Four, two_of, three_of, four_of, two_scalar, three_scalar, four_scalar}

-- the form, by its length
encode-one : (c : ℕ) → c < 128 → encode c ≡ c ∷ []
unfolding encode
encode-one c low = cond-true (ltb c 128) _ _ (lt-ltb c 128 low)

encode-two : (c : ℕ) → 128 ≤ c → c < 2048 → encode c ≡ (192 + c / 64) ∷ (128 + c % 64) ∷ []
unfolding encode
encode-two c low high = cond-false (ltb c 128) _ _ (le-ltb c 128 low) ∙ cond-true (ltb c 2048) _ _ (lt-ltb c 2048 high)

encode-three : (c : ℕ) → 2048 ≤ c → c < 65536 → encode c ≡ (224 + c / 4096) ∷ (128 + (c / 64) % 64) ∷ (128 + c % 64) ∷ []
unfolding encode
encode-three c low high =
    cond-false (ltb c 128) _ _ (le-ltb c 128 (omega arith)) ∙ (cond-false (ltb c 2048) _ _ (le-ltb c 2048 low) ∙ cond-true (ltb c 65536) _ _ (lt-ltb c 65536 high))

encode-four : (c : ℕ) → 65536 ≤ c → encode c ≡ (240 + c / 262144) ∷ (128 + (c / 4096) % 64) ∷ (128 + (c / 64) % 64) ∷ (128 + c % 64) ∷ []
unfolding encode
encode-four c low =
    cond-false (ltb c 128) _ _ (le-ltb c 128 (omega arith)) ∙ (cond-false (ltb c 2048) _ _ (le-ltb c 2048 (omega arith)) ∙ cond-false (ltb c 65536) _ _ (le-ltb c 65536 low))

-- the digits to base 64
record Digits (v t q r s : ℕ) : Type 0 where
  third : v / 262144 ≡ t
  second : (v / 4096) % 64 ≡ q
  first : (v / 64) % 64 ≡ r
  last : v % 64 ≡ s

digits : (t q r s v : ℕ) → q < 64 → r < 64 → s < 64 → v ≡ ((t * 64 + q) * 64 + r) * 64 + s → Digits v t q r s
digits t q r s v u w x e = record { third = omega arith; second = omega arith; first = omega arith; last = omega arith }

-- each number has its digits
spread : (v : ℕ) → v ≡ ((v / 262144 * 64 + (v / 4096) % 64) * 64 + (v / 64) % 64) * 64 + v % 64
spread v = omega arith

-- a well-formed sequence is the form of its scalar value
form_two : (a b v : ℕ) → Two a b → v ≡ (a - 0xC0) * 64 + (b - 0x80) → encode v ≡ a ∷ b ∷ []
form_two a b v t e =
    let lead : 192 + v / 64 ≡ a = omega arith in
    let second : 128 + v % 64 ≡ b = omega arith in
    encode-two v (omega arith) (omega arith) ∙ cc

form_three : (a b c v : ℕ) → Three a b c → v ≡ ((a - 0xE0) * 64 + (b - 0x80)) * 64 + (c - 0x80) → encode v ≡ a ∷ b ∷ c ∷ []
form_three a b c v t e =
    let lead : 224 + v / 4096 ≡ a = omega arith in
    let second : 128 + (v / 64) % 64 ≡ b = omega arith in
    let third : 128 + v % 64 ≡ c = omega arith in
    encode-three v (⊎_elim (λ low. long (omega arith)) (λ above. omega arith) (cases_lt a 0xE1)) (omega arith) ∙ cc
  where
    long : a ≡ 0xE0 → 2048 ≤ v
    long at = let low : 0xA0 ≤ b = t.second.three_long at in omega arith

form_four : (a b c d v : ℕ) → Four a b c d → v ≡ (((a - 0xF0) * 64 + (b - 0x80)) * 64 + (c - 0x80)) * 64 + (d - 0x80) → encode v ≡ a ∷ b ∷ c ∷ d ∷ []
form_four a b c d v t e =
    let parts = digits (a - 0xF0) (b - 0x80) (c - 0x80) (d - 0x80) v (omega arith) (omega arith) (omega arith) e in
    let lead : 240 + v / 262144 ≡ a = omega arith in
    let second : 128 + (v / 4096) % 64 ≡ b = omega arith in
    let third : 128 + (v / 64) % 64 ≡ c = omega arith in
    let fourth : 128 + v % 64 ≡ d = omega arith in
    encode-four v (⊎_elim (λ low. long (omega arith)) (λ above. omega arith) (cases_lt a 0xF1)) ∙ cc
  where
    long : a ≡ 0xF0 → 65536 ≤ v
    long at = let low : 0x90 ≤ b = t.second.four_long at in omega arith

pub form_of : (bytes : List ℕ) (v : ℕ) → IsCharacter bytes v → IsScalar v × (encode v ≡ bytes)
form_of [] v h = absurd (false≢true h.well_formed)
form_of (a ∷ []) v h = one a (sym (whole_one a) ∙ h.well_formed) h.scalar
  where
    one : (a : ℕ) → is_in (0x00, 0x7F) a ≡ true → a ≡ v → IsScalar v × (encode v ≡ a ∷ [])
    one a range same = let low : a < 128 = grind (arith, nat_tests) in (grind (arith, nat_tests), encode-one v (omega arith) ∙ ap (λ x. x ∷ []) (sym same))
form_of (a ∷ b ∷ []) v h =
    let t = two_of a b h.well_formed in (subst IsScalar h.scalar (two_scalar a b t), form_two a b v t (sym h.scalar))
form_of (a ∷ b ∷ c ∷ []) v h =
    let t = three_of a b c h.well_formed in (subst IsScalar h.scalar (three_scalar a b c t), form_three a b c v t (sym h.scalar))
form_of (a ∷ b ∷ c ∷ d ∷ []) v h =
    let t = four_of a b c d h.well_formed in (subst IsScalar h.scalar (four_scalar a b c d t), form_four a b c d v t (sym h.scalar))
form_of (a ∷ b ∷ c ∷ d ∷ e ∷ bytes) v h = absurd (false≢true (sym (whole_more a b c d e bytes) ∙ h.well_formed))

-- the form of a scalar value is well formed
fits : (a b : ℕ) → 0x80 ≤ b → b ≤ 0xBF → (a ≡ 0xE0 → 0xA0 ≤ b) → (a ≡ 0xED → b ≤ 0x9F) → (a ≡ 0xF0 → 0x90 ≤ b) → (a ≡ 0xF4 → b ≤ 0x8F) → fits_second a b ≡ true
fits a b low high p q r s = grind (arith, nat_tests)

within : (low high b : ℕ) → low ≤ b → b ≤ high → is_in (low, high) b ≡ true
within low high b above below = grind (arith, nat_tests)

character_one : (c : ℕ) → c < 128 → IsCharacter (encode c) c
character_one c high = subst (λ bytes. IsCharacter bytes c) (sym (encode-one c high)) (record { well_formed = whole_one c ∙ within 0 0x7F c (omega arith) (omega arith); scalar = refl })

character_two : (c : ℕ) → 128 ≤ c → c < 2048 → IsCharacter (encode c) c
character_two c low high = subst (λ bytes. IsCharacter bytes c) (sym (encode-two c low high)) (record {
  well_formed = whole_two (192 + c / 64) (128 + c % 64)
      ∙ and_from (is_in (0xC2, 0xDF) (192 + c / 64)) (is_in tail (128 + c % 64)) (within 0xC2 0xDF (192 + c / 64) (omega arith) (omega arith)) (within 0x80 0xBF (128 + c % 64) (omega arith) (omega arith));
  scalar = omega arith;
})

character_three : (c : ℕ) → 2048 ≤ c → c < 65536 → (c < 55296) ⊎ ((57344 ≤ c) × (c < 1114112)) → IsCharacter (encode c) c
character_three c low high gap = subst (λ bytes. IsCharacter bytes c) (sym (encode-three c low high)) (record {
  well_formed = whole_three (224 + c / 4096) (128 + (c / 64) % 64) (128 + c % 64)
      ∙ and_from (is_in (0xE0, 0xEF) (224 + c / 4096)) (fits_second (224 + c / 4096) (128 + (c / 64) % 64) && is_in tail (128 + c % 64))
      (within 0xE0 0xEF (224 + c / 4096) (omega arith) (omega arith))
      (and_from (fits_second (224 + c / 4096) (128 + (c / 64) % 64)) (is_in tail (128 + c % 64))
      (fits (224 + c / 4096) (128 + (c / 64) % 64) (omega arith) (omega arith) (λ e. omega arith)
      (λ e. ⊎_elim (λ below. omega arith) (λ above. let from : 57344 ≤ c = above.0 in omega arith) gap) (λ e. omega arith) (λ e. omega arith))
      (within 0x80 0xBF (128 + c % 64) (omega arith) (omega arith)));
  scalar = omega arith;
})

character_four : (c : ℕ) → 65536 ≤ c → c < 1114112 → IsCharacter (encode c) c
character_four c low high = subst (λ bytes. IsCharacter bytes c) (sym (encode-four c low)) (record {
  well_formed = whole_four (240 + c / 262144) (128 + (c / 4096) % 64) (128 + (c / 64) % 64) (128 + c % 64)
      ∙ and_from (is_in (0xF0, 0xF4) (240 + c / 262144)) (fits_second (240 + c / 262144) (128 + (c / 4096) % 64) && (is_in tail (128 + (c / 64) % 64) && is_in tail (128 + c % 64)))
      (within 0xF0 0xF4 (240 + c / 262144) (omega arith) (omega arith))
      (and_from (fits_second (240 + c / 262144) (128 + (c / 4096) % 64)) (is_in tail (128 + (c / 64) % 64) && is_in tail (128 + c % 64))
      (fits (240 + c / 262144) (128 + (c / 4096) % 64) (omega arith) (omega arith) (λ e. omega arith) (λ e. omega arith) (λ e. omega arith) (λ e. omega arith))
      (and_from (is_in tail (128 + (c / 64) % 64)) (is_in tail (128 + c % 64))
      (within 0x80 0xBF (128 + (c / 64) % 64) (omega arith) (omega arith)) (within 0x80 0xBF (128 + c % 64) (omega arith) (omega arith))));
  scalar = omega (arith, spread c);
})

pub character_of_form : (c : ℕ) → IsScalar c → IsCharacter (encode c) c
character_of_form c scalar =
    let gap = scalar_cases c scalar in
    ⊎_elim (λ one. character_one c one)
    (λ more. ⊎_elim (λ two. character_two c more two)
    (λ three. ⊎_elim (λ high. character_three c three high gap)
    (λ four. character_four c four (⊎_elim (λ below. omega arith) (λ above. above.1) gap))
    (cases_lt c 65536))
    (cases_lt c 2048))
    (cases_lt c 128)

pub tables_agree : (bytes : List ℕ) (value : ℕ) → IsCharacter bytes value ↔ (IsScalar value × (encode value ≡ bytes))
tables_agree bytes value =
    (form_of bytes value, λ h. subst (λ b. IsCharacter b value) h.1 (character_of_form value h.0))
