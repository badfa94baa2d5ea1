-- Two fronts of one list.
use Rattle.rx_grammar.proofs.Common.{◌≡◌, ℕ, Bool, true, false, eqb-true, [], ◌∷◌, ◌++◌, refl, ap, sym, ◌∙◌, inl, inr, ◌⊎◌, subst, ◌&&◌, ◌==◌, not, codes, eq-eqb, or_left, or_right, and_from, list_all, list_any, is_letter, is_digit, is_letter_or_digit, number_sign, semicolon, greater_than_sign, Chars, begins_with, both, either, same, is_hexadecimal_digit, is_x, begins_number, is_begun, ends_with}
use Rattle.rx_reader.proofs.Classes.{of_one, unless}

pub equal : (n : ℕ) → (n == n) ≡ true
equal n = eq-eqb n n refl

-- one list is a front of the other
pub record Longer (xs ys m n : Chars) : Type 0 where
  pub z : Chars
  pub is : ys ≡ xs ++ z
  pub rest : m ≡ z ++ n

pub two_fronts : (xs ys m n : Chars) → xs ++ m ≡ ys ++ n → Longer xs ys m n ⊎ Longer ys xs n m
two_fronts [] ys m n e = inl (record { z = ys; is = refl; rest = e })
two_fronts (x ∷ xs) [] m n e = inr (record { z = x ∷ xs; is = refl; rest = sym e })
two_fronts (x ∷ xs) (y ∷ ys) m n e =
    let h : x ≡ y = cc in
    elim (two_fronts xs ys m n (cc)) [
      | inl d ↦ inl (record { z = d.z; is = ap (λ c. c ∷ ys) (sym h) ∙ ap (λ r. x ∷ r) d.is; rest = d.rest })
      | inr d ↦ inr (record { z = d.z; is = ap (λ c. c ∷ xs) h ∙ ap (λ r. y ∷ r) d.is; rest = d.rest })
    ]

-- begins_with
pub begins_append : (p q : Chars) → begins_with p (p ++ q) ≡ true
begins_append [] q = refl
begins_append (c ∷ p) q = rw (equal c, begins_append p q) refl

pub begins_front : (a b y : Chars) → begins_with (a ++ b) y ≡ true → begins_with a y ≡ true
begins_front [] b y h = refl
begins_front (c ∷ a) b [] h = absurd (cc)
begins_front (c ∷ a) b (d ∷ y) h = let k = both (c == d) _ h in rw (k.0, begins_front a b y k.1) refl

pub begins_more : (p text z : Chars) → begins_with p text ≡ true → begins_with p (text ++ z) ≡ true
begins_more [] text z h = refl
begins_more (c ∷ p) [] z h = absurd (cc)
begins_more (c ∷ p) (d ∷ text) z h = let k = both (c == d) _ h in rw (k.0, begins_more p text z k.1) refl

pub has_end : (text : Chars) → ends_with (codes ">") text ≡ true → list_any (λ c. c == greater_than_sign) text ≡ true
has_end [] h = absurd (cc)
has_end (c ∷ text) h = elim (either (same (codes ">") (c ∷ text)) _ h) [
  | inl e ↦ let b = both (62 == c) _ e in of_one' c b.0 text
  | inr e ↦ or_right (c == greater_than_sign) _ (has_end text e)
]
  where
    of_one' : (c : ℕ) → (62 == c) ≡ true → (text : Chars) → list_any (λ c. c == greater_than_sign) (c ∷ text) ≡ true
    of_one' c e text = subst (λ (x : ℕ). list_any (λ c. c == greater_than_sign) (x ∷ text) ≡ true) (eqb-true 62 c e) refl

-- runs hold no semicolon, and each front of one is one
pub no_mark : (test : ℕ → Bool) (mark : ℕ) → test mark ≡ false → (text : Chars) → list_all test text ≡ true → list_all (λ c. not (c == mark)) text ≡ true
no_mark test mark m [] h = refl
no_mark test mark m (c ∷ text) h =
    let b = both (test c) _ h in
    rw (unless test c (c == mark) b.0 (λ e. of_one (λ x. test x ≡ false) c mark e m), no_mark test mark m text b.1) refl

number_no_mark : (text : Chars) → begins_number text ≡ true → list_all (λ c. not (c == semicolon)) text ≡ true
number_no_mark [] h = refl
number_no_mark (c ∷ text) h = elim (either (is_digit c && list_all is_digit text) _ h) [
  | inl e ↦ no_mark is_digit semicolon refl (c ∷ text) e
  | inr e ↦ let b = both (is_x c) _ e in rw (unless is_x c (c == semicolon) b.0 (λ f. of_one (λ x. is_x x ≡ false) c semicolon f refl), no_mark is_hexadecimal_digit semicolon refl text b.1) refl
]

pub begun_no_mark : (text : Chars) → is_begun text ≡ true → list_all (λ c. not (c == semicolon)) text ≡ true
begun_no_mark [] h = refl
begun_no_mark (c ∷ text) h = elim (either (is_letter c && list_all is_letter_or_digit text) _ h) [
  | inl e ↦ let b = both (is_letter c) _ e in rw (unless is_letter c (c == semicolon) b.0 (λ f. of_one (λ x. is_letter x ≡ false) c semicolon f refl), no_mark is_letter_or_digit semicolon refl text b.1) refl
  | inr e ↦ let b = both (c == number_sign) _ e in rw (unless (λ x. x == number_sign) c (c == semicolon) b.0 (λ f. of_one (λ x. (x == number_sign) ≡ false) c semicolon f refl), number_no_mark text b.1) refl
]

pub all_front : (test : ℕ → Bool) (a b : Chars) → list_all test (a ++ b) ≡ true → list_all test a ≡ true
all_front test [] b h = refl
all_front test (c ∷ a) b h = let k = both (test c) _ h in rw (k.0, all_front test a b k.1) refl

number_front : (a b : Chars) → begins_number (a ++ b) ≡ true → begins_number a ≡ true
number_front [] b h = refl
number_front (c ∷ a) b h = elim (either (is_digit c && list_all is_digit (a ++ b)) _ h) [
  | inl e ↦ let k = both (is_digit c) _ e in or_left _ _ (and_from (is_digit c) _ k.0 (all_front is_digit a b k.1))
  | inr e ↦ let k = both (is_x c) _ e in or_right _ _ (and_from (is_x c) _ k.0 (all_front is_hexadecimal_digit a b k.1))
]

pub begun_front : (a b : Chars) → is_begun (a ++ b) ≡ true → is_begun a ≡ true
begun_front [] b h = refl
begun_front (c ∷ a) b h = elim (either (is_letter c && list_all is_letter_or_digit (a ++ b)) _ h) [
  | inl e ↦ let k = both (is_letter c) _ e in or_left _ _ (and_from (is_letter c) _ k.0 (all_front is_letter_or_digit a b k.1))
  | inr e ↦ let k = both (c == number_sign) _ e in or_right _ _ (and_from (c == number_sign) _ k.0 (number_front a b k.1))
]
