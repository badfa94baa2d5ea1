-- Tests of a text by its last character, and what stands behind a front of it.
use Rattle.rx_pages.proofs.Common.{◌≡◌, ◌∙◌, ℕ, Bool, true, false, [], ◌∷◌, ◌++◌, refl, ap, sym, eqb-true, Option, Some, None, length, slice_get, ◌&&◌, ◌||◌, ◌==◌, Chars, is_empty, begins_with, both, same_truth, and-false, and-true, or-false, and_assoc, and_comm, list_all, eq-eqb, same, ends_with, equal}

-- same d for both
either_and : (a b d : Bool) → ((a && d) || (d && b)) ≡ (d && (a || b))
either_and true b true = refl
either_and _ _ _ = refl

no_more : (e : Chars) (d : ℕ) → same (e ++ d ∷ []) [] ≡ false
no_more [] d = refl
no_more (x ∷ e) d = refl

pub same_snoc : (e : Chars) (d : ℕ) (text : Chars) (c : ℕ) → same (e ++ d ∷ []) (text ++ c ∷ []) ≡ (same e text && (d == c))
same_snoc [] d [] c = and-true (d == c)
same_snoc [] d (t ∷ []) c = and-false (d == t)
same_snoc [] d (t ∷ u ∷ text) c = and-false (d == t)
same_snoc (x ∷ e) d [] c = ap (λ b. (x == c) && b) (no_more e d) ∙ and-false (x == c)
same_snoc (x ∷ e) d (t ∷ text) c = ap (λ b. (x == t) && b) (same_snoc e d text c) ∙ sym (and_assoc (x == t) (same e text) (d == c))

pub ends_snoc : (e : Chars) (d : ℕ) (text : Chars) (c : ℕ) → ends_with (e ++ d ∷ []) (text ++ c ∷ []) ≡ ((d == c) && ends_with e text)
ends_snoc e d [] c = ap (λ b. b || same (e ++ d ∷ []) []) (same_snoc e d [] c) ∙ (ap (λ b. (same e [] && (d == c)) || b) (no_more e d) ∙ (or-false (same e [] && (d == c)) ∙ and_comm (same e []) (d == c)))
ends_snoc e d (t ∷ text) c =
    ap (λ b. b || ends_with (e ++ d ∷ []) (text ++ c ∷ [])) (same_snoc e d (t ∷ text) c) ∙ (ap (λ b. (same e (t ∷ text) && (d == c)) || b) (ends_snoc e d text c) ∙ either_and (same e (t ∷ text)) (ends_with e text) (d == c))

pub empty_snoc : (text : Chars) (c : ℕ) → is_empty (text ++ c ∷ []) ≡ false
empty_snoc [] c = refl
empty_snoc (t ∷ text) c = refl

none : (text : Chars) → same text [] ≡ is_empty text
none [] = refl
none (t ∷ text) = refl

pub snoc_same : (e : Chars) (d : ℕ) (text : Chars) (c : ℕ) → same (text ++ c ∷ []) (e ++ d ∷ []) ≡ (same text e && (c == d))
snoc_same [] d [] c = and-true (c == d)
snoc_same [] d (t ∷ []) c = and-false (t == d)
snoc_same [] d (t ∷ u ∷ text) c = and-false (t == d)
snoc_same (x ∷ []) d [] c = and-false (c == x)
snoc_same (x ∷ y ∷ e) d [] c = and-false (c == x)
snoc_same (x ∷ e) d (t ∷ text) c = ap (λ b. (t == x) && b) (snoc_same e d text c) ∙ sym (and_assoc (t == x) (same text e) (c == d))

-- a text of one character
pub lone_snoc : (d : ℕ) (text : Chars) (c : ℕ) → same (text ++ c ∷ []) (d ∷ []) ≡ (is_empty text && (c == d))
lone_snoc d text c = snoc_same [] d text c ∙ ap (λ b. b && (c == d)) (none text)

pub either_way : (a b : ℕ) → (a == b) ≡ (b == a)
either_way a b = same_truth (a == b) (b == a) (λ h. eq-eqb b a (sym (eqb-true a b h))) (λ h. eq-eqb a b (sym (eqb-true b a h)))

-- the text ends with its last character
pub ends_one : (d : ℕ) (text : Chars) (c : ℕ) → ends_with (d ∷ []) (text ++ c ∷ []) ≡ (d == c)
ends_one d text c = ends_snoc [] d text c ∙ (ap (λ b. (d == c) && b) (always text) ∙ and-true (d == c))
  where
    always : (text : Chars) → ends_with [] text ≡ true
    always [] = refl
    always (t ∷ text) = always text

abbrev pub head_of : Chars → Option ℕ
head_of [] = None
head_of (d ∷ left) = Some d

-- the character behind a front
pub slice_at : (front left : Chars) → slice_get (front ++ left) (length front) ≡ head_of left
slice_at [] [] = refl
slice_at [] (d ∷ left) = refl
slice_at (c ∷ front) left = slice_at front left

-- the one of a word, of which so many were read
pub word_at : (word front left : Chars) (n : ℕ) → word ≡ front ++ left → length front ≡ n → slice_get word n ≡ head_of left
word_at word front left n e c = ap (λ x. slice_get x n) e ∙ (ap (λ k. slice_get (front ++ left) k) (sym c) ∙ slice_at front left)

-- a front that two texts have
pub cancel : (a b c : Chars) → begins_with (a ++ b) (a ++ c) ≡ begins_with b c
cancel [] b c = refl
cancel (x ∷ a) b c = ap (λ t. t && begins_with (a ++ b) (a ++ c)) (equal x) ∙ cancel a b c

-- a front begins with nothing that is longer
pub short : (a : Chars) (d : ℕ) (left : Chars) → begins_with (a ++ d ∷ left) a ≡ false
short [] d left = refl
short (x ∷ a) d left = ap (λ t. t && begins_with (a ++ d ∷ left) a) (equal x) ∙ short a d left

pub all_at : (test : ℕ → Bool) (a : Chars) (d : ℕ) (b : Chars) → list_all test (a ++ d ∷ b) ≡ true → test d ≡ true
all_at test [] d b h = (both (test d) _ h).0
all_at test (x ∷ a) d b h = all_at test a d b (both (test x) _ h).1
