-- Where a text is cut at its first `mark`.
use Rattle.rx_refs.proofs.Common.{◌≡◌, ◌∙◌, ℕ, true, false, [], ◌∷◌, ◌++◌, ap, refl, arith, Option, Some, None, ◌==◌, Bool, nat_tests, by_test, Chars, split_at, front_grows, or_parts, and_parts, and_from, list_any, list_all, before, from_first, behind, holds, same_char}

pub behind-none : (mark : ℕ) (text : Chars) → behind mark text ≡ None → (before mark text ≡ text) × (from_first mark text ≡ []) × (holds mark text ≡ false)
behind-none mark [] e = (refl, refl, refl)
behind-none mark (c ∷ text) e =
    by_test (c == mark) (λ t. let h : Some text ≡ None = rw t at e in absurd (cc h)) (λ t.
    let h = behind-none mark text (rw t at e) in
    (rw t (ap (λ x. c ∷ x) h.0), rw t h.1, rw t h.2))

pub behind-some : (mark : ℕ) (text rest : Chars) → behind mark text ≡ Some rest → (text ≡ before mark text ++ mark ∷ rest) × (from_first mark text ≡ mark ∷ rest)
behind-some mark [] rest e = absurd (cc e)
behind-some mark (c ∷ text) rest e =
    by_test (c == mark) (λ t.
    let h : Some text ≡ Some rest = rw t at e in
    let s = same_char c mark t in
    let r : text ≡ rest = cc h in
    (rw t cc, rw t cc)) (λ t.
    let h = behind-some mark text rest (rw t at e) in
    (rw t (ap (λ x. c ∷ x) h.0), rw t h.1))

pub before-lacks : (mark : ℕ) (text : Chars) → holds mark (before mark text) ≡ false
before-lacks mark [] = refl
before-lacks mark (c ∷ text) = by_test (c == mark) (λ t. rw t refl) (λ t. rw (t, t) (before-lacks mark text))

pub before-from : (mark : ℕ) (text : Chars) → before mark text ++ from_first mark text ≡ text
before-from mark [] = refl
before-from mark (c ∷ text) = by_test (c == mark) (λ t. rw t refl) (λ t. rw t (ap (λ x. c ∷ x) (before-from mark text)))

abbrev pub with_front : Chars → Option Chars → Option (Chars × Chars)
with_front front None = None
with_front front (Some rest) = Some (front, rest)

grown : (c : ℕ) (front : Chars) (o : Option Chars) → front_grows c (with_front front o) ≡ with_front (c ∷ front) o
grown c front None = refl
grown c front (Some rest) = refl

-- `split_at` is the two together
pub split_at-parts : (mark : ℕ) (text : Chars) → split_at mark text ≡ with_front (before mark text) (behind mark text)
split_at-parts mark [] = refl
split_at-parts mark (c ∷ text) =
    by_test (c == mark) (λ t. rw t refl) (λ t. rw t (ap (front_grows c) (split_at-parts mark text) ∙ grown c (before mark text) (behind mark text)))

-- the first `mark`, when nothing before it is one
pub cut-at : (mark : ℕ) (front rest : Chars) → holds mark front ≡ false
    → (before mark (front ++ mark ∷ rest) ≡ front) × (from_first mark (front ++ mark ∷ rest) ≡ mark ∷ rest) × (behind mark (front ++ mark ∷ rest) ≡ Some rest)
cut-at mark [] rest h = let t : (mark == mark) ≡ true = grind (arith, nat_tests) in (rw t refl, rw t refl, rw t refl)
cut-at mark (c ∷ front) rest h =
    by_test (c == mark) (λ t. let g : true ≡ false = rw t at h in absurd (cc g)) (λ t.
    let g = cut-at mark front rest (rw t at h) in
    (rw t (ap (λ x. c ∷ x) g.0), rw t g.1, rw t g.2))

pub uncut : (mark : ℕ) (text : Chars) → holds mark text ≡ false → (before mark text ≡ text) × (from_first mark text ≡ []) × (behind mark text ≡ None)
uncut mark [] h = (refl, refl, refl)
uncut mark (c ∷ text) h =
    by_test (c == mark) (λ t. let g : true ≡ false = rw t at h in absurd (cc g)) (λ t.
    let g = uncut mark text (rw t at h) in
    (rw t (ap (λ x. c ∷ x) g.0), rw t g.1, rw t g.2))

pub before-lacking : (mark : ℕ) (front rest : Chars) → holds mark front ≡ false → before mark (front ++ rest) ≡ front ++ before mark rest
before-lacking mark [] rest h = refl
before-lacking mark (c ∷ front) rest h =
    let p = or_parts (c == mark) (holds mark front) h in
    rw p.0 (ap (λ x. c ∷ x) (before-lacking mark front rest p.1))

-- what all characters of one class are, and what none of them is
pub all-of : (class test : ℕ → Bool) → ((c : ℕ) → class c ≡ true → test c ≡ true) → (text : Chars) → list_all class text ≡ true → list_all test text ≡ true
all-of class test each [] h = refl
all-of class test each (c ∷ text) h = let p = and_parts (class c) (list_all class text) h in and_from (test c) (list_all test text) (each c p.0) (all-of class test each text p.1)

pub none-of : (class test : ℕ → Bool) → ((c : ℕ) → class c ≡ true → test c ≡ false) → (text : Chars) → list_all class text ≡ true → list_any test text ≡ false
none-of class test each [] h = refl
none-of class test each (c ∷ text) h = let p = and_parts (class c) (list_all class text) h in rw (each c p.0) (none-of class test each text p.1)
