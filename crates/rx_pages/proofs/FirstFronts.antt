-- The first front of a list of characters that meets a test.
use Rattle.rx_reader.proofs.Common.{◌≡◌, ◌≢◌, ◌∙◌, ℕ, Bool, true, false, [], ◌∷◌, ◌++◌, refl, ap, sym, subst, append-nil, append_assoc, inl, inr, eqb-true, ◌&&◌, ◌==◌, Chars, begins_with, both, either, not_both_ways, by_test, or_right, same, ends_with, IsFirst, snoc_front, same_self}
use Rattle.rx_pages.proofs.Reading.{Last, no_last, a_last, last_of}
use Rattle.rx_pages.proofs.Contents.{same_is}

-- no front meets the test, nor does the whole
abbrev pub NoFront : (Chars → Bool) → Chars → Type 0
NoFront test text = (front more : Chars) → text ≡ front ++ more → test front ≡ false

-- no front but the whole
abbrev pub NoneBefore : (Chars → Bool) → Chars → Type 0
NoneBefore test text = (front more : Chars) → text ≡ front ++ more → more ≢ [] → test front ≡ false

-- what stands before the last character of a front
record Cut (text front : Chars) (c : ℕ) (more : Chars) : Type 0 where
  left : Chars
  is : text ≡ front ++ left

cut_last : (text front : Chars) (c : ℕ) (more : Chars) → text ++ c ∷ [] ≡ front ++ more → more ≢ [] → Cut text front c more
cut_last text front c more e n = by (last_of more)
  where
    by : Last more → Cut text front c more
    by (no_last k) = absurd (n k)
    by (a_last m d k) = record { left = m; is = snoc_front text (front ++ m) c d (e ∙ (ap (λ x. front ++ x) k ∙ sym (append_assoc front m (d ∷ [])))) }

module _ (test : Chars → Bool) where
  pub no_front_nil : test [] ≡ false → NoFront test []
  no_front_nil h [] more e = h
  no_front_nil h (x ∷ front) more e = absurd (cc)

  pub none_before_nil : NoneBefore test []
  none_before_nil [] more e n = absurd (n (sym e))
  none_before_nil (x ∷ front) more e n = absurd (cc)

  pub no_front_snoc : (text : Chars) (c : ℕ) → NoFront test text → test (text ++ c ∷ []) ≡ false → NoFront test (text ++ c ∷ [])
  no_front_snoc text c n h front [] e = ap test (sym (append-nil front) ∙ sym e) ∙ h
  no_front_snoc text c n h front (x ∷ more) e = let k = cut_last text front c (x ∷ more) e (λ q. cc) in n front k.left k.is

  pub first_here : (text : Chars) (c : ℕ) → NoFront test text → test (text ++ c ∷ []) ≡ true → IsFirst test (text ++ c ∷ [])
  first_here text c n h = record { whole = h; first = λ front more e l. let k = cut_last text front c more e l in n front k.left k.is }

  pub none_before_snoc : (text : Chars) (c : ℕ) → NoneBefore test text → test text ≡ false → NoneBefore test (text ++ c ∷ [])
  none_before_snoc text c n h front more e l = by (cut_last text front c more e l)
    where
      by_left : (left : Chars) → text ≡ front ++ left → test front ≡ false
      by_left [] q = ap test (sym (append-nil front) ∙ sym q) ∙ h
      by_left (x ∷ left) q = n front (x ∷ left) q (λ k. cc)

      by : Cut text front c more → test front ≡ false
      by k = by_left k.left k.is

  pub whole_first : (text : Chars) → NoneBefore test text → test text ≡ true → IsFirst test text
  whole_first text n h = record { whole = h; first = n }

  pub all_none : (text : Chars) → NoneBefore test text → test text ≡ false → NoFront test text
  all_none text n h front [] e = ap test (sym (append-nil front) ∙ sym e) ∙ h
  all_none text n h front (x ∷ more) e = n front (x ∷ more) e (λ k. cc)

  -- where some continuation meets it, there is a first one
  pub record FirstMore (text : Chars) : Type 0 where
    pub d : ℕ
    pub rest : Chars
    pub first : IsFirst test (text ++ d ∷ rest)

  pub first_more : (text end : Chars) → NoFront test text → test (text ++ end) ≡ true → FirstMore text
  first_more text [] n h = absurd (not_both_ways (test text) (ap test (sym (append-nil text)) ∙ h) (n text [] (sym (append-nil text))))
  first_more text (d ∷ end) n h =
      by_test (test (text ++ d ∷ []))
      (λ t. record { d = d; rest = []; first = first_here text d n t })
      (λ t. let k = first_more (text ++ d ∷ []) end (no_front_snoc text d n t) (ap test (append_assoc text (d ∷ []) end) ∙ h) in
      record { d = d; rest = k.d ∷ k.rest; first = subst (IsFirst test) (append_assoc text (d ∷ []) (k.d ∷ k.rest)) k.first })

-- a text that begins with another one only with its last character is the other one
pub begins_exactly : (p text : Chars) (c : ℕ) → begins_with p text ≡ false → begins_with p (text ++ c ∷ []) ≡ true → text ++ c ∷ [] ≡ p
begins_exactly [] text c n h = absurd (cc)
begins_exactly (d ∷ []) [] c n h = let k = both (d == c) _ h in ap (λ x. x ∷ []) (sym (eqb-true d c k.0))
begins_exactly (d ∷ e ∷ p) [] c n h = let k = both (d == c) _ h in absurd (let q = k.1 in cc)
begins_exactly (d ∷ p) (x ∷ text) c n h =
    let k = both (d == x) _ h in
    let q : d ≡ x = eqb-true d x k.0 in
    ap (λ y. y ∷ (text ++ c ∷ [])) (sym q) ∙ ap (λ t. d ∷ t) (begins_exactly p text c (ap (λ b. b && begins_with p text) (sym k.0) ∙ n) k.1)

-- what a text ends with
pub record EndsSo (end text : Chars) : Type 0 where
  pub front : Chars
  pub are : text ≡ front ++ end

pub ends_so : (end text : Chars) → ends_with end text ≡ true → EndsSo end text
ends_so end [] h = record { front = []; are = sym (same_is end [] h) }
ends_so end (c ∷ text) h = elim (either (same end (c ∷ text)) _ h) [
  | inl e ↦ record { front = []; are = sym (same_is end (c ∷ text) e) }
  | inr e ↦ let k = ends_so end text e in record { front = c ∷ k.front; are = ap (λ x. c ∷ x) k.are }
]

pub ends_append : (text end : Chars) → ends_with end (text ++ end) ≡ true
ends_append [] [] = refl
ends_append [] (c ∷ end) = rw (same_self (c ∷ end)) refl
ends_append (d ∷ text) end = or_right (same end (d ∷ (text ++ end))) _ (ends_append text end)
