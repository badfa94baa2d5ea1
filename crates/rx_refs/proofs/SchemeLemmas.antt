-- Schemes, and what of them is left in what a reference means.
use Rattle.rx_refs.proofs.Common.{◌≡◌, ◌∙◌, ℕ, zero, suc, ◌<◌, ◌/◌, ◌%◌, length, get_or, Bool, true, false, List, [], ◌∷◌, ◌++◌, drop, sym, ap, refl, arith, Option, Some, None, ◌==◌, list_all, list_any, and_parts, or_parts, nat_tests, list_any-append, Chars, is_scheme_char, is_scheme, has_scheme, is_forbidden, has_forbidden, IsIri, begins_with_letter, begins_with_scheme, by_test, codes, append_assoc, digit, escaped, cleaned_char, cleaned, before, from_first, behind, scheme_of, behind_scheme, holds}
use Rattle.rx_refs.proofs.PartLemmas.{before-from, before-lacking, none-of, with_front, split_at-parts, behind-none, behind-some, before-lacks, cut-at, uncut}

pub has_scheme-cut : (front rest : Chars) → holds 58 front ≡ false → has_scheme (front ++ 58 ∷ rest) ≡ is_scheme front
has_scheme-cut front rest h =
    let g = cut-at 58 front rest h in
    let cut : with_front (before 58 (front ++ 58 ∷ rest)) (behind 58 (front ++ 58 ∷ rest)) ≡ Some (front, rest) = rw (g.2, g.0) refl in
    ap begins_with_scheme (split_at-parts 58 (front ++ 58 ∷ rest) ∙ cut)

pub has_scheme-uncut : (text : Chars) → holds 58 text ≡ false → has_scheme text ≡ false
has_scheme-uncut text h =
    let g = uncut 58 text h in
    let cut : with_front (before 58 text) (behind 58 text) ≡ None = rw g.2 refl in
    ap begins_with_scheme (split_at-parts 58 text ∙ cut)

pub scheme-cut : (front rest : Chars) → holds 58 front ≡ false → is_scheme front ≡ true
    → (scheme_of (front ++ 58 ∷ rest) ≡ Some front) × (behind_scheme (front ++ 58 ∷ rest) ≡ rest)
scheme-cut front rest h s =
    let has = has_scheme-cut front rest h ∙ s in
    let g = cut-at 58 front rest h in
    (rw has (ap (λ (x : Chars). Some x) g.0), rw has (ap (drop 1) g.1))

pub scheme-none : (text : Chars) → has_scheme text ≡ false → (scheme_of text ≡ None) × (behind_scheme text ≡ text)
scheme-none text h = (rw h refl, rw h refl)

-- a text with a scheme, taken apart
pub record IsCut (text : Chars) : Type 0 where
  pub front : Chars
  pub rest : Chars
  pub whole : text ≡ front ++ 58 ∷ rest
  pub lacks : holds 58 front ≡ false
  pub scheme : is_scheme front ≡ true

pub cut-scheme : (text : Chars) → has_scheme text ≡ true → IsCut text
cut-scheme text h = go (behind 58 text) refl where
  go : (o : Option Chars) → behind 58 text ≡ o → IsCut text
  go None e =
      let lacks = (behind-none 58 text e).2 in
      let none : true ≡ false = sym h ∙ has_scheme-uncut text lacks in
      absurd (cc none)
  go (Some rest) e =
      let whole = (behind-some 58 text rest e).0 in
      let lacks = before-lacks 58 text in
      record {
        front = before 58 text;
        rest = rest;
        whole = whole;
        lacks = lacks;
        scheme = sym (ap has_scheme whole ∙ has_scheme-cut (before 58 text) rest lacks) ∙ h;
      }

-- the characters of a scheme
pub scheme_chars : (text : Chars) → is_scheme text ≡ true → list_all is_scheme_char text ≡ true
scheme_chars text h = (and_parts (begins_with_letter text) (list_all is_scheme_char text) h).1

pub no_hash : (text : Chars) → list_all is_scheme_char text ≡ true → holds 35 text ≡ false
no_hash = none-of is_scheme_char (λ c. c == 35) (λ c h. grind (arith, nat_tests))

pub clean-of : (a b : Chars) → has_forbidden (a ++ b) ≡ false → (has_forbidden a ≡ false) × (has_forbidden b ≡ false)
clean-of a b h = or_parts (has_forbidden a) (has_forbidden b) (sym (list_any-append is_forbidden a b) ∙ h)

pub before-clean : (mark : ℕ) (text : Chars) → has_forbidden text ≡ false → has_forbidden (before mark text) ≡ false
before-clean mark text h = (clean-of (before mark text) (from_first mark text) (ap has_forbidden (before-from mark text) ∙ h)).0

pub iri-front : (text : Chars) → IsIri text → IsIri (before 35 text)
iri-front text iri =
    let c = cut-scheme text iri.scheme in
    let front : before 35 text ≡ c.front ++ 58 ∷ before 35 c.rest = ap (before 35) c.whole ∙ before-lacking 35 c.front (58 ∷ c.rest) (no_hash c.front (scheme_chars c.front c.scheme)) in
    record { scheme = ap has_scheme front ∙ has_scheme-cut c.front (before 35 c.rest) c.lacks ∙ c.scheme; clean = before-clean 35 text iri.clean }

-- Escapes leave a scheme, and no forbidden character

pub cleaned-append : (a b : Chars) → cleaned (a ++ b) ≡ cleaned a ++ cleaned b
cleaned-append [] b = refl
cleaned-append (c ∷ a) b = ap (λ (x : Chars). cleaned_char c ++ x) (cleaned-append a b) ∙ sym (append_assoc (cleaned_char c) (cleaned a) (cleaned b))

pub uncleaned : (text : Chars) → has_forbidden text ≡ false → cleaned text ≡ text
uncleaned [] h = refl
uncleaned (c ∷ text) h =
    let p = or_parts (is_forbidden c) (has_forbidden text) h in
    rw p.0 (ap (λ x. c ∷ x) (uncleaned text p.1))

-- the characters of a scheme stay
pub scheme-clean : (text : Chars) → list_all is_scheme_char text ≡ true → has_forbidden text ≡ false
scheme-clean = none-of is_scheme_char is_forbidden (λ c h. grind (arith, nat_tests))

pub cleaned-has-scheme : (front rest : Chars) → holds 58 front ≡ false → is_scheme front ≡ true → has_scheme (cleaned (front ++ 58 ∷ rest)) ≡ true
cleaned-has-scheme front rest lacks h =
    let whole : cleaned (front ++ 58 ∷ rest) ≡ front ++ 58 ∷ cleaned rest = cleaned-append front (58 ∷ rest) ∙ ap (λ (x : Chars). x ++ 58 ∷ cleaned rest) (uncleaned front (scheme-clean front (scheme_chars front h))) in
    ap has_scheme whole ∙ has_scheme-cut front (cleaned rest) lacks ∙ h

pub none_at : (p : ℕ → Bool) (xs : List ℕ) (n : ℕ) → list_any p xs ≡ false → n < length xs → p (get_or xs n 0) ≡ false
none_at p [] n h l = absurd (omega arith)
none_at p (x ∷ xs) zero h l = by_test (p x) (λ t. let g : true ≡ false = rw t at h in absurd (cc g)) (λ t. t)
none_at p (x ∷ xs) (suc n) h l = by_test (p x) (λ t. let g : true ≡ false = rw t at h in absurd (cc g)) (λ t. none_at p xs n (rw t at h) (omega arith))

pub forbidden-small : (c : ℕ) → is_forbidden c ≡ true → c < 128
forbidden-small c h = grind (arith, nat_tests)

escaped-clean : (c : ℕ) → is_forbidden c ≡ true → has_forbidden (escaped c) ≡ false
escaped-clean c h =
    let small = forbidden-small c h in
    let high : is_forbidden (digit (c / 16)) ≡ false = none_at is_forbidden (codes "0123456789ABCDEF") (c / 16) refl (omega arith) in
    let low : is_forbidden (digit (c % 16)) ≡ false = none_at is_forbidden (codes "0123456789ABCDEF") (c % 16) refl (omega arith) in
    rw (high, low) refl

cleaned_char-clean : (c : ℕ) → has_forbidden (cleaned_char c) ≡ false
cleaned_char-clean c = by_test (is_forbidden c) (λ t. rw t (escaped-clean c t)) (λ t. rw (t, t) refl)

pub cleaned-clean : (text : Chars) → has_forbidden (cleaned text) ≡ false
cleaned-clean [] = refl
cleaned-clean (c ∷ text) = list_any-append is_forbidden (cleaned_char c) (cleaned text) ∙ rw (cleaned_char-clean c, cleaned-clean text) refl
