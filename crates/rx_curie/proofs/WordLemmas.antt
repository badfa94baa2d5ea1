-- Texts that are compared with a word without being made.
use Rattle.rx_rdfa.proofs.Common.{◌≡◌, ◌∙◌, ℕ, true, false, [], ◌∷◌, ◌++◌, sym, ap, subst, refl, arith, ◌==◌, ◌&&◌, not, list_all, and_parts, nat_tests, Decides-eqb, Chars, begins_with, is_forbidden, by_test, bytes_eq, cleaned}
use Rattle.rx_curie.specs.Refusing.{is_uncleaned}

pub same-behind : (front a b : Chars) → bytes_eq (front ++ a) (front ++ b) ≡ bytes_eq a b
same-behind [] a b = refl
same-behind (c ∷ front) a b = let t : (c == c) ≡ true = grind (arith, nat_tests) in rw t (same-behind front a b)

pub no-front : (front more word : Chars) → begins_with front word ≡ false → bytes_eq (front ++ more) word ≡ false
no-front [] more word h = absurd (cc h)
no-front (c ∷ front) more [] h = refl
no-front (c ∷ front) more (d ∷ word) h = by_test (c == d) (λ t. rw t (no-front front more word (rw t at h))) (λ t. rw t refl)

-- an escape begins with a character that the word doesn't have
pub cleaned-same : (text word : Chars) → list_all is_uncleaned word ≡ true → bytes_eq (cleaned text) word ≡ bytes_eq text word
cleaned-same [] word h = refl
cleaned-same (c ∷ text) [] h = by_test (is_forbidden c) (λ t. rw t refl) (λ t. rw t refl)
cleaned-same (c ∷ text) (d ∷ word) h =
    let p = and_parts (is_uncleaned d) (list_all is_uncleaned word) h in
    let q = and_parts (not (is_forbidden d)) (not (d == 37)) p.0 in
    let mark : (37 == d) ≡ false = other d q.1 in
    by_test (is_forbidden c) (λ t. let apart : (c == d) ≡ false = forbidden c d t q.0 in rw (t, mark, apart) refl) (λ t. rw t (ap (λ b. (c == d) && b) (cleaned-same text word p.1))) where
      other : (d : ℕ) → not (d == 37) ≡ true → (37 == d) ≡ false
      other d e = grind (arith, nat_tests)

      forbidden : (c d : ℕ) → is_forbidden c ≡ true → not (is_forbidden d) ≡ true → (c == d) ≡ false
      forbidden c d f n =
          by_test (c == d) (λ e. let same : c ≡ d = (Decides-eqb c d).0 e in let both : false ≡ true = sym (ap not f) ∙ subst (λ x. not (is_forbidden x) ≡ true) (sym same) n in absurd (cc both)) (λ e. e)
