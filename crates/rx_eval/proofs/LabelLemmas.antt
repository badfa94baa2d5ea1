-- Labels and their numbers.
use Rattle.rx_eval.proofs.Common.{◌≡◌, ◌∙◌, ℕ, ◌+◌, ◌<◌, false, cond, List, [], ◌∷◌, ◌++◌, map, length, get_or, Some, None, bytes_eq, refl, sym, ap, ap₂, subst, arith, position_or_len, list_any, position, chars, IsUtf8, map-append, length-map, by_test, same-chars, nat_lt, exact_texts, Numbered, label_number}
use Rattle.rx_lists.specs.Rows.{first_place, FoundAt}
use Rattle.rx_lists.proofs.RowLemmas.{found_in, same_turned, not_first, behind}
use Rattle.rx_eval.specs.Rows.{label_rows, IsNew}

number_at : (p : List ℕ) (ks : List (List ℕ)) (ns : List ℕ) (d : ℕ) → length ks ≡ length ns → first_place p ks < length ks → Some (get_or ns (first_place p ks) d) ≡ label_number (label_rows ks ns) p
number_at p [] ns d e h = absurd (omega arith)
number_at p (k ∷ ks) [] d e h = absurd (omega arith)
number_at p (k ∷ ks) (n ∷ ns) d e h =
    by_test (bytes_eq k p) (λ t. rw t refl) (λ f. rw f (number_at p ks ns d (omega arith) (behind p k ks f h)))

no_number : (p : List ℕ) (ks : List (List ℕ)) (ns : List ℕ) → first_place p ks ≡ length ks → None ≡ label_number (label_rows ks ns) p
no_number p (k ∷ ks) (n ∷ ns) h = let q = not_first p k ks h in rw q.0 (no_number p ks ns q.1)
no_number p _ _ h = refl

pub found : (p : List ℕ) (ks : List (List ℕ)) (ns : List ℕ) (all : Numbered) (i n : ℕ) → label_rows ks ns ≡ all → length ks ≡ length ns → Some i ≡ position (bytes_eq p) ks → n ≡ get_or ns i n
    → Some n ≡ label_number all p
found p ks ns all i n v e s g =
    let at : FoundAt p ks (Some i) = subst (FoundAt p ks) (sym s) (found_in bytes_eq exact_texts p ks) in
    let w : first_place p ks < length ks = subst (λ (x : ℕ). x < length ks) at.0 at.1 in
    ap Some (g ∙ ap (λ (x : ℕ). get_or ns x n) at.0) ∙ number_at p ks ns n e w ∙ ap (λ (x : Numbered). label_number x p) v

pub missing : (p : List ℕ) (ks : List (List ℕ)) (ns : List ℕ) (all : Numbered) → label_rows ks ns ≡ all → None ≡ position (bytes_eq p) ks → None ≡ label_number all p
missing p ks ns all v s = no_number p ks ns (subst (FoundAt p ks) (sym s) (found_in bytes_eq exact_texts p ks)) ∙ ap (λ (x : Numbered). label_number x p) v

is_new : (p : List ℕ) (ks : List (List ℕ)) (ns : List ℕ) → length ks ≡ length ns → label_number (label_rows ks ns) p ≡ None → IsNew p ks
is_new p [] ns e h = refl
is_new p (k ∷ ks) [] e h = absurd (omega arith)
is_new p (k ∷ ks) (n ∷ ns) e h = by_test (bytes_eq k p) (λ t. absurd (cc (rw t at h))) (λ f. rw f (is_new p ks ns (omega arith) (rw f at h)))

pub is_new_in : (p q : List ℕ) (ks : List (List ℕ)) (ns : List ℕ) (all : Numbered) → label_rows ks ns ≡ all → length ks ≡ length ns → q ≡ p → label_number all p ≡ None → IsNew q ks
is_new_in p q ks ns all v e s h = subst (λ (x : List ℕ). IsNew x ks) (sym s) (is_new p ks ns e (ap (λ (x : Numbered). label_number x p) v ∙ h))

pub rows_more : (ks : List (List ℕ)) (ns : List ℕ) (k : List ℕ) (n : ℕ) → length ks ≡ length ns → label_rows (ks ++ k ∷ []) (ns ++ n ∷ []) ≡ label_rows ks ns ++ (k, n) ∷ []
rows_more [] [] k n e = refl
rows_more (j ∷ ks) (m ∷ ns) k n e = ap (λ (x : Numbered). (j, m) ∷ x) (rows_more ks ns k n (omega arith))
rows_more _ _ k n e = absurd (omega arith)

pub added : (all : Numbered) (ks more_ks : List (List ℕ)) (ns more_ns : List ℕ) (k p : List ℕ) (n : ℕ) → label_rows ks ns ≡ all → length ks ≡ length ns → k ≡ p
    → more_ks ≡ ks ++ k ∷ [] → more_ns ≡ ns ++ n ∷ [] → label_rows more_ks more_ns ≡ all ++ (p, n) ∷ []
added all ks more_ks ns more_ns k p n v e s g h = rw (g, h) (rows_more ks ns k n e ∙ ap (λ (x : Numbered). x ++ (k, n) ∷ []) v ∙ ap (λ (x : List ℕ). all ++ (x, n) ∷ []) s)

-- ---- keys that are kept as bytes

module _ {K : Type 0} (bytes : K → List ℕ) (ok : (k : K) → IsUtf8 (bytes k)) where
  abbrev texts : List K → List (List ℕ)
  texts ks = map (λ k. chars (bytes k)) ks

  same_first : (q : List ℕ) (ks : List K) → IsUtf8 q → position_or_len (λ k. bytes_eq q (bytes k)) ks ≡ position_or_len (bytes_eq (chars q)) (texts ks)
  same_first q [] u = refl
  same_first q (k ∷ ks) u = rw (same-chars q (bytes k) u (ok k)) (by_test (bytes_eq (chars q) (chars (bytes k))) (λ t. rw t refl) (λ f. rw f (ap (λ (n : ℕ). 1 + n) (same_first q ks u))))

  -- the place of a text among the keys is that of its characters
  pub same_position : (q : List ℕ) (ks : List K) → IsUtf8 q → position (λ k. bytes_eq q (bytes k)) ks ≡ position (bytes_eq (chars q)) (texts ks)
  same_position q ks u =
      ap₂ (λ (n m : ℕ). cond (nat_lt n m) (Some n) None) (same_first q ks u) (sym (length-map ks (λ k. chars (bytes k))))

  pub none_kept : (k : K) (ks : List K) → IsNew (chars (bytes k)) (texts ks) → list_any (λ x. bytes_eq (bytes k) (bytes x)) ks ≡ false
  none_kept k [] h = refl
  none_kept k (x ∷ ks) h =
      by_test (bytes_eq (chars (bytes x)) (chars (bytes k))) (λ t. absurd (cc (rw t at h)))
      (λ f. rw (same-chars (bytes k) (bytes x) (ok k) (ok x), same_turned bytes_eq exact_texts (chars (bytes k)) (chars (bytes x)), f) (none_kept k ks (rw f at h)))

  pub texts_more : (xs ys : List K) (k : K) → ys ≡ xs ++ k ∷ [] → texts ys ≡ texts xs ++ chars (bytes k) ∷ []
  texts_more xs ys k e = ap texts e ∙ map-append (λ k. chars (bytes k)) xs (k ∷ [])

  pub same_size : {A : Type 0} (ks : List K) (ns : List A) → length ks ≡ length ns → length (texts ks) ≡ length ns
  same_size ks ns e = length-map ks (λ k. chars (bytes k)) ∙ e
