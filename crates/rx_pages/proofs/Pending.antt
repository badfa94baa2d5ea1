-- Characters that begin a token go on, and no token is read within them.
use Rattle.rx_pages.proofs.Words.{◌≡◌, ◌∙◌, ℕ, [], ◌∷◌, ◌++◌, Option, refl, sym, subst, append-nil, append_assoc, inl, inr, Chars, Syntax, Token, Spells, Content, two_fronts, Verdict, goes_on, whole, verdict, CharactersGoOn, ReadAs, at_last, at_next}
use Rattle.rx_pages.proofs.Spellings.{reads_each}

module _ (s : Syntax) (i : Content) where
  pub goes_front : (before a b : Chars) → CharactersGoOn s i before (a ++ b) → CharactersGoOn s i before a
  goes_front before [] b g = tt
  goes_front before (c ∷ a) b g = (g.0, goes_front (before ++ c ∷ []) a b g.1)

  -- each of them goes on
  pub goes_at : (before a : Chars) (c : ℕ) (b : Chars) → CharactersGoOn s i before (a ++ c ∷ b) → verdict s i (before ++ a) c ≡ goes_on
  goes_at before [] c b g = subst (λ x. verdict s i x c ≡ goes_on) (sym (append-nil before)) g.0
  goes_at before (d ∷ a) c b g = subst (λ x. verdict s i x c ≡ goes_on) (append_assoc before (d ∷ []) a) (goes_at (before ++ d ∷ []) a c b g.1)

  pub not_whole : (v : Verdict) (token : Token) → v ≡ goes_on → v ≡ whole token → ⊥
  not_whole v token h k = let e = sym h ∙ k in cc

  -- what stands before the last character
  pub goes_within : (front : Chars) (c : ℕ) (run : Chars) (d : ℕ) (rest : Chars) → CharactersGoOn s i [] front → front ++ c ∷ [] ≡ run ++ d ∷ rest → CharactersGoOn s i [] run
  goes_within front c run d rest go e = elim (two_fronts front run (c ∷ []) (d ∷ rest) e) [
    | inl f ↦ by_longer f.z f.is f.rest
    | inr f ↦ goes_front [] run f.z (subst (λ x. CharactersGoOn s i [] x) f.is go)
  ]
    where
      by_longer : (z : Chars) → run ≡ front ++ z → c ∷ [] ≡ z ++ d ∷ rest → CharactersGoOn s i [] run
      by_longer [] e q = subst (λ x. CharactersGoOn s i [] x) (sym (e ∙ append-nil front)) go
      by_longer (x ∷ []) e q = absurd (cc)
      by_longer (x ∷ y ∷ z) e q = absurd (cc)

  -- what begins a token goes on
  pub begun_goes : (run : Chars) (d : ℕ) (rest : Chars) (next : Option ℕ) (token : Token) → Spells s i (run ++ d ∷ rest) next token → CharactersGoOn s i [] run
  begun_goes run d rest next token sp = by (run ++ d ∷ rest) next token (reads_each s i (run ++ d ∷ rest) next token sp) refl
    where
      by : (x : Chars) (n : Option ℕ) (token : Token) → ReadAs s i x n token → x ≡ run ++ d ∷ rest → CharactersGoOn s i [] run
      by _ _ _ (at_last front c token go k) e = goes_within front c run d rest go e
      by _ _ _ (at_next x c token go k) e = goes_front [] run (d ∷ rest) (subst (λ x. CharactersGoOn s i [] x) e go)
