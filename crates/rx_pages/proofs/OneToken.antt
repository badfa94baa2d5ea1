-- At most one front of some characters is read as a token, and as one token: the reader is a function, which stops at one character.
use Rattle.rx_pages.proofs.Words.{◌≡◌, ◌≢◌, ◌∙◌, ℕ, [], ◌∷◌, ◌++◌, Option, None, refl, ap, sym, subst, append-nil, append_assoc, Chars, Syntax, Token, Content, next_of, OneToken, IsSameToken, Verdict, goes_on, whole, ended, verdict, CharactersGoOn, ReadAs, at_last, at_next}
use Rattle.rx_pages.proofs.Spellings.{reads_each}

-- The characters through `front` go on, and the next one tells this.
record Stops (s : Syntax) (i : Content) (text : Chars) (told : Verdict) : Type 0 where
  front : Chars
  last : ℕ
  rest : Chars
  are : text ≡ front ++ last ∷ rest
  goes : CharactersGoOn s i [] front
  tells : verdict s i front last ≡ told

-- where the reading stops
record SameStop (front other : Chars) (c d : ℕ) : Type 0 where
  front_is : front ≡ other
  last_is : c ≡ d

module _ (s : Syntax) (i : Content) where
  stops_once : (before f g : Chars) (c d : ℕ) (m n : Chars) → f ++ c ∷ m ≡ g ++ d ∷ n → CharactersGoOn s i before f → CharactersGoOn s i before g → verdict s i (before ++ f) c ≢ goes_on → verdict s i (before ++ g) d ≢ goes_on → SameStop f g c d
  stops_once before [] [] c d m n e p q u v = record { front_is = refl; last_is = cc }
  stops_once before [] (x ∷ g) c d m n e p q u v =
      let same : x ≡ c = cc in absurd (u (subst (λ z. verdict s i z c ≡ goes_on) (sym (append-nil before)) (subst (λ z. verdict s i before z ≡ goes_on) same q.0)))
  stops_once before (x ∷ f) [] c d m n e p q u v =
      let same : x ≡ d = cc in absurd (v (subst (λ z. verdict s i z d ≡ goes_on) (sym (append-nil before)) (subst (λ z. verdict s i before z ≡ goes_on) same p.0)))
  stops_once before (x ∷ f) (y ∷ g) c d m n e p q u v =
      let same : x ≡ y = cc in
      let grown : (h : Chars) (b : ℕ) → verdict s i (before ++ x ∷ h) b ≢ goes_on → verdict s i ((before ++ x ∷ []) ++ h) b ≢ goes_on = λ h b w k. w (subst (λ z. verdict s i z b ≡ goes_on) (append_assoc before (x ∷ []) h) k) in
      let r = stops_once (before ++ x ∷ []) f g c d m n (cc) p.1 (subst (λ z. CharactersGoOn s i (before ++ z ∷ []) g) (sym same) q.1) (grown f c u) (grown g d (subst (λ z. verdict s i (before ++ z ∷ g) d ≢ goes_on) (sym same) v)) in
      record { front_is = ap (λ z. z ∷ f) same ∙ ap (λ z. y ∷ z) r.front_is; last_is = r.last_is }

  -- they stop at one character, which tells one thing
  told_once : (text : Chars) (told other : Verdict) → told ≢ goes_on → other ≢ goes_on → (a : Stops s i text told) (b : Stops s i text other) → SameStop a.front b.front a.last b.last × (told ≡ other)
  told_once text told other u v a b =
      let r = stops_once [] a.front b.front a.last b.last a.rest b.rest (sym a.are ∙ b.are) a.goes b.goes (λ k. u (sym a.tells ∙ k)) (λ k. v (sym b.tells ∙ k)) in
      (r, sym a.tells ∙ (ap (λ z. verdict s i z a.last) r.front_is ∙ (ap (verdict s i b.front) r.last_is ∙ b.tells)))

  -- a front that is read as a token: through the character at which the reading stops, or before it
  data Told (text : Chars) : Chars → Token → Type 0 where
    with_last : (token : Token) (r : Stops s i text (whole token)) → Told text (r.front ++ r.last ∷ []) token
    before_last : (token : Token) (r : Stops s i text (ended token)) → Told text r.front token

  told_of : (x m : Chars) (next : Option ℕ) (token : Token) → next_of m None ≡ next → ReadAs s i x next token → Told (x ++ m) x token
  told_of _ m next _ e (at_last text c token g v) = with_last token (record { front = text; last = c; rest = m; are = append_assoc text (c ∷ []) m; goes = g; tells = v })
  told_of _ [] _ _ e (at_next text c token g v) = absurd (cc)
  told_of _ (d ∷ m) _ _ e (at_next text c token g v) =
      let same : d ≡ c = cc in before_last token (record { front = text; last = c; rest = m; are = ap (λ z. text ++ z ∷ m) same; goes = g; tells = v })

  one_told : {text x y : Chars} {a b : Token} → Told text x a → Told text y b → IsSameToken x y a b
  one_told {text = text} (with_last a r) (with_last b q) =
      let k = told_once text (whole a) (whole b) (λ e. cc) (λ e. cc) r q in
      let same : whole a ≡ whole b = k.1 in
      record { front_is = λ j. k.0.front_is j ++ k.0.last_is j ∷ []; token_is = cc }
  one_told {text = text} (with_last a r) (before_last b q) = let same : whole a ≡ ended b = (told_once text (whole a) (ended b) (λ e. cc) (λ e. cc) r q).1 in absurd (cc)
  one_told {text = text} (before_last a r) (with_last b q) = let same : ended a ≡ whole b = (told_once text (ended a) (whole b) (λ e. cc) (λ e. cc) r q).1 in absurd (cc)
  one_told {text = text} (before_last a r) (before_last b q) =
      let k = told_once text (ended a) (ended b) (λ e. cc) (λ e. cc) r q in
      let same : ended a ≡ ended b = k.1 in
      record { front_is = k.0.front_is; token_is = cc }

pub one_token : OneToken
one_token s i x m y n a b e h k =
    one_told s i (told_of s i x m _ a refl (reads_each s i x _ a h)) (subst (λ text. Told s i text y b) (sym e) (told_of s i y n _ b refl (reads_each s i y _ b k)))
