-- Cuts at the ends of a text, in bytes and in characters.
use Rattle.rx_terms.proofs.Common.{◌≡◌, ◌≢◌, ◌∙◌, ℕ, suc, refl, true, ◌+◌, ◌-◌, ◌<◌, false, List, [], ◌∷◌, ◌++◌, length, take, drop, get_or, sym, ap, subst, arith, Option, Some, None, MatchOption, Bor, length-append, ◌==◌, and_parts, nat_tests, chars-nil, encodes-chars, encodes-append, chars-append, encode_ascii, IsUtf8-take, IsCharBoundary-before_ascii, Chars, begins_with, is_empty, ascii-chars, by_test, FindsTextPrefix, FindsCharSuffix, strip_suffix_char, get_or-append_seam, take-append_seam}
use Rattle.std.specs.Str.{chars, IsUtf8, encode_utf8_all}

pub same_char : (c mark : ℕ) → (c == mark) ≡ true → c ≡ mark
same_char c mark e = grind (arith, nat_tests)

-- what stands behind the front
pub begins-front : (front text : Chars) → begins_with front text ≡ true → (rest : Chars) × (text ≡ front ++ rest)
begins-front [] text h = (text, refl)
begins-front (c ∷ front) [] h = absurd (cc h)
begins-front (c ∷ front) (d ∷ text) h =
    let parts = and_parts _ _ h in
    let r = begins-front front text parts.1 in
    let e = same_char c d parts.0 in
    (r.0, same_cons c d text (front ++ r.0) e r.1) where
      same_cons : (c d : ℕ) (xs ys : Chars) → c ≡ d → xs ≡ ys → d ∷ xs ≡ c ∷ ys
      same_cons c d xs ys e f = cc

-- a text with no byte has no character
pub empty-chars : (bs : List ℕ) → IsUtf8 bs → (length bs == 0) ≡ is_empty (chars bs)
empty-chars [] u = sym (ap is_empty chars-nil)
empty-chars (b ∷ bs) u = go (chars (b ∷ bs)) (encodes-chars (b ∷ bs) u) where
  go : (cs : List ℕ) → encode_utf8_all cs ≡ b ∷ bs → (length (b ∷ bs) == 0) ≡ is_empty cs
  go [] e = absurd (cc e)
  go (c ∷ cs) e = let l : (suc (length bs) == 0) ≡ false = grind (arith, nat_tests) in l

begins-not : (front bs : List ℕ) → IsUtf8 front → IsUtf8 bs → ((rest : List ℕ) → bs ≢ front ++ rest) → begins_with (chars front) (chars bs) ≡ false
begins-not front bs v u h =
    by_test (begins_with (chars front) (chars bs)) (λ t.
    let r = begins-front (chars front) (chars bs) t in
    let is : bs ≡ front ++ encode_utf8_all r.0 =
    sym (encodes-chars bs u) ∙ ap encode_utf8_all r.1 ∙ encodes-append (chars front) r.0 ∙ ap (λ (x : List ℕ). x ++ encode_utf8_all r.0) (encodes-chars front v) in
    absurd (h (encode_utf8_all r.0) is)) (λ t. t)

pub behind-chars : (front bs : List ℕ) (r : Option (Bor (List ℕ))) → IsUtf8 front → IsUtf8 bs
    → MatchOption r (FindsTextPrefix front bs None) (λ x. (n : ℕ) × FindsTextPrefix front bs (Some n) × (x.now ≡ drop n bs) × (length x.now + n ≡ length bs))
    → MatchOption r (begins_with (chars front) (chars bs) ≡ false) (λ rest. chars bs ≡ chars front ++ chars rest.now)
behind-chars front bs None v u h = begins-not front bs v u h
behind-chars front bs (Some rest) v u h =
    let whole : bs ≡ front ++ rest.now = (h.1).1 ∙ ap (λ (x : List ℕ). front ++ x) (sym h.2) in
    ap chars whole ∙ chars-append front rest.now v

one-char : (mark : ℕ) → mark < 128 → chars (mark ∷ []) ≡ mark ∷ []
one-char mark small = ascii-chars (mark ∷ []) (grind (arith))

ends-not : (mark : ℕ) (bs : List ℕ) → mark < 128 → IsUtf8 bs → ((front : List ℕ) → bs ≢ front ++ mark ∷ []) → (front : Chars) → chars bs ≢ front ++ mark ∷ []
ends-not mark bs small u h front e =
    h (encode_utf8_all front) (sym (encodes-chars bs u) ∙ ap encode_utf8_all e ∙ encodes-append front (mark ∷ []) ∙ ap (λ (x : List ℕ). encode_utf8_all front ++ (x ++ [])) (encode_ascii mark small))

pub last-chars : (mark : ℕ) (bs : List ℕ) (r : Option (Bor (List ℕ))) → mark < 128 → IsUtf8 bs
    → MatchOption r (FindsCharSuffix mark bs None) (λ x. (n : ℕ) × FindsCharSuffix mark bs (Some n) × (x.now ≡ take (length bs - n) bs) × (length x.now + n ≡ length bs))
    → MatchOption r ((front : Chars) → chars bs ≢ front ++ mark ∷ []) (λ front. chars bs ≡ chars front.now ++ mark ∷ [])
last-chars mark bs None small u h = ends-not mark bs small u (strip_suffix_char mark bs None h small)
last-chars mark bs (Some front) small u h =
    let e : bs ≡ front.now ++ mark ∷ [] = strip_suffix_char mark bs (Some front) h small in
    let seam : get_or bs (length front.now) 0 ≡ mark = ap (λ (x : List ℕ). get_or x (length front.now) 0) e ∙ get_or-append_seam front.now mark [] 0 in
    let within : length front.now < length bs = omega (arith, ap length e, length-append front.now (mark ∷ [])) in
    let cut = IsCharBoundary-before_ascii bs (length front.now) within (omega (arith, seam)) in
    let is_front : take (length front.now) bs ≡ front.now = ap (take (length front.now)) e ∙ take-append_seam front.now (mark ∷ []) in
    let front_utf8 : IsUtf8 front.now = subst IsUtf8 is_front (IsUtf8-take bs (length front.now) u cut) in
    ap chars e ∙ chars-append front.now (mark ∷ []) front_utf8 ∙ ap (λ (x : List ℕ). chars front.now ++ x) (one-char mark small)
