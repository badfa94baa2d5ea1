-- What the cuts of std, which count bytes, are in characters.
use Rattle.rx_refs.proofs.Common.{◌≡◌, ◌≢◌, ◌∙◌, ℕ, ◌<◌, ◌≤◌, true, false, List, [], ◌∷◌, ◌++◌, length, take, drop, get_or, sym, ap, subst, refl, arith, Option, Some, None, MatchOption, ◌==◌, encode_utf8, take-append-drop, length-drop, take_all, drop_all, chars-nil, encodes-chars, encodes-append, chars-append, chars_past_char, encode_ascii, IsUtf8-take, IsUtf8-past_char, chars_from_encodes, IsUtf8-drop, IsCharBoundary-start, IsCharBoundary-end, IsCharBoundary-before_ascii, Chars, begins_with, by_test, HasCharAt, FindsChar, RFindsChar, drop_at_char, chars, IsUtf8, IsCharBoundary, NonePass, NoCharPasses, encode_utf8_all, before, from_first, holds, without_last_segment, through_last_slash, begins-front}
use Rattle.rx_terms.proofs.Common.{unwrap_or, or-true}
use Rattle.rx_refs.proofs.PartLemmas.{cut-at, uncut}

-- Texts with a `/`

holds-at : (front rest : Chars) → holds 47 (front ++ 47 ∷ rest) ≡ true
holds-at [] rest = refl
holds-at (c ∷ front) rest = rw (holds-at front rest) (or-true (c == 47))

holds-rest : (c : ℕ) (text : Chars) → holds 47 (c ∷ text) ≡ false → holds 47 text ≡ false
holds-rest c text h = by_test (c == 47) (λ t. let g : true ≡ false = rw t at h in absurd (cc g)) (λ t. rw t at h)

pub through-slash : (front rest : Chars) → through_last_slash (front ++ 47 ∷ rest) ≡ front ++ 47 ∷ through_last_slash rest
through-slash [] rest = refl
through-slash (c ∷ front) rest = rw (holds-at (c ∷ front) rest) (ap (λ x. c ∷ x) (through-slash front rest))

pub through-none : (text : Chars) → holds 47 text ≡ false → through_last_slash text ≡ []
through-none [] h = refl
through-none (c ∷ text) h = rw h refl

pub through-rest : (text : Chars) → (rest : Chars) × (text ≡ through_last_slash text ++ rest)
through-rest [] = ([], refl)
through-rest (c ∷ text) =
    by_test (holds 47 (c ∷ text)) (λ t. let r = through-rest text in (r.0, rw t (ap (λ x. c ∷ x) r.1))) (λ t. (c ∷ text, rw t refl))

pub without-slash : (front rest : Chars) → holds 47 rest ≡ false → without_last_segment (front ++ 47 ∷ rest) ≡ front
without-slash [] rest h = rw h refl
without-slash (c ∷ front) rest h = rw (holds-at front rest) (ap (λ x. c ∷ x) (without-slash front rest h))

pub without-none : (text : Chars) → holds 47 text ≡ false → without_last_segment text ≡ []
without-none [] h = refl
without-none (c ∷ text) h = rw (holds-rest c text h) refl

-- A character of ASCII in a text

none_holds : (mark : ℕ) (cs : List ℕ) → NonePass (λ d. d == mark) cs → holds mark cs ≡ false
none_holds mark [] h = refl
none_holds mark (c ∷ cs) h = rw (h.0, none_holds mark cs h.1) refl

pub lacking : (mark : ℕ) (bs : List ℕ) → IsUtf8 bs → NoCharPasses (λ d. d == mark) bs → holds mark (chars bs) ≡ false
lacking mark bs u n = rw (← chars_from_encodes n.0 bs u n.1) (none_holds mark n.0 n.2)

pub boundary-at : (mark : ℕ) (bs : List ℕ) (i j : ℕ) → mark < 128 → HasCharAt mark bs i j → IsCharBoundary bs i
boundary-at mark bs i j small h =
    let here : drop i bs ≡ mark ∷ drop j bs = drop_at_char mark bs i j h small in
    let within : i < length bs = omega (arith, length-drop i bs, ap length here) in
    let byte : get_or bs i 0 ≡ mark = h.byte small in
    IsCharBoundary-before_ascii bs i within (omega arith)

pub cut-char : (mark : ℕ) (bs : List ℕ) (i j : ℕ) → mark < 128 → IsUtf8 bs → HasCharAt mark bs i j → chars bs ≡ chars (take i bs) ++ mark ∷ chars (drop j bs)
cut-char mark bs i j small u h =
    let here : drop i bs ≡ mark ∷ drop j bs = drop_at_char mark bs i j h small in
    let at = boundary-at mark bs i j small h in
    let rest : IsUtf8 (drop i bs) = IsUtf8-drop bs i u at in
    ap chars (sym (take-append-drop i bs))
    ∙ chars-append (take i bs) (drop i bs) (IsUtf8-take bs i u at)
    ∙ ap (λ (x : Chars). chars (take i bs) ++ x) (chars_past_char (drop i bs) (drop j bs) mark rest (here ∙ sym (ap (λ (x : List ℕ). x ++ drop j bs) (encode_ascii mark small))))

pub first-char : (mark : ℕ) (bs : List ℕ) (i j : ℕ) → mark < 128 → IsUtf8 bs → FindsChar mark bs (Some (i, j))
    → (chars bs ≡ chars (take i bs) ++ mark ∷ chars (drop j bs)) × (holds mark (chars (take i bs)) ≡ false)
first-char mark bs i j small u f =
    (cut-char mark bs i j small u f.1, lacking mark (take i bs) (IsUtf8-take bs i u (boundary-at mark bs i j small f.1)) f.0)

-- The clauses of `find` and `rfind` at a `/`

pub first-slash : (bs : List ℕ) (r : Option ℕ) → IsUtf8 bs
    → MatchOption r (FindsChar 47 bs None) (λ i. (j : ℕ) × FindsChar 47 bs (Some (i, j)) × (i ≤ j) × IsCharBoundary bs i × IsCharBoundary bs j)
    → IsCharBoundary bs (unwrap_or r (length bs)) × (chars (take (unwrap_or r (length bs)) bs) ≡ before 47 (chars bs)) × (chars (drop (unwrap_or r (length bs)) bs) ≡ from_first 47 (chars bs))
first-slash bs None u f =
    let g = uncut 47 (chars bs) (lacking 47 bs u f) in
    (IsCharBoundary-end bs, ap chars (take_all (length bs) bs (omega arith)) ∙ sym g.0, ap chars (drop_all (length bs) bs (omega arith)) ∙ chars-nil ∙ sym g.1)
first-slash bs (Some i) u f =
    let h = first-char 47 bs i f.0 (omega arith) u f.1 in
    let g = cut-at 47 (chars (take i bs)) (chars (drop f.0 bs)) h.1 in
    let here : drop i bs ≡ 47 ∷ drop f.0 bs = drop_at_char 47 bs i f.0 (f.1).1 (omega arith) in
    let rest : IsUtf8 (47 ∷ drop f.0 bs) = subst IsUtf8 here (IsUtf8-drop bs i u f.3) in
    let tail : chars (drop i bs) ≡ 47 ∷ chars (drop f.0 bs) = ap chars here ∙ chars_past_char (47 ∷ drop f.0 bs) (drop f.0 bs) 47 rest (sym (ap (λ (x : List ℕ). x ++ drop f.0 bs) (encode_ascii 47 (omega arith)))) in
    (f.3, sym (ap (before 47) h.0 ∙ g.0), tail ∙ sym (ap (from_first 47) h.0 ∙ g.1))

pub last-slash : (bs : List ℕ) (r : Option ℕ) → IsUtf8 bs
    → MatchOption r (RFindsChar 47 bs None) (λ i. (j : ℕ) × RFindsChar 47 bs (Some (i, j)) × (i ≤ j) × IsCharBoundary bs i × IsCharBoundary bs j)
    → IsCharBoundary bs (unwrap_or r 0) × (chars (take (unwrap_or r 0) bs) ≡ without_last_segment (chars bs))
last-slash bs None u f = (IsCharBoundary-start bs u, chars-nil ∙ sym (without-none (chars bs) (lacking 47 bs u f)))
last-slash bs (Some i) u f =
    let j = f.0 in
    let whole = cut-char 47 bs i j (omega arith) u (f.1).1 in
    let tail = lacking 47 (drop j bs) (IsUtf8-drop bs j u f.4) (f.1).0 in
    (f.3, sym (ap without_last_segment whole ∙ without-slash (chars (take i bs)) (chars (drop j bs)) tail))

-- A text of ASCII at the front

pub prefix-none : (front bs : List ℕ) → encode_utf8_all front ≡ front → IsUtf8 bs → ((rest : List ℕ) → bs ≢ front ++ rest) → begins_with front (chars bs) ≡ false
prefix-none front bs ascii u h =
    by_test (begins_with front (chars bs)) (λ t.
    let r = begins-front front (chars bs) t in
    let is : bs ≡ front ++ encode_utf8_all r.0 = sym (encodes-chars bs u) ∙ ap encode_utf8_all r.1 ∙ encodes-append front r.0 ∙ ap (λ (x : List ℕ). x ++ encode_utf8_all r.0) ascii in
    absurd (h (encode_utf8_all r.0) is)) (λ t. t)

pub past-slash : (bs rest : List ℕ) → IsUtf8 bs → bs ≡ 47 ∷ rest → (chars bs ≡ 47 ∷ chars rest) × IsUtf8 rest
past-slash bs rest u e =
    let whole : bs ≡ encode_utf8 47 ++ rest = e ∙ sym (ap (λ (x : List ℕ). x ++ rest) (encode_ascii 47 (omega arith))) in
    (chars_past_char bs rest 47 u whole, IsUtf8-past_char bs rest 47 u whole)
