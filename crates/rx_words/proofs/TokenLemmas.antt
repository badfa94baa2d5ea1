-- The first token of a text, in bytes and in characters.
use Rattle.rx_terms.proofs.Common.{untrue, by_test, not_both_ways, ◌≡◌, ◌≢◌, ◌∙◌, ℕ, suc, ◌<◌, ◌≤◌, Bool, true, false, List, [], ◌∷◌, ◌++◌, length, take, drop, get_or, sym, ap, refl, arith, Option, ⊎_elim, not, ◌==◌, unwrap_or, nat_lt, and_parts, and_from, cases_lt, nat_tests, take-append-drop, length-take, length-drop, get_or-take, get_or-drop, list_all-append, encodes-chars, chars-append, encode_ascii, IsUtf8-take, char_from_byte, IsUtf8-drop, IsCharBoundary-end, IsCharBoundary-before_ascii, is_white_space, Chars, tokens, ends_token, onto_first, ascii-chars, ascii-utf8, chars-end, prefix_len-le-length, fails_before_first, passes_at_first}
use Rattle.std.specs.Char.{is_ascii_whitespace, encode_utf8}
use Rattle.std.specs.List.{list_all, position_or_len, position}
use Rattle.std.specs.Str.{chars, IsUtf8, IsCharBoundary, IsTrimAsciiStart, encode_utf8_all}
use Rattle.rx_words.proofs.TrimLemmas.{same-white, each-white, white-ascii, nonempty-bytes}
use Rattle.rx_words.specs.Tokens.{is_filled, IsFirstToken}

-- Lists

tokens-white : (front text : Chars) → list_all is_white_space front ≡ true → tokens (front ++ text) ≡ tokens text
tokens-white [] text h = refl
tokens-white (c ∷ front) text h = let p = and_parts (is_white_space c) (list_all is_white_space front) h in rw p.0 (tokens-white front text p.1)

tokens-word : (c : ℕ) (word rest : Chars) → is_white_space c ≡ false → list_all is_filled word ≡ true → ends_token rest ≡ true → tokens (c ∷ (word ++ rest)) ≡ (c ∷ word) ∷ tokens rest
tokens-word c [] rest h w e = rw (h, e) refl
tokens-word c (d ∷ word) rest h w e =
    let p = and_parts (is_filled d) (list_all is_filled word) w in
    let dark = untrue (is_white_space d) p.0 in
    rw (h, dark) (ap (onto_first c) (sym (rw dark refl) ∙ tokens-word d word rest dark p.1 e))

-- the first token of a text is the first of its tokens
pub tokens-first : (text token rest : Chars) → IsFirstToken text token rest → tokens text ≡ token ∷ tokens rest
tokens-first text token rest f = ap tokens f.whole ∙ tokens-white f.front (token ++ rest) f.white ∙ go token f.some f.filled where
  go : (word : Chars) → word ≢ [] → list_all is_filled word ≡ true → tokens (word ++ rest) ≡ word ∷ tokens rest
  go [] some filled = absurd (some refl)
  go (c ∷ word) some filled = let p = and_parts (is_filled c) (list_all is_filled word) filled in tokens-word c word rest (untrue (is_white_space c) p.0) p.1 f.ends

-- Bytes

unwrap-position : (p : ℕ → Bool) (xs : List ℕ) → unwrap_or (position p xs) (length xs) ≡ position_or_len p xs
unwrap-position p xs =
    by_test (nat_lt (position_or_len p xs) (length xs)) (λ t. rw t refl) (λ t.
    let most = prefix_len-le-length (λ x. not (p x)) xs in
    let all : position_or_len p xs ≡ length xs = grind (arith, nat_tests) in
    rw t (sym all))

pub found-end : (xs : List ℕ) (r : Option ℕ) (n : ℕ) → r ≡ position is_ascii_whitespace xs → n ≡ unwrap_or r (length xs) → n ≡ position_or_len is_ascii_whitespace xs
found-end xs r n e f = f ∙ ap (λ (o : Option ℕ). unwrap_or o (length xs)) e ∙ unwrap-position is_ascii_whitespace xs

-- white space at the front in bytes is so in characters
white-front : (s r : List ℕ) → IsUtf8 s → IsUtf8 r → IsTrimAsciiStart s r → (front : List ℕ) × (list_all is_white_space front ≡ true) × (chars s ≡ front ++ chars r)
white-front s r u v t =
    let m = t.0 in
    let a = take m s in
    let white : list_all is_white_space a ≡ true = each-white a (λ i l.
    let within : i < m = omega (arith, length-take m s) in
    ap is_ascii_whitespace (get_or-take m s i 0 within) ∙ t.3 i within) in
    let ascii = white-ascii a white in
    let whole : s ≡ a ++ r = sym (take-append-drop m s) ∙ ap (λ (x : List ℕ). a ++ x) (sym t.1) in
    (a, white, ap chars whole ∙ chars-append a r (ascii-utf8 a ascii) ∙ ap (λ (x : List ℕ). x ++ chars r) (ascii-chars a ascii))

pub tokens-trimmed : (s r : List ℕ) → IsUtf8 s → IsUtf8 r → IsTrimAsciiStart s r → tokens (chars s) ≡ tokens (chars r)
tokens-trimmed s r u v t = let w = white-front s r u v t in ap tokens w.2 ∙ tokens-white w.0 (chars r) w.1

pub no-tokens : (s r : List ℕ) (b : Bool) → IsUtf8 s → IsUtf8 r → IsTrimAsciiStart s r → b ≡ (length r == 0) → b ≡ true → tokens (chars s) ≡ []
no-tokens s r b u v t e h =
    let empty : length r ≡ 0 = grind (arith, nat_tests) in
    tokens-trimmed s r u v t ∙ ap tokens (chars-end r empty)

-- where a token ends
pub end-boundary : (r : List ℕ) (n : ℕ) → n ≡ position_or_len is_ascii_whitespace r → IsCharBoundary r n
end-boundary r n e = ⊎_elim below above (cases_lt n (length r)) where
  below : n < length r → IsCharBoundary r n
  below l =
      let white : is_ascii_whitespace (get_or r n 0) ≡ true = ap (λ (k : ℕ). is_ascii_whitespace (get_or r k 0)) e ∙ passes_at_first is_ascii_whitespace r 0 (omega (arith, e)) in
      let small : get_or r n 0 < 128 = grind (arith, nat_tests) in
      IsCharBoundary-before_ascii r n l small

  above : length r ≤ n → IsCharBoundary r n
  above l =
      let most = prefix_len-le-length (λ x. not (is_ascii_whitespace x)) r in
      let all : length r ≡ n = omega (arith, e, most) in
      let at : IsCharBoundary r (length r) = IsCharBoundary-end r in
      let P : ℕ → Type 0 = λ k. IsCharBoundary r k in
      rw (← all) at

each-filled : (xs : List ℕ) → ((i : ℕ) → i < length xs → is_ascii_whitespace (get_or xs i 0) ≡ false) → list_all is_filled xs ≡ true
each-filled [] h = refl
each-filled (x ∷ xs) h = and_from _ _ (ap not (sym (same-white x) ∙ h 0 (omega arith))) (each-filled xs (λ i l. h (suc i) (omega arith)))

filled-chars : (cs : List ℕ) → list_all is_filled (encode_utf8_all cs) ≡ true → list_all is_filled cs ≡ true
filled-chars [] h = refl
filled-chars (c ∷ cs) h =
    let parts = and_parts _ _ (sym (list_all-append is_filled (encode_utf8 c) (encode_utf8_all cs)) ∙ h) in
    and_from _ _ (by_test (is_white_space c) (λ t.
    let small : c < 128 = grind (arith, nat_tests) in
    let one : list_all is_filled (c ∷ []) ≡ true = sym (ap (list_all is_filled) (encode_ascii c small)) ∙ parts.0 in
    (and_parts (is_filled c) true one).0) (λ t. ap not t)) (filled-chars cs parts.1)

-- what stands behind a token ends it
ends-chars : (r : List ℕ) → IsUtf8 r → (0 < length r → is_ascii_whitespace (get_or r 0 0) ≡ true) → ends_token (chars r) ≡ true
ends-chars r u h = go (chars r) (encodes-chars r u) where
  go : (cs : Chars) → encode_utf8_all cs ≡ r → ends_token cs ≡ true
  go [] e = refl
  go (c ∷ cs) e =
      let some : 0 < length r = nonempty-bytes c cs r e in
      let white = h some in
      let small : get_or r 0 0 < 128 = grind (arith, nat_tests) in
      let same : c ≡ get_or r 0 0 = char_from_byte r (encode_utf8_all cs) c (sym e) small some in
      sym (same-white c) ∙ ap is_ascii_whitespace same ∙ white

-- bytes that are there have a character
some-chars : (xs : List ℕ) → IsUtf8 xs → 0 < length xs → chars xs ≢ []
some-chars xs u l e = let none : 0 ≡ length xs = ap length (sym (ap encode_utf8_all e) ∙ encodes-chars xs u) in omega (arith, none)

-- the text begins with a token of so many bytes
record StartsWith (r : List ℕ) (n : ℕ) : Type 0 where
  size : 0 < n
  whole : chars r ≡ chars (take n r) ++ chars (drop n r)
  some : chars (take n r) ≢ []
  filled : list_all is_filled (chars (take n r)) ≡ true
  ends : ends_token (chars (drop n r)) ≡ true

-- a text without white space at its front begins with a token
cut-token : (r : List ℕ) (n : ℕ) → IsUtf8 r → n ≡ position_or_len is_ascii_whitespace r → 0 < length r → is_ascii_whitespace (get_or r 0 0) ≡ false → StartsWith r n
cut-token r n u e l first =
    let at = end-boundary r n e in
    let most : n ≤ length r = at.0 in
    let ends : n < length r → is_ascii_whitespace (get_or r n 0) ≡ true = λ w. ap (λ (k : ℕ). is_ascii_whitespace (get_or r k 0)) e ∙ passes_at_first is_ascii_whitespace r 0 (omega (arith, e)) in
    let some : 0 < n = ⊎_elim (λ (w : 0 < n). w) (λ (w : n ≤ 0).
    let zero_is : n ≡ 0 = omega arith in
    let white : is_ascii_whitespace (get_or r 0 0) ≡ true = ap (λ (k : ℕ). is_ascii_whitespace (get_or r k 0)) (sym zero_is) ∙ ends (omega arith) in
    absurd (not_both_ways _ white first)) (cases_lt 0 n) in
    let front = take n r in
    let front_utf8 : IsUtf8 front = IsUtf8-take r n u at in
    let rest_utf8 : IsUtf8 (drop n r) = IsUtf8-drop r n u at in
    let size : length front ≡ n = omega (arith, length-take n r) in
    let filled : list_all is_filled front ≡ true = each-filled front (λ i w.
    let within : i < n = omega (arith) in
    ap is_ascii_whitespace (get_or-take n r i 0 within) ∙ fails_before_first is_ascii_whitespace r i 0 (omega (arith, e))) in
    let behind : ends_token (chars (drop n r)) ≡ true = ends-chars (drop n r) rest_utf8 (λ w.
    let here : get_or (drop n r) 0 0 ≡ get_or r n 0 = get_or-drop n r 0 0 ∙ ap (λ (k : ℕ). get_or r k 0) (omega arith) in
    ap is_ascii_whitespace here ∙ ends (omega (arith, length-drop n r))) in
    record {
      size = some;
      whole = ap chars (sym (take-append-drop n r)) ∙ chars-append front (drop n r) front_utf8;
      some = some-chars front front_utf8 (omega arith);
      filled = filled-chars (chars front) (ap (list_all is_filled) (encodes-chars front front_utf8) ∙ filled);
      ends = behind;
    }

first-filled : (s r : List ℕ) → IsTrimAsciiStart s r → 0 < length r → is_ascii_whitespace (get_or r 0 0) ≡ false
first-filled s r t l =
    let m = t.0 in
    let here : get_or r 0 0 ≡ get_or s m 0 = ap (λ (x : List ℕ). get_or x 0 0) t.1 ∙ get_or-drop m s 0 0 ∙ ap (λ (k : ℕ). get_or s k 0) (omega arith) in
    ap is_ascii_whitespace here ∙ t.4 (omega (arith, t.2))

-- the first token of a text, and what stands behind it
pub first-token : (s r front rest : List ℕ) (n : ℕ) (b : Bool) → IsUtf8 s → IsUtf8 r → IsTrimAsciiStart s r → b ≡ (length r == 0) → b ≡ false
    → n ≡ position_or_len is_ascii_whitespace r → front ≡ take n r → rest ≡ drop n r → IsFirstToken (chars s) (chars front) (chars rest) × (length rest < length s)
first-token s r front rest n b u v t e h end f g =
    let some : 0 < length r = grind (arith, nat_tests) in
    let cut = cut-token r n v end some (first-filled s r t some) in
    let white = white-front s r u v t in
    let parts : IsFirstToken (chars s) (chars (take n r)) (chars (drop n r)) =
    record { front = white.0; whole = white.2 ∙ ap (λ (x : Chars). white.0 ++ x) cut.whole; white = white.1; some = cut.some; filled = cut.filled; ends = cut.ends } in
    (rw (f, g) parts, omega (arith, cut.size, t.2, ap length g, length-drop n r))
