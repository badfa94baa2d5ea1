-- What `trim_ascii`, which counts bytes, is in characters.
use Rattle.rx_terms.proofs.Common.{◌≡◌, ◌∙◌, ℕ, suc, ◌<◌, ◌≤◌, ◌+◌, ◌-◌, true, false, List, [], ◌∷◌, ◌++◌, length, take, drop, reverse, get_or, sym, ap, refl, arith, length-append, list_all, and_parts, and_from, nat_tests, list_all-append, encodes-chars, encodes-append, chars-append, encode_ascii, length-encode, byte_from_char, len_utf8_bounds, is_white_space, is_ascii, Chars, trimmed, without_leading_space, ascii-chars, ascii-utf8, by_test, not_both_ways}
use Rattle.std.specs.Char.{is_ascii_whitespace, encode_utf8}
use Rattle.std.specs.Str.{chars, IsUtf8, IsTrimAscii, encode_utf8_all}
use Rattle.std.proofs.lemmas.List.{take-append-drop, length-take, length-drop, reverse-append, reverse-reverse, append-nil, get_or-take, get_or-drop, get_or_push}

-- Lists: white space around what neither begins nor ends with it

white-front : (front text : Chars) → list_all is_white_space front ≡ true → without_leading_space (front ++ text) ≡ without_leading_space text
white-front [] text h = refl
white-front (c ∷ front) text h = let p = and_parts (is_white_space c) (list_all is_white_space front) h in rw p.0 (white-front front text p.1)

white-all : (text : Chars) → list_all is_white_space text ≡ true → without_leading_space text ≡ []
white-all text h = ap without_leading_space (sym (append-nil text)) ∙ white-front text [] h

white-reverse : (text : Chars) → list_all is_white_space text ≡ true → list_all is_white_space (reverse text) ≡ true
white-reverse [] h = refl
white-reverse (c ∷ text) h =
    let p = and_parts _ _ h in
    ap (list_all is_white_space) (reverse-append (c ∷ []) text) ∙ list_all-append is_white_space (reverse text) (c ∷ []) ∙ and_from _ _ (white-reverse text p.1) (and_from _ _ p.0 refl)

-- the last of a list that isn't empty
pub last-of : (c : ℕ) (text : Chars) → (front : Chars) × (last : ℕ) × (c ∷ text ≡ front ++ last ∷ [])
last-of c [] = ([], c, refl)
last-of c (d ∷ text) = let r = last-of d text in (c ∷ r.0, r.1, ap (λ x. c ∷ x) r.2)

pub trimmed-between : (a b : Chars) (c : ℕ) (text front : Chars) (last : ℕ) → list_all is_white_space a ≡ true → list_all is_white_space b ≡ true
    → c ∷ text ≡ front ++ last ∷ [] → is_white_space c ≡ false → is_white_space last ≡ false → trimmed (a ++ ((c ∷ text) ++ b)) ≡ c ∷ text
trimmed-between a b c text front last ha hb e hc hl =
    let begin : without_leading_space (a ++ ((c ∷ text) ++ b)) ≡ (c ∷ text) ++ b = white-front a ((c ∷ text) ++ b) ha ∙ rw hc refl in
    let turned : reverse ((c ∷ text) ++ b) ≡ reverse b ++ (last ∷ reverse front) = reverse-append (c ∷ text) b ∙ ap (λ (x : Chars). reverse b ++ x) (ap reverse e ∙ reverse-append front (last ∷ [])) in
    let cut : without_leading_space (reverse ((c ∷ text) ++ b)) ≡ last ∷ reverse front = ap without_leading_space turned ∙ white-front (reverse b) (last ∷ reverse front) (white-reverse b hb) ∙ rw hl refl in
    ap (λ (x : Chars). reverse (without_leading_space (reverse x))) begin
    ∙ ap reverse cut
    ∙ reverse-append (last ∷ []) (reverse front)
    ∙ ap (λ (x : Chars). x ++ last ∷ []) (reverse-reverse front)
    ∙ sym e

pub trimmed-white : (a b : Chars) → list_all is_white_space a ≡ true → list_all is_white_space b ≡ true → trimmed (a ++ ([] ++ b)) ≡ []
trimmed-white a b ha hb = ap (λ (x : Chars). reverse (without_leading_space (reverse x))) (white-front a b ha ∙ white-all b hb)

-- Bytes

pub same-white : (c : ℕ) → is_ascii_whitespace c ≡ is_white_space c
same-white c = by_test (is_white_space c) (λ t. grind (arith, nat_tests)) (λ t. grind (arith, nat_tests))

pub white-below : (c : ℕ) → is_white_space c ≡ true → is_ascii c ≡ true
white-below c h = grind (arith, nat_tests)

pub each-white : (xs : List ℕ) → ((i : ℕ) → i < length xs → is_ascii_whitespace (get_or xs i 0) ≡ true) → list_all is_white_space xs ≡ true
each-white [] h = refl
each-white (x ∷ xs) h = and_from _ _ (sym (same-white x) ∙ h 0 (omega arith)) (each-white xs (λ i l. h (suc i) (omega arith)))

pub white-ascii : (xs : List ℕ) → list_all is_white_space xs ≡ true → list_all is_ascii xs ≡ true
white-ascii [] h = refl
white-ascii (x ∷ xs) h = let p = and_parts _ _ h in and_from _ _ (white-below x p.0) (white-ascii xs p.1)

-- the middle: its first and last characters are white where its first and last bytes are
first-white : (c : ℕ) (cs bs : List ℕ) → encode_utf8_all (c ∷ cs) ≡ bs → is_ascii_whitespace (get_or bs 0 0) ≡ false → is_white_space c ≡ false
first-white c cs bs e h =
    by_test (is_white_space c) (λ t.
    let small : c < 128 = grind (arith, nat_tests) in
    let byte = byte_from_char bs (encode_utf8_all cs) c (sym e) small in
    let white : is_ascii_whitespace (get_or bs 0 0) ≡ true = ap is_ascii_whitespace byte ∙ same-white c ∙ t in
    absurd (not_both_ways _ white h)) (λ t. t)

last-white : (front : List ℕ) (last : ℕ) (bs : List ℕ) → encode_utf8_all (front ++ last ∷ []) ≡ bs → is_ascii_whitespace (get_or bs (length bs - 1) 0) ≡ false → is_white_space last ≡ false
last-white front last bs e h =
    by_test (is_white_space last) (λ t.
    let small : last < 128 = grind (arith, nat_tests) in
    let bytes : bs ≡ encode_utf8_all front ++ last ∷ [] = sym e ∙ encodes-append front (last ∷ []) ∙ ap (λ (x : List ℕ). encode_utf8_all front ++ (x ++ [])) (encode_ascii last small) in
    let size : length (encode_utf8_all front) ≡ length bs - 1 = omega (arith, ap length bytes, length-append (encode_utf8_all front) (last ∷ [])) in
    let byte : get_or bs (length bs - 1) 0 ≡ last = ap (λ (x : List ℕ). get_or x (length bs - 1) 0) bytes ∙ get_or_push (encode_utf8_all front) last 0 (length bs - 1) size in
    let white : is_ascii_whitespace (get_or bs (length bs - 1) 0) ≡ true = ap is_ascii_whitespace byte ∙ same-white last ∙ t in
    absurd (not_both_ways _ white h)) (λ t. t)

pub nonempty-bytes : (c : ℕ) (cs bs : List ℕ) → encode_utf8_all (c ∷ cs) ≡ bs → 0 < length bs
nonempty-bytes c cs bs e = omega (arith, ap length e, length-append (encode_utf8 c) (encode_utf8_all cs), length-encode c, len_utf8_bounds c)

middle : (a b r : List ℕ) (cs : Chars) → encode_utf8_all cs ≡ r → list_all is_white_space a ≡ true → list_all is_white_space b ≡ true
    → (0 < length r → is_ascii_whitespace (get_or r 0 0) ≡ false) → (0 < length r → is_ascii_whitespace (get_or r (length r - 1) 0) ≡ false) → trimmed (a ++ (cs ++ b)) ≡ cs
middle a b r [] e ha hb first last = trimmed-white a b ha hb
middle a b r (c ∷ cs) e ha hb first last =
    let some = nonempty-bytes c cs r e in
    let l = last-of c cs in
    let back : encode_utf8_all (l.0 ++ l.1 ∷ []) ≡ r = ap encode_utf8_all (sym l.2) ∙ e in
    trimmed-between a b c cs l.0 l.1 ha hb l.2 (first-white c cs r e (first some)) (last-white l.0 l.1 r back (last some))

pub trim-chars : (s r : List ℕ) → IsUtf8 s → IsUtf8 r → IsTrimAscii s r → chars r ≡ trimmed (chars s)
trim-chars s r u v t =
    let m = t.0 in
    let d = drop m s in
    let a = take m s in
    let b = drop (length r) d in
    let short : length r ≤ length d = omega (arith, ap length t.1, length-take (length r) d) in
    let white_a : list_all is_white_space a ≡ true = each-white a (λ i l.
    let within : i < m = omega (arith, length-take m s) in
    ap is_ascii_whitespace (get_or-take m s i 0 within) ∙ t.2 i within) in
    let white_b : list_all is_white_space b ≡ true = each-white b (λ i l.
    ap is_ascii_whitespace (get_or-drop (length r) d i 0) ∙ t.4 (length r + i) (omega arith) (omega (arith, length-drop (length r) d))) in
    let ascii_a = white-ascii a white_a in
    let ascii_b = white-ascii b white_b in
    let whole : s ≡ a ++ (r ++ b) = sym (take-append-drop m s) ∙ ap (λ (x : List ℕ). a ++ x) (sym (take-append-drop (length r) d) ∙ ap (λ (x : List ℕ). x ++ b) (sym t.1)) in
    let in_chars : chars s ≡ a ++ (chars r ++ b) =
    ap chars whole ∙ chars-append a (r ++ b) (ascii-utf8 a ascii_a) ∙ ap (λ (x : List ℕ). x ++ chars (r ++ b)) (ascii-chars a ascii_a)
    ∙ ap (λ (x : List ℕ). a ++ x) (chars-append r b v ∙ ap (λ (x : List ℕ). chars r ++ x) (ascii-chars b ascii_b)) in
    let none_more : m + 0 ≡ m = omega arith in
    let at_first : 0 < length r → is_ascii_whitespace (get_or r 0 0) ≡ false = λ some.
    ap is_ascii_whitespace (ap (λ (x : List ℕ). get_or x 0 0) t.1 ∙ get_or-take (length r) d 0 0 some ∙ get_or-drop m s 0 0 ∙ ap (λ (n : ℕ). get_or s n 0) none_more) ∙ t.3 (omega (arith, length-drop m s)) in
    let at_last : 0 < length r → is_ascii_whitespace (get_or r (length r - 1) 0) ≡ false = λ some.
    ap is_ascii_whitespace (ap (λ (x : List ℕ). get_or x (length r - 1) 0) t.1 ∙ get_or-take (length r) d (length r - 1) 0 (omega arith)) ∙ t.5 some in
    sym (ap trimmed in_chars ∙ middle a b r (chars r) (encodes-chars r v) white_a white_b at_first at_last)
