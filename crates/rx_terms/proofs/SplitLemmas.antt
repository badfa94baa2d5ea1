-- Where a text is cut at a character of ASCII, in bytes and in characters.
use Rattle.rx_terms.proofs.Common.{◌≡◌, ◌≢◌, ◌∙◌, ℕ, ◌<◌, Bool, true, false, not, ◌==◌, List, [], ◌∷◌, ◌++◌, length, take, drop, get_or, sym, ap, subst, refl, arith, suc, Option, Some, None, MatchOption, length-append, get_or-append_seam, take-append_seam, drop-append_seam, list_all, list_all-append, and_parts, and_from, nat_tests, encodes-chars, chars-append, chars_past_char, encode_ascii, IsUtf8-take, IsUtf8-drop, IsCharBoundary-before_ascii, IsSplitOnceResult, split_parts, split_at, Bor}
use Rattle.std.specs.Str.{chars, IsUtf8, encode_utf8_all}
use Rattle.std.specs.Char.{encode_utf8}

abbrev pub differs : ℕ → ℕ → Bool
differs mark c = not (c == mark)

-- an element that stands at no place
nowhere : (mark : ℕ) (xs : List ℕ) → ((i : ℕ) → i < length xs → get_or xs i 0 ≢ mark) → list_all (differs mark) xs ≡ true
nowhere mark [] h = refl
nowhere mark (x ∷ xs) h =
    let first : x ≢ mark = h 0 (omega arith) in
    and_from _ _ (grind (arith, nat_tests)) (nowhere mark xs (λ i l. h (suc i) (omega arith)))

-- a character is another where its bytes are others
other : (mark c : ℕ) → mark < 128 → list_all (differs mark) (encode_utf8 c) ≡ true → (c == mark) ≡ false
other mark c small h = go (c == mark) refl where
  go : (b : Bool) → (c == mark) ≡ b → (c == mark) ≡ false
  go false e = e
  go true e =
      let same : c ≡ mark = grind (arith, nat_tests, e) in
      let one : list_all (differs mark) (mark ∷ []) ≡ true = subst (λ (x : List ℕ). list_all (differs mark) x ≡ true) (ap encode_utf8 same ∙ encode_ascii mark small) h in
      grind (arith, nat_tests, one)

absent : (mark : ℕ) (cs : List ℕ) → mark < 128 → list_all (differs mark) (encode_utf8_all cs) ≡ true → split_at mark cs ≡ None
absent mark [] small h = refl
absent mark (c ∷ cs) small h =
    let parts = and_parts _ _ (sym (list_all-append (differs mark) (encode_utf8 c) (encode_utf8_all cs)) ∙ h) in
    rw (other mark c small parts.0, absent mark cs small parts.1) refl

found : (mark : ℕ) (cs rest : List ℕ) → mark < 128 → list_all (differs mark) (encode_utf8_all cs) ≡ true → split_at mark (cs ++ mark ∷ rest) ≡ Some (cs, rest)
found mark [] rest small h = let same : (mark == mark) ≡ true = grind (arith, nat_tests) in rw same refl
found mark (c ∷ cs) rest small h =
    let parts = and_parts _ _ (sym (list_all-append (differs mark) (encode_utf8 c) (encode_utf8_all cs)) ∙ h) in
    rw (other mark c small parts.0, found mark cs rest small parts.1) refl

-- what `split_once` gives, in characters
pub split-chars : (mark : ℕ) (bs : List ℕ) (r : Option (Bor (List ℕ) × Bor (List ℕ))) → IsSplitOnceResult mark bs r → mark < 128 → IsUtf8 bs
    → MatchOption r (split_at mark (chars bs) ≡ None) (λ parts. split_at mark (chars bs) ≡ Some (chars parts.0.now, chars parts.1.now))
split-chars mark bs None s small u =
    absent mark (chars bs) small (subst (λ (x : List ℕ). list_all (differs mark) x ≡ true) (sym (encodes-chars bs u)) (nowhere mark bs (split_parts mark bs None s small)))
split-chars mark bs (Some parts) s small u =
    let p = split_parts mark bs (Some parts) s small in
    let front = parts.0.now in
    let rest = parts.1.now in
    let seam : get_or bs (length front) 0 ≡ mark = ap (λ (x : List ℕ). get_or x (length front) 0) p.0 ∙ get_or-append_seam front mark rest 0 in
    let within : length front < length bs = omega (arith, ap length p.0, length-append front (mark ∷ rest)) in
    let cut = IsCharBoundary-before_ascii bs (length front) within (omega (arith, seam)) in
    let is_front : take (length front) bs ≡ front = ap (take (length front)) p.0 ∙ take-append_seam front (mark ∷ rest) in
    let is_rest : drop (length front) bs ≡ mark ∷ rest = ap (drop (length front)) p.0 ∙ drop-append_seam front (mark ∷ rest) in
    let front_utf8 : IsUtf8 front = subst IsUtf8 is_front (IsUtf8-take bs (length front) u cut) in
    let rest_utf8 : IsUtf8 (mark ∷ rest) = subst IsUtf8 is_rest (IsUtf8-drop bs (length front) u cut) in
    let tail : chars (mark ∷ rest) ≡ mark ∷ chars rest = chars_past_char (mark ∷ rest) rest mark rest_utf8 (sym (ap (λ (x : List ℕ). x ++ rest) (encode_ascii mark small))) in
    let whole : chars bs ≡ chars front ++ mark ∷ chars rest = ap chars p.0 ∙ chars-append front (mark ∷ rest) front_utf8 ∙ ap (λ (x : List ℕ). chars front ++ x) tail in
    ap (split_at mark) whole
    ∙ found mark (chars front) (chars rest) small (subst (λ (x : List ℕ). list_all (differs mark) x ≡ true) (sym (encodes-chars front front_utf8)) (nowhere mark front p.1))

-- the same where something was found, and where nothing was
pub split-chars-some : (mark : ℕ) (bs : List ℕ) (front rest : Bor (List ℕ)) → IsSplitOnceResult mark bs (Some (front, rest)) → mark < 128 → IsUtf8 bs
    → split_at mark (chars bs) ≡ Some (chars front.now, chars rest.now)
split-chars-some mark bs front rest s small u = split-chars mark bs (Some (front, rest)) s small u

pub split-chars-none : (mark : ℕ) (bs : List ℕ) → IsSplitOnceResult mark bs None → mark < 128 → IsUtf8 bs → split_at mark (chars bs) ≡ None
split-chars-none mark bs s small u = split-chars mark bs None s small u
