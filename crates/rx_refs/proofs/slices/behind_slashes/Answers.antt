use Rattle.rx_refs.proofs.Common.{◌≡◌, ℕ, List, ◌∷◌, [], ◌++◌, Option, Some, None, MatchOption, false, sym, ap, ◌∙◌, refl, drop, length, ◌+◌, lit<, encode_ascii, begins_with, FindsTextPrefix, Bor, chars, IsUtf8, encode_utf8_all}
use Rattle.rx_refs.proofs.CutLemmas.{past-slash, prefix-none}
use Rattle.rx_refs.proofs.slices.behind_slashes.Goals as goal

in_chars : (bs : List ℕ) (r : Option (Bor (List ℕ))) → IsUtf8 bs
    → MatchOption r (FindsTextPrefix (47 ∷ 47 ∷ []) bs None) (λ x. (n : ℕ) × FindsTextPrefix (47 ∷ 47 ∷ []) bs (Some n) × (x.now ≡ drop n bs) × (length x.now + n ≡ length bs))
    → MatchOption r (begins_with (47 ∷ 47 ∷ []) (chars bs) ≡ false) (λ rest. chars bs ≡ 47 ∷ 47 ∷ chars rest.now)
in_chars bs None u h =
    let two : encode_utf8_all (47 ∷ 47 ∷ []) ≡ 47 ∷ 47 ∷ [] = ap (λ (x : List ℕ). x ++ (x ++ [])) (encode_ascii 47 (lit< tt)) in
    prefix-none (47 ∷ 47 ∷ []) bs two u h
in_chars bs (Some rest) u h =
    let whole : bs ≡ 47 ∷ 47 ∷ rest.now = (h.1).1 ∙ ap (λ (x : List ℕ). 47 ∷ 47 ∷ x) (sym h.2) in
    let one = past-slash bs (47 ∷ rest.now) u whole in
    let two = past-slash (47 ∷ rest.now) rest.now one.1 refl in
    one.0 ∙ ap (λ (x : List ℕ). 47 ∷ x) two.0

pub returns : goal.returns
returns c = in_chars c.args.text.now c.strip_prefix.result c.utf8.text c.strip_prefix.ensures.cases
