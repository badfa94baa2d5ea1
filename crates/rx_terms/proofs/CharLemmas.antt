-- Characters and their UTF-8 bytes: what the layers above need where code reads bytes and a clause speaks of characters.
use Rattle.std.proofs.Common.{◌≡◌, ◌∙◌, ℕ, List, [], ◌∷◌, ◌<◌, length, refl, sym, ap, true, arith}
use Rattle.std.specs.Str.{chars, IsUtf8, encode_utf8_all, all_scalars}
use Rattle.std.specs.List.{list_all}
use Rattle.std.specs.Prelude.{nat_eq}
use Rattle.std.specs.Cmp.Lexicographic.{pointwise, bytes_decides}
use Rattle.std.proofs.lemmas.Str.{chars-encodes, encodes-chars, chars-nil, encode_ascii}
use Rattle.std.proofs.lemmas.Bool.{and_parts, and_from}
use Rattle.std.proofs.lemmas.Bool.Decides.{same_from_decides}
use Rattle.std.proofs.Math.Utf8.{low_scalar}
use borrow.Author.Tests.{ltb-true}
use Rattle.rx_terms.specs.Ascii.{is_ascii}

pub chars-end : (bs : List ℕ) → length bs ≡ 0 → chars bs ≡ []
chars-end [] e = chars-nil
chars-end (b ∷ bs) e = absurd (omega arith)

-- two texts are one exactly where their characters are
pub same-chars : (xs ys : List ℕ) → IsUtf8 xs → IsUtf8 ys → pointwise nat_eq xs ys ≡ pointwise nat_eq (chars xs) (chars ys)
same-chars xs ys u v =
    same_from_decides _ _ (bytes_decides xs ys) (
      (λ t. sym (encodes-chars xs u) ∙ ap encode_utf8_all ((bytes_decides (chars xs) (chars ys)).0 t) ∙ encodes-chars ys v),
      (λ e. (bytes_decides (chars xs) (chars ys)).1 (ap chars e)),
    )

-- a text of ASCII is its characters
pub ascii-same : (xs : List ℕ) → list_all is_ascii xs ≡ true → (encode_utf8_all xs ≡ xs) × (all_scalars xs ≡ true)
ascii-same [] h = (refl, refl)
ascii-same (x ∷ xs) h =
    let below : x < 128 = ltb-true x 128 (and_parts _ _ h).0 in
    let rest = ascii-same xs (and_parts _ _ h).1 in
    (rw (encode_ascii x below, rest.0) refl, and_from _ _ (low_scalar x (omega arith)) rest.1)

pub ascii-utf8 : (xs : List ℕ) → list_all is_ascii xs ≡ true → IsUtf8 xs
ascii-utf8 xs h = let a = ascii-same xs h in (xs, (a.1, a.0))

-- the characters of a text of ASCII are its bytes
pub ascii-chars : (xs : List ℕ) → list_all is_ascii xs ≡ true → chars xs ≡ xs
ascii-chars xs h = let a = ascii-same xs h in ap chars (sym a.0) ∙ chars-encodes xs a.1

-- a text is compared with one of ASCII as its characters are
pub same-ascii : (bs t : List ℕ) → IsUtf8 bs → list_all is_ascii t ≡ true → pointwise nat_eq bs t ≡ pointwise nat_eq (chars bs) t
same-ascii bs t u h = same-chars bs t u (ascii-utf8 t h) ∙ ap (λ x. pointwise nat_eq (chars bs) x) (ascii-chars t h)
