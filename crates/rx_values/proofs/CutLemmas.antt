-- Where a text is cut at a mark, in bytes and in characters.
use Rattle.rx_terms.proofs.Common.{◌≡◌, ◌∙◌, ℕ, true, List, [], ◌∷◌, ◌++◌, length, take, drop, refl, sym, ap, subst, arith, and_parts, and_from, take-append-drop, length-take, encodes-chars, scalars-chars, chars-append, chars-encodes, encodes-append, IsUtf8-take, IsCharBoundary-at_seam, take-append_seam, drop-append_seam}
use Rattle.std.specs.Str.{chars, IsUtf8, IsCharBoundary, all_scalars, encode_utf8_all}
use Rattle.rx_values.specs.Marks.{CutAt}

pub front_scalars : (front rest : List ℕ) → all_scalars (front ++ rest) ≡ true → all_scalars front ≡ true
front_scalars [] rest h = refl
front_scalars (c ∷ front) rest h = let p = and_parts _ _ h in and_from _ _ p.0 (front_scalars front rest p.1)

pub rest_scalars : (front rest : List ℕ) → all_scalars (front ++ rest) ≡ true → all_scalars rest ≡ true
rest_scalars [] rest h = h
rest_scalars (c ∷ front) rest h = rest_scalars front rest (and_parts _ _ h).1

-- what a cut is in bytes
record CutBytes (bs : List ℕ) (mark : ℕ) (front rest : List ℕ) : Type 0 where
  whole : bs ≡ encode_utf8_all front ++ encode_utf8_all rest
  size : mark ≡ length (encode_utf8_all front)
  front_is : all_scalars front ≡ true
  rest_is : all_scalars rest ≡ true

cut_bytes : (bs : List ℕ) (mark : ℕ) (front rest : List ℕ) → IsUtf8 bs → CutAt (chars bs) mark front rest → CutBytes bs mark front rest
cut_bytes bs mark front rest u at =
    let all : all_scalars (front ++ rest) ≡ true = ap all_scalars (sym at.whole) ∙ scalars-chars bs u in
    record {
      whole = sym (encodes-chars bs u) ∙ ap encode_utf8_all at.whole ∙ encodes-append front rest;
      size = at.size;
      front_is = front_scalars front rest all;
      rest_is = rest_scalars front rest all;
    }

boundary_by : (bs : List ℕ) (mark : ℕ) (front rest : List ℕ) → CutBytes bs mark front rest → IsCharBoundary bs mark
boundary_by bs mark front rest b =
    subst (IsCharBoundary bs) (sym b.size) (IsCharBoundary-at_seam bs (encode_utf8_all front) (encode_utf8_all rest) b.whole (rest, (b.rest_is, refl)))

cut_bytes_at : (text bs : List ℕ) (mark : ℕ) (front rest : List ℕ) → IsUtf8 bs → chars bs ≡ text → CutAt text mark front rest → CutBytes bs mark front rest
cut_bytes_at text bs mark front rest u e at = cut_bytes bs mark front rest u (record { whole = e ∙ at.whole; size = at.size })

pub boundary : (text bs : List ℕ) (mark : ℕ) (front rest : List ℕ) → IsUtf8 bs → chars bs ≡ text → CutAt text mark front rest → IsCharBoundary bs mark
boundary text bs mark front rest u e at = boundary_by bs mark front rest (cut_bytes_at text bs mark front rest u e at)

pub kept : (text bs : List ℕ) (mark : ℕ) (front rest : List ℕ) → IsUtf8 bs → chars bs ≡ text → CutAt text mark front rest → chars (take mark bs) ≡ front
kept text bs mark front rest u e at =
    let b = cut_bytes_at text bs mark front rest u e at in
    ap (λ (n : ℕ). chars (take n bs)) b.size ∙ ap (λ (x : List ℕ). chars (take (length (encode_utf8_all front)) x)) b.whole
    ∙ ap chars (take-append_seam (encode_utf8_all front) (encode_utf8_all rest)) ∙ chars-encodes front b.front_is

pub behind : (text bs : List ℕ) (mark : ℕ) (front rest : List ℕ) → IsUtf8 bs → chars bs ≡ text → CutAt text mark front rest → chars (drop mark bs) ≡ rest
behind text bs mark front rest u e at =
    let b = cut_bytes_at text bs mark front rest u e at in
    ap (λ (n : ℕ). chars (drop n bs)) b.size ∙ ap (λ (x : List ℕ). chars (drop (length (encode_utf8_all front)) x)) b.whole
    ∙ ap chars (drop-append_seam (encode_utf8_all front) (encode_utf8_all rest)) ∙ chars-encodes rest b.rest_is

-- at a boundary the text is cut
pub cut_there : (text bs : List ℕ) (mark : ℕ) → IsUtf8 bs → chars bs ≡ text → IsCharBoundary bs mark → CutAt text mark (chars (take mark bs)) (chars (drop mark bs))
cut_there text bs mark u e at =
    let front : IsUtf8 (take mark bs) = IsUtf8-take bs mark u at in
    record {
      whole = sym e ∙ ap chars (sym (take-append-drop mark bs)) ∙ chars-append (take mark bs) (drop mark bs) front;
      size = omega (arith, at.0, length-take mark bs, ap length (encodes-chars (take mark bs) front));
    }
