-- Texts whose characters are Unicode scalar values.
use Rattle.rx_terms.proofs.Common.{◌≡◌, ℕ, ◌<◌, ◌^◌, true, [], ◌∷◌, ◌++◌, codes, refl, ◌==◌, all_scalars, list_all, and_parts, and_from, line_feed, carriage_return, quotation_mark, reverse_solidus, is_ascii, Chars, ascii-same, by_test, decimal, IsAscii-decimal}
use Rattle.rx_pieces.specs.Writing.{escaped_char, escaped_text, iri_text, blank_text}
use Rattle.rx_pieces.specs.Writable.{WritableText, WritableIri}
use Rattle.rx_pieces.proofs.Adding.{all_ascii}

scalars_both : (xs ys : Chars) → all_scalars xs ≡ true → all_scalars ys ≡ true → all_scalars (xs ++ ys) ≡ true
scalars_both [] ys p q = q
scalars_both (x ∷ xs) ys p q = and_from _ _ (and_parts _ _ p).0 (scalars_both xs ys (and_parts _ _ p).1 q)

pub joined : {xs ys : Chars} → WritableText xs → WritableText ys → WritableText (xs ++ ys)
joined {xs} {ys} p q = record { scalars = scalars_both xs ys p.scalars q.scalars }

pub literally : (xs : Chars) → list_all is_ascii xs ≡ true → WritableText xs
literally xs h = record { scalars = (ascii-same xs h).1 }

escaped_writable : (c : ℕ) → all_scalars (c ∷ []) ≡ true → all_scalars (escaped_char c) ≡ true
escaped_writable c w = by_test (c == quotation_mark) (λ e. rw e refl) (λ e. by_test (c == reverse_solidus) (λ f. rw (e, f) refl)
    (λ f. by_test (c == line_feed) (λ g. rw (e, f, g) refl) (λ g. by_test (c == carriage_return) (λ h. rw (e, f, g, h) refl) (λ h. rw (e, f, g, h) w))))

pub string_writable : (text : Chars) → WritableText text → WritableText (escaped_text text)
string_writable [] w = record { scalars = refl }
string_writable (c ∷ text) w =
    let parts = and_parts _ _ w.scalars in
    joined (record { scalars = escaped_writable c (and_from _ _ parts.0 refl) }) (string_writable text (record { scalars = parts.1 }))

pub iri_writable : (iri : Chars) → WritableIri iri → WritableText (iri_text iri)
iri_writable iri w = joined (literally (codes "<") refl) (joined w.text (literally (codes ">") refl))

pub blank_writable : (number : ℕ) → number < 2 ^ 64 → WritableText (blank_text number)
blank_writable number fits = literally (blank_text number) (all_ascii (decimal number) (IsAscii-decimal number fits))
