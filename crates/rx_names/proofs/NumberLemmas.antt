-- The number of a text, a byte at a time.
use Rattle.rx_terms.proofs.Common.{to_ascii_lowercase, chars, encodes-chars, lowered, at_drop_more, at_drop_all}
use Rattle.std.proofs.Common.{◌≡◌, ◌∙◌, ℕ, ◌+◌, ◌<◌, ◌≤◌, ap, sym, map, drop, length, get_or, List, ◌∷◌, IsUtf8, fold}
use Rattle.std.specs.Hash.DefaultHasher as sip
use Rattle.std.specs.Hash as fed
use Rattle.std.specs.declared.hash.DefaultHasher.{DefaultHasher}
use Rattle.rx_words.proofs.CaseLemmas.{encodes-lower}
use Rattle.rx_terms.specs.Iri.{number_of}

one-byte : (s t : DefaultHasher) (b : ℕ) (bytes : List ℕ) → t ≡ fold sip.write s (fed.u8 b) → sip.write t bytes ≡ sip.write s (b ∷ bytes)
unfolding sip.write
one-byte s t b bytes e = ap (λ (x : DefaultHasher). sip.write x bytes) e

-- a byte of a text
pub next-byte :
    (start s t : DefaultHasher) (bytes : List ℕ) (i c d : ℕ) (whole : List ℕ)
    → i < length bytes → c ≡ to_ascii_lowercase (get_or bytes i d)
    → t ≡ fold sip.write s (fed.u8 c)
    → sip.write s (map to_ascii_lowercase (drop i bytes)) ≡ sip.write start whole
    → sip.write t (map to_ascii_lowercase (drop (i + 1) bytes)) ≡ sip.write start whole
next-byte start s t bytes i c d whole within low e before =
    one-byte s t c (map to_ascii_lowercase (drop (i + 1) bytes)) e
    ∙ ap (λ (x : ℕ). sip.write s (x ∷ map to_ascii_lowercase (drop (i + 1) bytes))) low
    ∙ sym (at_drop_more (λ (x : List ℕ). sip.write s (map to_ascii_lowercase x)) bytes i d within)
    ∙ before

-- the bytes are at their end
pub no-byte :
    (start s : DefaultHasher) (bytes : List ℕ) (i : ℕ) (whole : List ℕ)
    → length bytes ≤ i
    → sip.write s (map to_ascii_lowercase (drop i bytes)) ≡ sip.write start whole
    → s ≡ sip.write start whole
unfolding sip.write
no-byte start s bytes i whole within e = sym (at_drop_all (λ (x : List ℕ). sip.write s (map to_ascii_lowercase x)) bytes i within) ∙ e

pub all-bytes : (text : List ℕ) (s : DefaultHasher) → IsUtf8 text → s ≡ sip.write sip.initial (map to_ascii_lowercase text) → sip.finish s ≡ number_of (lowered (chars text))
unfolding number_of
all-bytes text s u e =
    ap sip.finish (e ∙ ap (λ (x : List ℕ). sip.write sip.initial (map to_ascii_lowercase x)) (sym (encodes-chars text u)) ∙ ap (sip.write sip.initial) (encodes-lower (chars text)))
