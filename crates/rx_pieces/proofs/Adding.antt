-- Characters added to a text, one part after another.
use Rattle.rx_terms.proofs.Common.{and_from, or_parts, nat_tests, list_all, list_any, encodes-append, encodes-chars, encode_ascii, scalars-chars, list_any-append, list_all-append, is_ascii, line_feed, carriage_return, quotation_mark, reverse_solidus, Chars, IsIri, ascii-chars, ascii-same, by_test, decimal, drop-set, IsAscii-decimal, flat_map-append, is_lang}
use Rattle.std.proofs.Common.{◌≡◌, ◌∙◌, ℕ, ◌<◌, ◌≤◌, ◌^◌, true, false, List, [], ◌∷◌, ◌++◌, sym, ap, ap₂, refl, subst, append_assoc, append-nil, suc, codes, encode_utf8, arith, ◌-◌, length, drop, ◌+◌, ◌||◌, ◌==◌, IsAscii, set, length-set}
use Rattle.std.specs.Str.{chars, IsUtf8, encode_utf8_all}
use Rattle.rx_pieces.specs.Writing.{is_escaped, escaped_char, escaped_text, iri_text, blank_text}
use Rattle.rx_pieces.specs.Underway.{Delivery, AddsBytes}
use Rattle.rx_pieces.specs.Writable.{Adds, WritableText, WritableIri, WritableTag}
use Rattle.rx_pieces.proofs.Sending.{bytes_then, bytes_nothing, bytes_by, bytes_failed}

pub adds_then : {a b c : Delivery} {x y : Chars} → Adds a b x → Adds b c y → Adds a c (x ++ y)
adds_then {x = x} {y = y} h k = record { bytes = bytes_by (sym (encodes-append x y)) (bytes_then h.bytes k.bytes) }

pub adds_nothing : (a : Delivery) → Adds a a []
adds_nothing a = record { bytes = bytes_nothing a }

pub adds_by : {a b : Delivery} {x y : Chars} → x ≡ y → Adds a b x → Adds a b y
adds_by e h = record { bytes = bytes_by (ap encode_utf8_all e) h.bytes }

-- where the sink failed, anything more may be said to be handed over
pub adds_failed : {a b : Delivery} {x : Chars} (y : Chars) → b.underway.failed ≡ true → Adds a b x → Adds a b (x ++ y)
adds_failed {x = x} y failed h = record { bytes = bytes_by (sym (encodes-append x y)) (bytes_failed (encode_utf8_all y) failed h.bytes) }

-- where nothing is escaped
plain_char : (c : ℕ) → is_escaped c ≡ false → escaped_char c ≡ c ∷ []
plain_char c h =
    let last = or_parts ((c == quotation_mark || c == reverse_solidus) || c == line_feed) (c == carriage_return) h in
    let third = or_parts (c == quotation_mark || c == reverse_solidus) (c == line_feed) last.0 in
    let first = or_parts (c == quotation_mark) (c == reverse_solidus) third.0 in
    rw (first.0, first.1, third.1, last.1) refl

pub plain_text : (text : Chars) → list_any is_escaped text ≡ false → escaped_text text ≡ text
plain_text [] h = refl
plain_text (c ∷ text) h =
    let none = or_parts (is_escaped c) (list_any is_escaped text) h in
    ap₂ ◌++◌ (plain_char c none.0) (plain_text text none.1)

-- a literal of ASCII is its own characters
pub literal : {a b : Delivery} (text : List ℕ) → list_all is_ascii text ≡ true → Adds a b (chars text) → Adds a b text
literal text h k = adds_by (ascii-chars text h) k

-- bytes that are ASCII are their characters
pub ascii_bytes : {a b : Delivery} (text : List ℕ) → list_all is_ascii text ≡ true → AddsBytes a b text → Adds a b text
ascii_bytes text h k = record { bytes = bytes_by (sym (ascii-same text h).0) k }

-- bytes that are UTF-8 are those of their characters
pub utf8_bytes : {a b : Delivery} (text : List ℕ) → IsUtf8 text → AddsBytes a b text → Adds a b (chars text)
utf8_bytes text u k = record { bytes = bytes_by (sym (encodes-chars text u)) k }

pub text_of : (bs : List ℕ) (text : Chars) → IsUtf8 bs → chars bs ≡ text → WritableText text
text_of bs text u e = subst WritableText e (record { scalars = scalars-chars bs u })

pub iri_of : (bs : List ℕ) (iri : Chars) → IsUtf8 bs → chars bs ≡ iri → IsIri iri → WritableIri iri
iri_of bs iri u e h = record { text = text_of bs iri u e; is_iri = h }

pub tag_of : (bs : List ℕ) (tag : Chars) → IsUtf8 bs → chars bs ≡ tag → is_lang tag ≡ true → WritableTag tag
tag_of bs tag u e h = record { text = text_of bs tag u e; is_tag = h }

pub all_ascii : (bs : List ℕ) → IsAscii bs → list_all is_ascii bs ≡ true
all_ascii [] h = refl
all_ascii (b ∷ bs) h = let low : b < 128 = h 0 in and_from _ _ (grind (arith, nat_tests, low)) (all_ascii bs (λ i. h (suc i)))

-- ---- a label, and what stands behind it

pub adds_label : {a b : Delivery} (text : List ℕ) (number : ℕ) (behind : List ℕ) → number < 2 ^ 64 → list_all is_ascii behind ≡ true → AddsBytes a b text → text ≡ codes "_:b" ++ (decimal number ++ behind) → Adds a b (blank_text number ++ behind)
adds_label text number behind fits plain h spelled =
    let all : list_all is_ascii (codes "_:b" ++ (decimal number ++ behind)) ≡ true = list_all-append is_ascii (decimal number) behind ∙ and_from _ _ (all_ascii (decimal number) (IsAscii-decimal number fits)) plain in
    ascii_bytes (codes "_:b" ++ (decimal number ++ behind)) all (bytes_by spelled h)

-- the three bytes before the digits
pub labelled : (text digits : List ℕ) (start : ℕ) → 3 ≤ start → start ≤ length text → drop start text ≡ digits
    → drop (start - 3) (set (set (set text (start - 1) 98) (start - 2) 58) (start - 3) 95) ≡ codes "_:b" ++ digits
labelled text digits start low high e =
    let first : List ℕ = set text (start - 1) 98 in
    let second : List ℕ = set first (start - 2) 58 in
    let one : length first ≡ length text = length-set text (start - 1) 98 in
    let two : length second ≡ length first = length-set first (start - 2) 58 in
    let at : start - 1 + 1 ≡ start = omega (arith, low) in
    let next : start - 2 + 1 ≡ start - 1 = omega (arith, low) in
    let last : start - 3 + 1 ≡ start - 2 = omega (arith, low) in
    drop-set second (start - 3) 95 (omega (arith, low, high, one, two))
    ∙ ap (λ n. 95 ∷ drop n second) last ∙ ap (λ z. 95 ∷ z) (drop-set first (start - 2) 58 (omega (arith, low, high, one)))
    ∙ ap (λ n. 95 ∷ 58 ∷ drop n first) next ∙ ap (λ z. 95 ∷ 58 ∷ z) (drop-set text (start - 1) 98 (omega (arith, low, high)))
    ∙ ap (λ n. 95 ∷ 58 ∷ 98 ∷ drop n text) at ∙ ap (λ z. 95 ∷ 58 ∷ 98 ∷ z) e

-- ---- terms with what stands beside them

pub iri_before : (iri rest : Chars) → codes "<" ++ (iri ++ (codes ">" ++ rest)) ≡ iri_text iri ++ rest
iri_before iri rest = ap (λ z. codes "<" ++ z) (sym (append_assoc iri (codes ">") rest))

-- words of ASCII around an IRI
pub between : {a b : Delivery} (front iri behind : List ℕ) → list_all is_ascii front ≡ true → list_all is_ascii behind ≡ true → Adds a b (chars front ++ (iri ++ chars behind)) → Adds a b (front ++ (iri ++ behind))
between front iri behind p q h = adds_by (ap₂ (λ x y. x ++ (iri ++ y)) (ascii-chars front p) (ascii-chars behind q)) h

-- words of ASCII before a text
pub behind_words : {a b : Delivery} (front text : List ℕ) → list_all is_ascii front ≡ true → Adds a b (chars front ++ text) → Adds a b (front ++ text)
behind_words front text h k = adds_by (ap (λ z. z ++ text) (ascii-chars front h)) k

-- ---- what has an escape

none_by_bytes : (cs : Chars) → list_any is_escaped (encode_utf8_all cs) ≡ false → list_any is_escaped cs ≡ false
none_by_bytes [] h = refl
none_by_bytes (c ∷ cs) h =
    let parts = or_parts (list_any is_escaped (encode_utf8 c)) (list_any is_escaped (encode_utf8_all cs)) (sym (list_any-append is_escaped (encode_utf8 c) (encode_utf8_all cs)) ∙ h) in
    let first = by_test (is_escaped c) (λ e. let small : c < 128 = grind (arith, nat_tests, e) in (or_parts (is_escaped c) false (sym (ap (list_any is_escaped) (encode_ascii c small)) ∙ parts.0)).0) (λ e. e) in
    ap₂ ◌||◌ first (none_by_bytes cs parts.1)

pub none_escaped : (bs : List ℕ) → IsUtf8 bs → list_any is_escaped bs ≡ false → list_any is_escaped (chars bs) ≡ false
none_escaped bs u h = none_by_bytes (chars bs) (ap (list_any is_escaped) (encodes-chars bs u) ∙ h)

-- ---- a string, character by character

escaped_one_more : (text : Chars) (c : ℕ) → escaped_text (text ++ c ∷ []) ≡ escaped_text text ++ escaped_char c
escaped_one_more text c = flat_map-append escaped_char text (c ∷ []) ∙ ap (λ z. escaped_text text ++ z) (append-nil (escaped_char c))

-- a front of the text is written, and this is left
pub record Left (start now : Delivery) (whole left : Chars) : Type 0 where
  pub front : Chars
  pub adds : Adds start now (escaped_text front)
  pub both : whole ≡ front ++ left

pub left_start : (start : Delivery) (whole left : Chars) → left ≡ whole → Left start start whole left
left_start start whole left e = record { front = []; adds = adds_nothing start; both = sym e }

pub left_less : {start now next : Delivery} {whole left : Chars} (c : ℕ) (rest : Chars) → Left start now whole left → left ≡ c ∷ rest → Adds now next (escaped_char c) → Left start next whole rest
left_less c rest h e k = record {
  front = h.front ++ c ∷ [];
  adds = adds_by (sym (escaped_one_more h.front c)) (adds_then h.adds k);
  both = h.both ∙ ap (λ z. h.front ++ z) e ∙ sym (append_assoc h.front (c ∷ []) rest);
}

pub left_none : {start now : Delivery} {whole left : Chars} → Left start now whole left → left ≡ [] → Adds start now (escaped_text whole)
left_none h e = adds_by (ap escaped_text (sym (h.both ∙ ap (λ z. h.front ++ z) e ∙ append-nil h.front))) h.adds
