-- The bytes of an escape, and the loop that writes them.
use Rattle.rx_refs.proofs.Common.{◌≡◌, ◌∙◌, ℕ, zero, suc, ◌+◌, ◌<◌, ◌/◌, ◌%◌, Bool, true, false, List, [], ◌∷◌, ◌++◌, length, length-append, take, get_or, sym, ap, subst, refl, arith, if◌then◌else◌, codes, encode_utf8, list_all, chars, IsUtf8, IsCharBoundary, all_scalars, and_parts, and_from, chars-append, chars-encodes, chars_past_char, scalars-chars, encode_ascii, IsCharBoundary-from_take, is_ascii, Chars, is_forbidden, ascii-chars, take-append_seam, append_assoc, append-nil, digit, escaped, cleaned, Keeps}
use borrow.Author.Tests.{ltb-true}
use Rattle.rx_refs.proofs.SchemeLemmas.{forbidden-small}

all_at : (p : ℕ → Bool) (xs : List ℕ) (n : ℕ) → list_all p xs ≡ true → n < length xs → p (get_or xs n 0) ≡ true
all_at p [] n h l = absurd (omega arith)
all_at p (x ∷ xs) zero h l = (and_parts (p x) (list_all p xs) h).0
all_at p (x ∷ xs) (suc n) h l = all_at p xs n (and_parts (p x) (list_all p xs) h).1 (omega arith)

digit-ascii : (n : ℕ) → n < 16 → is_ascii (digit n) ≡ true
digit-ascii n l = all_at is_ascii (codes "0123456789ABCDEF") n refl (omega arith)

pub escaped-chars : (old one two three : List ℕ) (c : ℕ) → is_forbidden c ≡ true → IsUtf8 old → one ≡ old ++ encode_utf8 37 → two ≡ one ++ encode_utf8 (digit (c / 16)) → three ≡ two ++ encode_utf8 (digit (c % 16))
    → chars three ≡ chars old ++ escaped c
escaped-chars old one two three c h u first second third =
    let small = forbidden-small c h in
    let high = digit-ascii (c / 16) (omega arith) in
    let low = digit-ascii (c % 16) (omega arith) in
    let ascii : list_all is_ascii (escaped c) ≡ true = and_from _ _ refl (and_from _ _ high (and_from _ _ low refl)) in
    let a : encode_utf8 37 ≡ 37 ∷ [] = encode_ascii 37 (omega arith) in
    let b : encode_utf8 (digit (c / 16)) ≡ digit (c / 16) ∷ [] = encode_ascii (digit (c / 16)) (ltb-true (digit (c / 16)) 128 high) in
    let d : encode_utf8 (digit (c % 16)) ≡ digit (c % 16) ∷ [] = encode_ascii (digit (c % 16)) (ltb-true (digit (c % 16)) 128 low) in
    let whole : three ≡ old ++ escaped c = third ∙ rw (d, second, b, first, a) (simp append_assoc) in
    ap chars whole ∙ chars-append old (escaped c) u ∙ ap (λ (x : Chars). chars old ++ x) (ascii-chars (escaped c) ascii)

-- one more character read and written
pub wrote-escape : (start old new : Chars) (whole text rest : Chars) (c : ℕ) → is_forbidden c ≡ true → start ++ cleaned whole ≡ old ++ cleaned text → text ≡ c ∷ rest → new ≡ old ++ escaped c
    → start ++ cleaned whole ≡ new ++ cleaned rest
wrote-escape start old new whole text rest c h i e w =
    let one : cleaned (c ∷ rest) ≡ escaped c ++ cleaned rest = rw h refl in
    i ∙ ap (λ (x : Chars). old ++ x) (ap cleaned e ∙ one) ∙ sym (append_assoc old (escaped c) (cleaned rest)) ∙ ap (λ (x : Chars). x ++ cleaned rest) (sym w)

pub wrote-char : (start old new : Chars) (whole text rest : Chars) (c : ℕ) → is_forbidden c ≡ false → start ++ cleaned whole ≡ old ++ cleaned text → text ≡ c ∷ rest → new ≡ old ++ c ∷ []
    → start ++ cleaned whole ≡ new ++ cleaned rest
wrote-char start old new whole text rest c h i e w =
    let one : cleaned (c ∷ rest) ≡ (c ∷ []) ++ cleaned rest = rw h refl in
    i ∙ ap (λ (x : Chars). old ++ x) (ap cleaned e ∙ one) ∙ sym (append_assoc old (c ∷ []) (cleaned rest)) ∙ ap (λ (x : Chars). x ++ cleaned rest) (sym w)

pub pushed-char : (old new bs rest : List ℕ) (c : ℕ) → IsUtf8 old → IsUtf8 bs → bs ≡ encode_utf8 c ++ rest → new ≡ old ++ encode_utf8 c → chars new ≡ chars old ++ c ∷ []
pushed-char old new bs rest c u v e w =
    let cs : chars bs ≡ c ∷ chars rest = chars_past_char bs rest c v e in
    let all : all_scalars (c ∷ chars rest) ≡ true = sym (ap all_scalars cs) ∙ scalars-chars bs v in
    let one : all_scalars (c ∷ []) ≡ true = and_from _ _ (and_parts _ _ all).0 refl in
    let alone : chars (encode_utf8 c) ≡ c ∷ [] = ap chars (sym (append-nil (encode_utf8 c))) ∙ chars-encodes (c ∷ []) one in
    ap chars w ∙ chars-append old (encode_utf8 c) u ∙ ap (λ (x : Chars). chars old ++ x) alone

-- what stood there before

pub keeps-same : (old : List ℕ) → Keeps old old
keeps-same old = ([], sym (append-nil old))

pub keeps-pushed : (old one two more : List ℕ) (done : Bool) → Keeps old one → two ≡ (if done then one ++ more else one) → Keeps old two
keeps-pushed old one two more true k e = (k.0 ++ more, e ∙ ap (λ (x : List ℕ). x ++ more) k.1 ∙ append_assoc old k.0 more)
keeps-pushed old one two more false k e = (k.0, e ∙ k.1)

pub keeps-further : (old one two : List ℕ) → Keeps old one → Keeps one two → Keeps old two
keeps-further old one two k l = (k.0 ++ l.0, l.1 ∙ ap (λ (x : List ℕ). x ++ l.0) k.1 ∙ append_assoc old k.0 l.0)

pub kept-front : (old new : List ℕ) → Keeps old new → take (length old) new ≡ old
kept-front old new k = ap (take (length old)) k.1 ∙ take-append_seam old k.0

pub kept-boundary : (old new : List ℕ) → IsUtf8 old → IsUtf8 new → Keeps old new → IsCharBoundary new (length old)
kept-boundary old new u v k =
    let size : length new ≡ length old + length k.0 = ap length k.1 ∙ length-append old k.0 in
    IsCharBoundary-from_take new (length old) v (omega (arith, size)) (subst IsUtf8 (sym (kept-front old new k)) u)
