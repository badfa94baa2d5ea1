-- The comment on a page as bytes.
use Rattle.rx_many.proofs.Common.{◌≡◌, ◌∙◌, ℕ, ◌<◌, ◌^◌, true, List, ◌++◌, codes, refl, sym, ap, ap₂, append_assoc, Chars, encode_utf8_all, all_ascii, lacks, comment_with, kind_name}
use Rattle.rx_terms.proofs.Common.{list_all, encodes-append, is_ascii, line_feed, ascii-same, decimal, IsAscii-decimal}
use Rattle.rx_grammar.specs.declared.faults.Kind.{Kind}
use Rattle.rx_grammar.specs.declared.faults.Kind.TheVariants as kind

-- the names are of ASCII, and have no line feed
pub names : (k : Kind) → (list_all is_ascii (kind_name k) ≡ true) × (lacks line_feed (kind_name k) ≡ true)
names kind.NotUtf8 = (refl, refl)
names kind.Nul = (refl, refl)
names kind.BadTag = (refl, refl)
names kind.Mismatch = (refl, refl)
names kind.NothingOpen = (refl, refl)
names kind.SelfClosed = (refl, refl)
names kind.UnknownReference = (refl, refl)
names kind.BadReference = (refl, refl)
names kind.TooDeep = (refl, refl)
names kind.TagTooLong = (refl, refl)
names kind.Outside = (refl, refl)
names kind.RootNotHtml = (refl, refl)
names kind.BadDoctype = (refl, refl)
names kind.Unended = (refl, refl)
names kind.RepeatedAttribute = (refl, refl)
names kind.StrictText = (refl, refl)
names kind.Plaintext = (refl, refl)
names kind.PageTooLong = (refl, refl)
names kind.RelativeVocab = (refl, refl)
names kind.XmlLiteral = (refl, refl)
names kind.HtmlLiteral = (refl, refl)
names kind.Cycle = (refl, refl)
names kind.ItemsTooNested = (refl, refl)
names kind.ItemsTooMany = (refl, refl)

pub ascii_decimal : (n : ℕ) → n < 2 ^ 64 → list_all is_ascii (decimal n) ≡ true
ascii_decimal n fits = all_ascii (decimal n) (IsAscii-decimal n fits)

-- ASCII before a text
ascii_before : (front text : Chars) → list_all is_ascii front ≡ true → front ++ encode_utf8_all text ≡ encode_utf8_all (front ++ text)
ascii_before front text h = sym (encodes-append front text ∙ ap (λ z. z ++ encode_utf8_all text) (ascii-same front h).0)

pub comment_bytes : (kind : Chars) (at token : ℕ) (address : Chars) → list_all is_ascii kind ≡ true → at < 2 ^ 64 → token < 2 ^ 64
    → codes "# refused: " ++ (kind ++ (codes " at byte " ++ (decimal at ++ (codes " in token " ++ (decimal token ++ (codes " of " ++ (encode_utf8_all address ++ codes "\n")))))))
    ≡ encode_utf8_all (comment_with kind at token address ++ codes "\n")
comment_bytes kind at token address named first second =
    let end : Chars = codes "\n" in
    let last : Chars = codes " of " ++ (address ++ end) in
    let place : Chars = codes " in token " ++ (decimal token ++ last) in
    let byte : Chars = codes " at byte " ++ (decimal at ++ place) in
    let ended : encode_utf8_all address ++ end ≡ encode_utf8_all (address ++ end) = ap (λ z. encode_utf8_all address ++ z) (sym (ascii-same end refl).0) ∙ sym (encodes-append address end) in
    let of : codes " of " ++ (encode_utf8_all address ++ end) ≡ encode_utf8_all last = ap (λ z. codes " of " ++ z) ended ∙ ascii_before (codes " of ") (address ++ end) refl in
    let tokens : codes " in token " ++ (decimal token ++ (codes " of " ++ (encode_utf8_all address ++ end))) ≡ encode_utf8_all place =
    ap (λ z. codes " in token " ++ (decimal token ++ z)) of ∙ ap (λ z. codes " in token " ++ z) (ascii_before (decimal token) last (ascii_decimal token second)) ∙ ascii_before (codes " in token ") (decimal token ++ last) refl in
    let bytes : codes " at byte " ++ (decimal at ++ (codes " in token " ++ (decimal token ++ (codes " of " ++ (encode_utf8_all address ++ end))))) ≡ encode_utf8_all byte =
    ap (λ z. codes " at byte " ++ (decimal at ++ z)) tokens ∙ ap (λ z. codes " at byte " ++ z) (ascii_before (decimal at) place (ascii_decimal at first)) ∙ ascii_before (codes " at byte ") (decimal at ++ place) refl in
    ap (λ z. codes "# refused: " ++ (kind ++ z)) bytes ∙ ap (λ z. codes "# refused: " ++ z) (ascii_before kind byte named) ∙ ascii_before (codes "# refused: ") (kind ++ byte) refl
    ∙ ap encode_utf8_all (comment_moved kind (decimal at) (decimal token) address end)
  where
    comment_moved : (kind at token address end : Chars)
        → codes "# refused: " ++ (kind ++ (codes " at byte " ++ (at ++ (codes " in token " ++ (token ++ (codes " of " ++ (address ++ end)))))))
        ≡ (codes "# refused: " ++ (kind ++ (codes " at byte " ++ (at ++ (codes " in token " ++ (token ++ (codes " of " ++ address))))))) ++ end
    comment_moved kind at token address end =
        sym (ap (λ z. codes "# refused: " ++ z) (append_assoc kind (codes " at byte " ++ (at ++ (codes " in token " ++ (token ++ (codes " of " ++ address))))) end)
        ∙ ap (λ z. codes "# refused: " ++ (kind ++ (codes " at byte " ++ z))) (append_assoc at (codes " in token " ++ (token ++ (codes " of " ++ address))) end)
        ∙ ap (λ z. codes "# refused: " ++ (kind ++ (codes " at byte " ++ (at ++ (codes " in token " ++ z))))) (append_assoc token (codes " of " ++ address) end))

pub comment_line : (k : Kind) (at token : ℕ) (address : Chars) (name bytes : List ℕ) → name ≡ kind_name k → bytes ≡ encode_utf8_all address → at < 2 ^ 64 → token < 2 ^ 64
    → codes "# refused: " ++ (name ++ (codes " at byte " ++ (decimal at ++ (codes " in token " ++ (decimal token ++ (codes " of " ++ (bytes ++ codes "\n")))))))
    ≡ encode_utf8_all (comment_with (kind_name k) at token address ++ codes "\n")
comment_line k at token address name bytes e f first second =
    ap₂ (λ n b. codes "# refused: " ++ (n ++ (codes " at byte " ++ (decimal at ++ (codes " in token " ++ (decimal token ++ (codes " of " ++ (b ++ codes "\n")))))))) e f
    ∙ comment_bytes (kind_name k) at token address (names k).0 first second
