-- What is made of texts with a scheme.
use Rattle.rx_rdfa.proofs.Common.{◌≡◌, ◌∙◌, true, [], ◌∷◌, ◌++◌, append_assoc, sym, ap, subst, bytes_decides, Chars, IsIri, has_scheme, bytes_eq, cleaned}
use Rattle.rx_refs.proofs.SchemeLemmas.{cut-scheme, cleaned-has-scheme, cleaned-clean, cleaned-append, has_scheme-cut, uncleaned}

pub clean-iri : (text : Chars) → has_scheme text ≡ true → IsIri (cleaned text)
clean-iri text h =
    let c = cut-scheme text h in
    record { scheme = ap (λ (x : Chars). has_scheme (cleaned x)) c.whole ∙ cleaned-has-scheme c.front c.rest c.lacks c.scheme; clean = cleaned-clean text }

pub scheme-more : (text more : Chars) → has_scheme text ≡ true → has_scheme (text ++ more) ≡ true
scheme-more text more h =
    let c = cut-scheme text h in
    let whole : text ++ more ≡ c.front ++ 58 ∷ (c.rest ++ more) = ap (λ (x : Chars). x ++ more) c.whole ∙ append_assoc c.front (58 ∷ c.rest) more in
    ap has_scheme whole ∙ has_scheme-cut c.front (c.rest ++ more) c.lacks ∙ c.scheme

pub text-iri : (text made : Chars) → has_scheme text ≡ true → made ≡ cleaned text → IsIri made
text-iri text made h e = subst IsIri (sym e) (clean-iri text h)

-- a text that was written in two pieces
pub two-pieces : (empty one two : Chars) (a b : Chars) → empty ≡ [] → one ≡ empty ++ cleaned a → two ≡ one ++ cleaned b → two ≡ cleaned (a ++ b)
two-pieces empty one two a b e f g = g ∙ ap (λ (x : Chars). x ++ cleaned b) (f ∙ ap (λ (x : Chars). x ++ cleaned a) e) ∙ sym (cleaned-append a b)

-- an IRI has nothing to be escaped, so it is what would be made of its characters
pub kept-same : (text iri : Chars) → IsIri iri → bytes_eq text iri ≡ true → iri ≡ cleaned text
kept-same text iri form t = let same : text ≡ iri = (bytes_decides text iri).0 t in sym (ap cleaned same ∙ uncleaned iri form.clean)
