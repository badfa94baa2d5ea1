use Rattle.rx_refs.proofs.Common.{◌≡◌, ◌∙◌, ◌++◌, [], ap, refl, Option, string_bytes, codes, chars, chars-nil, Chars, seen_slice, ascii-chars, delimited, recomposed, seen_path}
use Rattle.rx_refs.proofs.WholeLemmas.{components}
use Rattle.rx_refs.proofs.recomposition.recompose.Goals as goal

together : (a b d e f g path slashes question hash : Chars) (scheme authority query fragment : Option Chars)
    → slashes ≡ codes "//" → question ≡ codes "?" → hash ≡ codes "#" → a ≡ []
    → b ≡ a ++ delimited (λ (s : Chars). s ++ codes ":") scheme → d ≡ b ++ delimited (λ (s : Chars). slashes ++ s) authority → e ≡ d ++ path
    → f ≡ e ++ delimited (λ (s : Chars). question ++ s) query → g ≡ f ++ delimited (λ (s : Chars). hash ++ s) fragment
    → g ≡ recomposed (components scheme authority path query fragment)
together a b d e f g path slashes question hash scheme authority query fragment s q h start one two three four five = rw (five, four, three, two, one, start, s, q, h) refl

pub returns : goal.returns
returns c =
    together (chars (string_bytes c.new-front.result)) (chars (string_bytes c.push_scheme.new.text)) (chars (string_bytes c.push_behind.new.text)) (chars (string_bytes c.in_ok-text.text)) (chars (string_bytes c.push_behind-2.new.text)) (chars (string_bytes c.push_behind-3.new.text))
    (seen_path c.args.target.now.path) (chars (codes "//")) (chars (codes "?")) (chars (codes "#"))
    (seen_slice c.args.target.now.scheme) (seen_slice c.args.target.now.authority) (seen_slice c.args.target.now.query) (seen_slice c.args.target.now.fragment)
    (ascii-chars (codes "//") refl) (ascii-chars (codes "?") refl) (ascii-chars (codes "#") refl) (ap chars c.new-front.ensures.bytes ∙ chars-nil)
    c.in_ok-push_scheme.ensures c.in_ok-push_behind.ensures c.in_ok-text.ensures c.in_ok-push_behind-2.ensures c.in_ok-push_behind-3.ensures
