use Rattle.rx_refs.proofs.Common.{◌≡◌, refl, Option, chars, Chars, seen_slice, Components, before, behind, scheme_of, behind_scheme, authority_of, path_of}
use Rattle.rx_refs.specs.Parts.{components_of}
use Rattle.rx_refs.proofs.parts.split.Goals as goal

abbrev of : Option Chars → Option Chars → Chars → Option Chars → Option Chars → Components
of scheme authority path query fragment = record { scheme = scheme; authority = authority; path = path; query = query; fragment = fragment }

together : (text rest a b path : Chars) (scheme authority query fragment : Option Chars) → scheme ≡ scheme_of text → rest ≡ behind_scheme text
    → a ≡ before 35 rest → fragment ≡ behind 35 rest → b ≡ before 63 a → query ≡ behind 63 a → authority ≡ authority_of b → path ≡ path_of b
    → of scheme authority path query fragment ≡ components_of text
unfolding components_of
together text rest a b path scheme authority query fragment s r front f hierarchical q au p = rw (s, au, p, q, f, hierarchical, front, r) refl

pub returns : goal.returns
returns c =
    together (chars c.args.text.now) (chars c.split_scheme.result.1.now) (chars c.cut.result.0.now) (chars c.cut-2.result.0.now) (chars c.split_authority.result.1.now)
    (seen_slice c.split_scheme.result.0) (seen_slice c.split_authority.result.0) (seen_slice c.cut-2.result.1) (seen_slice c.cut.result.1)
    c.split_scheme.ensures.scheme c.split_scheme.ensures.rest c.cut.ensures.front c.cut.ensures.rest c.cut-2.ensures.front c.cut-2.ensures.rest
    c.split_authority.ensures.authority c.split_authority.ensures.path
