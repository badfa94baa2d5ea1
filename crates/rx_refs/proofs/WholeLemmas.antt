-- The components joined again, and the target of a reference.
use Rattle.rx_refs.proofs.Common.{◌≡◌, ◌∙◌, ℕ, true, false, [], ◌∷◌, ◌++◌, drop, sym, ap, subst, refl, Option, Some, None, is_some, codes, option_or, Chars, begins_with, is_empty, trimmed, is_scheme, has_scheme, has_forbidden, by_test, append_assoc, append-nil, Components, before, behind, scheme_of, behind_scheme, authority_of, path_of, delimited, recomposed, holds, relative_path, cleaned, begins-front}
use Rattle.rx_refs.specs.Parts.{components_of}
use Rattle.rx_refs.specs.Dots.{without_dots}
use Rattle.rx_refs.specs.Resolve.{target, resolved}
use Rattle.rx_refs.specs.Laws.{AbsoluteStandsAlone, PartsAreWhole, ResolvedIsIri}
use Rattle.rx_refs.proofs.PartLemmas.{behind-none, behind-some, before-from}
use Rattle.rx_refs.proofs.SchemeLemmas.{cut-scheme, scheme-cut, scheme-none, cleaned-has-scheme, cleaned-clean}

-- The parts of a text are the text

pub behind-mark : (mark : ℕ) (text : Chars) → before mark text ++ delimited (λ (rest : Chars). mark ∷ rest) (behind mark text) ≡ text
behind-mark mark text = go (behind mark text) refl where
  go : (o : Option Chars) → behind mark text ≡ o → before mark text ++ delimited (λ (rest : Chars). mark ∷ rest) o ≡ text
  go None e = append-nil (before mark text) ∙ (behind-none mark text e).0
  go (Some rest) e = sym (behind-some mark text rest e).0

pub authority-path : (part : Chars) → delimited (λ (authority : Chars). codes "//" ++ authority) (authority_of part) ++ path_of part ≡ part
authority-path part =
    by_test (begins_with (codes "//") part) (λ t.
    let front = begins-front (codes "//") part t in
    let same : drop 2 part ≡ front.0 = ap (drop 2) front.1 in
    rw t (rw same (ap (λ (x : Chars). 47 ∷ 47 ∷ x) (before-from 47 front.0) ∙ sym front.1))) (λ t. rw t refl)

scheme-rest : (text : Chars) → delimited (λ (scheme : Chars). scheme ++ codes ":") (scheme_of text) ++ behind_scheme text ≡ text
scheme-rest text =
    by_test (has_scheme text) (λ t.
    let c = cut-scheme text t in
    let s = scheme-cut c.front c.rest c.lacks c.scheme in
    let scheme : scheme_of text ≡ Some c.front = ap scheme_of c.whole ∙ s.0 in
    let rest : behind_scheme text ≡ c.rest = ap behind_scheme c.whole ∙ s.1 in
    rw (scheme, rest) (append_assoc c.front (codes ":") c.rest ∙ sym c.whole)) (λ t.
    let s = scheme-none text t in
    rw (s.0, s.1) refl)

joined : (s a p q f rest hierarchical front text : Chars) → s ++ rest ≡ text → front ++ f ≡ rest → hierarchical ++ q ≡ front → a ++ p ≡ hierarchical → (((s ++ a) ++ p) ++ q) ++ f ≡ text
joined s a p q f rest hierarchical front text whole by_fragment by_query by_path =
    let regroup : (((s ++ a) ++ p) ++ q) ++ f ≡ s ++ (((a ++ p) ++ q) ++ f) = simp append_assoc in
    regroup ∙ ap (λ (x : Chars). s ++ ((x ++ q) ++ f)) by_path ∙ ap (λ (x : Chars). s ++ (x ++ f)) by_query ∙ ap (λ (x : Chars). s ++ x) by_fragment ∙ whole

pub parts-whole : PartsAreWhole
unfolding components_of
parts-whole text =
    let rest = behind_scheme text in
    let front = before 35 rest in
    joined (delimited (λ (scheme : Chars). scheme ++ codes ":") (scheme_of text)) (delimited (λ (authority : Chars). codes "//" ++ authority) (authority_of (before 63 front))) (path_of (before 63 front))
    (delimited (λ (query : Chars). 63 ∷ query) (behind 63 front)) (delimited (λ (fragment : Chars). 35 ∷ fragment) (behind 35 rest))
    rest (before 63 front) front text
    (scheme-rest text) (behind-mark 35 rest) (behind-mark 63 front) (authority-path (before 63 front))

-- 5.2.2, case by case

abbrev pub components : Option Chars → Option Chars → Chars → Option Chars → Option Chars → Components
components scheme authority path query fragment = record { scheme = scheme; authority = authority; path = path; query = query; fragment = fragment }

pub target-absolute : (base r : Components) → is_some r.scheme ≡ true → target base r ≡ components r.scheme r.authority (without_dots r.path) r.query r.fragment
unfolding target
target-absolute base r h = rw h refl

pub target-network : (base r : Components) → is_some r.scheme ≡ false → is_some r.authority ≡ true → target base r ≡ components base.scheme r.authority (without_dots r.path) r.query r.fragment
unfolding target
target-network base r h a = rw (h, a) refl

pub target-same : (base r : Components) → is_some r.scheme ≡ false → is_some r.authority ≡ false → is_empty r.path ≡ true → target base r ≡ components base.scheme base.authority base.path (option_or r.query base.query) r.fragment
unfolding target
target-same base r h a p = rw (h, a, p) refl

pub target-relative : (base r : Components) → is_some r.scheme ≡ false → is_some r.authority ≡ false → is_empty r.path ≡ false → target base r ≡ components base.scheme base.authority (relative_path base r.path) r.query r.fragment
unfolding target
target-relative base r h a p = rw (h, a, p) refl

pub record IsScheme (scheme : Option Chars) : Type 0 where
  pub text : Chars
  pub same : scheme ≡ Some text
  pub lacks : holds 58 text ≡ false
  pub form : is_scheme text ≡ true

some_scheme : (text : Chars) → has_scheme text ≡ true → IsScheme (components_of text).scheme
unfolding components_of
some_scheme text h =
    let c = cut-scheme text h in
    record { text = c.front; same = ap scheme_of c.whole ∙ (scheme-cut c.front c.rest c.lacks c.scheme).0; lacks = c.lacks; form = c.scheme }

is_some-scheme : (text : Chars) → has_scheme text ≡ true → is_some (components_of text).scheme ≡ true
unfolding components_of
is_some-scheme text h = rw h refl

no_scheme : (text : Chars) → has_scheme text ≡ false → is_some (components_of text).scheme ≡ false
unfolding components_of
no_scheme text h = rw h refl

target-scheme : (base r : Components) → is_some r.scheme ≡ false → (target base r).scheme ≡ base.scheme
target-scheme base r h =
    by_test (is_some r.authority) (λ a. ap (λ (t : Components). t.scheme) (target-network base r h a)) (λ a.
    by_test (is_empty r.path) (λ p. ap (λ (t : Components). t.scheme) (target-same base r h a p)) (λ p. ap (λ (t : Components). t.scheme) (target-relative base r h a p)))

has_target_scheme : (base reference : Chars) → has_scheme base ≡ true → IsScheme (target (components_of base) (components_of reference)).scheme
has_target_scheme base reference h =
    by_test (has_scheme reference) (λ t.
    let e : (target (components_of base) (components_of reference)).scheme ≡ (components_of reference).scheme = ap (λ (t : Components). t.scheme) (target-absolute (components_of base) (components_of reference) (is_some-scheme reference t)) in
    subst IsScheme (sym e) (some_scheme reference t)) (λ t.
    subst IsScheme (sym (target-scheme (components_of base) (components_of reference) (no_scheme reference t))) (some_scheme base h))

recomposed-scheme : (t : Components) (s : Chars) → t.scheme ≡ Some s → (rest : Chars) × (recomposed t ≡ s ++ 58 ∷ rest)
recomposed-scheme t s e =
    let a = delimited (λ (authority : Chars). codes "//" ++ authority) t.authority in
    let q = delimited (λ (query : Chars). codes "?" ++ query) t.query in
    let f = delimited (λ (fragment : Chars). codes "#" ++ fragment) t.fragment in
    let p = t.path in
    let regroup : ((((s ++ 58 ∷ []) ++ a) ++ p) ++ q) ++ f ≡ s ++ 58 ∷ (a ++ (p ++ (q ++ f))) = simp append_assoc in
    (a ++ (p ++ (q ++ f)), ap (λ (o : Option Chars). (((delimited (λ (scheme : Chars). scheme ++ codes ":") o ++ a) ++ p) ++ q) ++ f) e ∙ regroup)

pub resolved-iri : ResolvedIsIri
unfolding resolved
resolved-iri base reference =
    let whole = recomposed (target (components_of base) (components_of (trimmed reference))) in
    let clean : has_forbidden (cleaned whole) ≡ false = cleaned-clean whole in
    record {
      clean = clean;
      iri = λ iri.
          let s = has_target_scheme base (trimmed reference) iri.scheme in
          let r = recomposed-scheme (target (components_of base) (components_of (trimmed reference))) s.text s.same in
          record { scheme = ap (λ (x : Chars). has_scheme (cleaned x)) r.1 ∙ cleaned-has-scheme s.text r.0 s.lacks s.form; clean = clean };
    }

pub absolute-alone : AbsoluteStandsAlone
unfolding resolved
absolute-alone base other reference h =
    let r = components_of (trimmed reference) in
    let some = is_some-scheme (trimmed reference) h in
    ap (λ (t : Components). cleaned (recomposed t)) (target-absolute (components_of base) r some ∙ sym (target-absolute (components_of other) r some))
