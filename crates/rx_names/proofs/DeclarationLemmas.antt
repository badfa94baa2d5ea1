-- What a tag declares, one declaration after another.
use Rattle.rx_names.proofs.Common.{filter-append, ap₂, on_ok_weaker, ◌≡◌, ◌≢◌, ◌∙◌, ℕ, ◌+◌, ◌<◌, ap, sym, refl, arith, Bool, true, false, cond, Option, Some, None, List, [], ◌∷◌, ◌++◌, map, reverse, filter, take, drop, length, get_or, bytes_eq, codes, append_assoc, Result, OnOk, MatchOption, Bor, ◌&&◌, ◌==◌, chars, and_from, nat_tests, lowered_char, colon, Chars, trimmed, lowered, begins_with, seen_slice, has_scheme, ascii-chars, by_test, flat_map-append, bytes_eq-Decides, map-append, take_more, reverse-append, reverse-reverse, append-nil, and_right, flat_map, Table, counts, xmlns_of, prefix_name, without_colon, pairs_after, mapping_rows, prefix_declaration}
use Rattle.rx_names.specs.declared.rows.Declaration.{Declaration}

pub becomes : {A E : Type 0} (r : Result A E) (new a b : List Declaration) → a ≡ b → OnOk r (new ≡ a) → OnOk r (new ≡ b)
becomes r new a b e h = on_ok_weaker r (λ k. k ∙ e) h

-- Mappings

pub mapping-append : (a b : Table) → mapping_rows (a ++ b) ≡ mapping_rows a ++ mapping_rows b
mapping-append a b = ap (map prefix_declaration) (filter-append counts a b) ∙ map-append prefix_declaration (filter counts a) (filter counts b)

lowered-char : (c : ℕ) → lowered_char (lowered_char c) ≡ lowered_char c
lowered-char c = grind (arith, nat_tests)

pub lowered-lowered : (text : Chars) → lowered (lowered text) ≡ lowered text
lowered-lowered [] = refl
lowered-lowered (c ∷ text) = ap₂ ◌∷◌ (lowered-char c) (lowered-lowered text)

pub sound-mapping : (name low iri : Chars) (b : Bool) → low ≡ lowered name → b ≡ counts (low, iri) → b ≡ true → (bytes_eq (lowered low) low && has_scheme iri) ≡ true
sound-mapping name low iri b e f t =
    let same : lowered low ≡ low = ap lowered e ∙ lowered-lowered name ∙ sym e in
    let whole : counts (low, iri) ≡ true = sym f ∙ t in
    and_from _ _ ((bytes_eq-Decides (lowered low) low).1 same) (and_right _ (has_scheme iri) whole)

-- Attributes `xmlns:NAME`

pub xmlns-chars : chars (codes "xmlns:") ≡ codes "xmlns:"
xmlns-chars = ascii-chars (codes "xmlns:") refl

pub no-namespace : (name value : Chars) → begins_with (chars (codes "xmlns:")) name ≡ false → mapping_rows (xmlns_of (name, value)) ≡ []
no-namespace name value h =
    let none : begins_with (codes "xmlns:") name ≡ false = sym (ap (λ (x : Chars). begins_with x name) xmlns-chars) ∙ h in
    ap (λ b. mapping_rows (cond b ((lowered (drop 6 name), trimmed value) ∷ []) [])) none

pub one-namespace : (name value rest clean : Chars) → name ≡ chars (codes "xmlns:") ++ rest → clean ≡ trimmed value → mapping_rows ((lowered rest, clean) ∷ []) ≡ mapping_rows (xmlns_of (name, value))
one-namespace name value rest clean e f =
    let whole : name ≡ codes "xmlns:" ++ rest = e ∙ ap (λ (x : Chars). x ++ rest) xmlns-chars in
    ap (λ (x : Chars). mapping_rows ((lowered rest, x) ∷ [])) f ∙ sym (ap (λ (x : Chars). mapping_rows (xmlns_of (x, value))) whole)

-- one attribute more
pub more-namespaces : (attributes : List (Chars × Chars)) (i : ℕ) (a : Chars × Chars) (old rows new : List Declaration) → i < length attributes → get_or attributes i a ≡ a
    → rows ≡ old ++ mapping_rows (flat_map xmlns_of (take i attributes)) → new ≡ rows ++ mapping_rows (xmlns_of a) → new ≡ old ++ mapping_rows (flat_map xmlns_of (take (i + 1) attributes))
more-namespaces attributes i a old rows new within is e f =
    let whole : take (i + 1) attributes ≡ take i attributes ++ a ∷ [] = take_more attributes i a within ∙ ap (λ (x : Chars × Chars). take i attributes ++ x ∷ []) is in
    let cut : flat_map xmlns_of (take (i + 1) attributes) ≡ flat_map xmlns_of (take i attributes) ++ xmlns_of a =
    ap (flat_map xmlns_of) whole ∙ flat_map-append xmlns_of (take i attributes) (a ∷ []) ∙ ap (λ (x : Table). flat_map xmlns_of (take i attributes) ++ x) (append-nil (xmlns_of a)) in
    f ∙ ap (λ (x : List Declaration). x ++ mapping_rows (xmlns_of a)) e
    ∙ append_assoc old (mapping_rows (flat_map xmlns_of (take i attributes))) (mapping_rows (xmlns_of a))
    ∙ ap (λ (x : List Declaration). old ++ x) (sym (ap mapping_rows cut ∙ mapping-append (flat_map xmlns_of (take i attributes)) (xmlns_of a)))

-- The pairs of `prefix`

pub names-prefix : (token front : Chars) → token ≡ front ++ colon ∷ [] → prefix_name token ≡ Some front
names-prefix token front e =
    ap prefix_name e ∙ ap without_colon (reverse-append front (colon ∷ [])) ∙ ap Some (reverse-reverse front)

pub names-none : (token : Chars) → ((front : Chars) → token ≢ front ++ colon ∷ []) → prefix_name token ≡ None
names-none token h = go (reverse token) refl where
  go : (r : Chars) → reverse token ≡ r → without_colon (reverse token) ≡ None
  go [] e = ap without_colon e
  go (c ∷ r) e =
      by_test (c == colon) (λ t.
      let same : c ≡ colon = grind (arith, nat_tests) in
      let whole : token ≡ reverse r ++ c ∷ [] = sym (reverse-reverse token) ∙ ap reverse e ∙ reverse-append (c ∷ []) r in
      absurd (h (reverse r) (whole ∙ ap (λ (x : ℕ). reverse r ++ x ∷ []) same))) (λ t. ap without_colon e ∙ rw t refl)

pub split-name : (token : Chars) (r : Option (Bor (List ℕ))) → MatchOption r ((front : Chars) → token ≢ front ++ colon ∷ []) (λ front. token ≡ chars front.now ++ colon ∷ []) → prefix_name token ≡ seen_slice r
split-name token None h = names-none token h
split-name token (Some front) h = names-prefix token (chars front.now) h

-- a token that no name stood before
pub waits : (rows whole : List Declaration) (waiting r : Option (Bor (List ℕ))) (words : List Chars) (token : Chars) (more : List Chars) → rows ++ mapping_rows (pairs_after (seen_slice waiting) words) ≡ whole
    → waiting ≡ None → words ≡ token ∷ more → MatchOption r ((front : Chars) → token ≢ front ++ colon ∷ []) (λ front. token ≡ chars front.now ++ colon ∷ [])
    → rows ++ mapping_rows (pairs_after (seen_slice r) more) ≡ whole
waits rows whole waiting r words token more e none is h =
    let here : pairs_after (seen_slice waiting) words ≡ pairs_after (seen_slice r) more =
    ap (λ (w : Option (Bor (List ℕ))). pairs_after (seen_slice w) words) none ∙ ap (pairs_after None) is ∙ ap (λ (o : Option Chars). pairs_after o more) (split-name token r h) in
    sym (ap (λ (t : Table). rows ++ mapping_rows t) here) ∙ e

-- a token behind its name
pub pairs_up : (rows new whole : List Declaration) (waiting : Option (Bor (List ℕ))) (name : Bor (List ℕ)) (words : List Chars) (token : Chars) (more : List Chars) → rows ++ mapping_rows (pairs_after (seen_slice waiting) words) ≡ whole
    → waiting ≡ Some name → words ≡ token ∷ more → new ≡ rows ++ mapping_rows ((lowered (chars name.now), token) ∷ []) → new ++ mapping_rows (pairs_after None more) ≡ whole
pairs_up rows new whole waiting name words token more e some is n =
    let pair : Table = (lowered (chars name.now), token) ∷ [] in
    let here : pairs_after (seen_slice waiting) words ≡ pair ++ pairs_after None more =
    ap (λ (w : Option (Bor (List ℕ))). pairs_after (seen_slice w) words) some ∙ ap (pairs_after (Some (chars name.now))) is in
    ap (λ (x : List Declaration). x ++ mapping_rows (pairs_after None more)) n
    ∙ append_assoc rows (mapping_rows pair) (mapping_rows (pairs_after None more))
    ∙ ap (λ (x : List Declaration). rows ++ x) (sym (mapping-append pair (pairs_after None more)))
    ∙ ap (λ (t : Table). rows ++ mapping_rows t) (sym here) ∙ e
