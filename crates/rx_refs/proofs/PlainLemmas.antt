-- What a plain reference means.
use Rattle.rx_refs.proofs.Common.{◌≡◌, ◌∙◌, ℕ, zero, suc, ◌≤◌, Bool, true, false, [], ◌∷◌, ◌++◌, drop, length, reverse, sym, ap, refl, arith, Option, Some, None, not, ◌==◌, ◌||◌, ◌&&◌, if◌then◌else◌, is_some, codes, list_all, and_parts, and_from, or_parts, nat_tests, list_any-append, option_or, is_white_space, Chars, begins_with, is_empty, trimmed, without_leading_space, is_scheme_char, is_scheme, has_scheme, is_forbidden, has_forbidden, IsIri, begins_with_letter, by_test, untrue, append_cancel_left, reverse-append, reverse-reverse, append_assoc, append-nil, Components, before, from_first, behind, scheme_of, behind_scheme, hierarchical_part, authority_of, path_of, delimited, recomposed, holds, through_last_slash, relative_path, cleaned, no_dots, ends_path, is_plain_from, is_plain_reference, begins_path, keeps_all, begins_query, begins-front, same_char}
use Rattle.rx_refs.specs.Parts.{query_of, components_of}
use Rattle.rx_refs.specs.Dots.{step, without_dots}
use Rattle.rx_refs.specs.Segments.{reduced}
use Rattle.rx_refs.specs.Resolve.{target, resolved}
use Rattle.rx_refs.proofs.PartLemmas.{before-lacking, none-of, before-from, cut-at}
use Rattle.rx_refs.proofs.DotLemmas.{at, from_first-shorter, reduced-step}
use Rattle.rx_refs.proofs.RuleLemmas.{reduced-end}
use Rattle.rx_refs.proofs.CutLemmas.{through-rest, through-none}
pub use Rattle.rx_refs.proofs.SchemeLemmas.{scheme-clean}
use Rattle.rx_refs.proofs.SchemeLemmas.{cut-scheme, scheme-cut, scheme-none, has_scheme-cut, uncleaned, before-clean, no_hash, scheme_chars, clean-of}
use Rattle.rx_refs.proofs.TargetLemmas.{relative-merged}
use Rattle.rx_refs.proofs.WholeLemmas.{components, parts-whole, target-relative, target-same, target-network, target-absolute, behind-mark, authority-path}

false_true : {G : Type 0} → false ≡ true → G
false_true h = absurd (cc h)

-- What the test says

no_end : (c : ℕ) → (c == 35) ≡ false → (c == 63) ≡ false → ends_path c ≡ false
no_end c h k = rw (h, k) refl

-- nothing is forbidden, and no segment begins with `.`
pub plain-is : (first start : Bool) (text : Chars) → is_plain_from first start text ≡ true → (has_forbidden text ≡ false) × (no_dots start (hierarchical_part text) ≡ true)
plain-is first start [] h = (refl, refl)
plain-is first start (c ∷ text) h =
    by_test (is_forbidden c) (λ t. let g : false ≡ true = rw t at h in false_true g) (λ f.
    by_test (c == 35) (λ t. (rw f (untrue (has_forbidden text) (rw (f, t) at h)), rw t refl)) (λ a.
    by_test (c == 63) (λ t. (rw f (untrue (has_forbidden text) (rw (f, a, t) at h)), rw (a, t) refl)) (λ b.
    let e = no_end c a b in
    by_test (first && c == 58) (λ t. let g : false ≡ true = rw (f, e, t) at h in false_true g) (λ k.
    by_test (start && c == 46) (λ t. let g : false ≡ true = rw (f, e, k, t) at h in false_true g) (λ d.
    let r = plain-is (if c == 47 then false else first) (c == 47) text (rw (f, e, k, d) at h) in
    (rw f r.0, rw (a, b, d) r.1))))))

with-colon : (start : Bool) (front rest : Chars) → list_all is_scheme_char front ≡ true → is_plain_from true start (front ++ 58 ∷ rest) ≡ false
with-colon start [] rest h = refl
with-colon start (c ∷ front) rest h =
    let p = and_parts (is_scheme_char c) (list_all is_scheme_char front) h in
    let s = p.0 in
    let slash : (c == 47) ≡ false = grind (arith, nat_tests) in
    let e : ends_path c ≡ false = grind (arith, nat_tests) in
    by_test (is_forbidden c) (λ t. rw t refl) (λ f.
    by_test (c == 58) (λ t. rw (f, e, t) refl) (λ k.
    by_test (start && c == 46) (λ t. rw (f, e, k, t) refl) (λ d.
    rw (f, e, k, d, slash) (with-colon false front rest p.1))))

pub plain-scheme : (start : Bool) (text : Chars) → is_plain_from true start text ≡ true → has_scheme text ≡ false
plain-scheme start text h =
    by_test (has_scheme text) (λ t.
    let c = cut-scheme text t in
    let none = with-colon start c.front c.rest (and_parts (begins_with_letter c.front) (list_all is_scheme_char c.front) c.scheme).1 in
    let g : false ≡ true = sym (ap (is_plain_from true start) c.whole ∙ none) ∙ h in
    false_true g) (λ t. t)

-- A path without dots stays

pub dots-rest : (start : Bool) (text : Chars) → no_dots start text ≡ true → no_dots true (from_first 47 text) ≡ true
dots-rest start [] h = refl
dots-rest start (c ∷ text) h =
    by_test (c == 47) (λ t.
    let dot : (c == 46) ≡ false = grind (arith, nat_tests) in
    let r = (and_parts (not (start && c == 46)) (no_dots (c == 47) text) h).1 in
    rw (t, dot) r) (λ t.
    let r = (and_parts (not (start && c == 46)) (no_dots (c == 47) text) h).1 in
    rw t (dots-rest (c == 47) text r))

pub flipped : (c d : ℕ) → (c == d) ≡ false → (d == c) ≡ false
flipped c d h = grind (arith, nat_tests)

pub no_dot : (c : ℕ) (text : Chars) → no_dots true (c ∷ text) ≡ true → ((46 == c) ≡ false) × (no_dots (c == 47) text ≡ true)
no_dot c text h =
    let p = and_parts (not (c == 46)) (no_dots (c == 47) text) h in
    (flipped c 46 (untrue (c == 46) p.0), p.1)

pub dots-bare : (c : ℕ) (input output : Chars) → (46 == c) ≡ false → (47 == c) ≡ false → step (at (c ∷ input) output) ≡ at (from_first 47 input) (output ++ c ∷ before 47 input)
unfolding step
dots-bare c input output h k = rw (h, k) refl

-- a text without dots is moved whole, where nothing follows or a `/`

abbrev not_dot : Chars → Bool
not_dot [] = true
not_dot (d ∷ text) = not (46 == d)

slash-step : (text output : Chars) → not_dot text ≡ true → step (at (47 ∷ text) output) ≡ at (from_first 47 text) (output ++ 47 ∷ before 47 text)
unfolding step
slash-step [] output h = refl
slash-step (d ∷ text) output h = rw (untrue (46 == d) h) refl

split-slash : (input after : Chars) → before 47 after ≡ [] → (from_first 47 (input ++ after) ≡ from_first 47 input ++ after) × (before 47 (input ++ after) ≡ before 47 input)
split-slash [] after b = (ap (λ (x : Chars). x ++ from_first 47 after) (sym b) ∙ before-from 47 after, b)
split-slash (c ∷ input) after b =
    let r = split-slash input after b in
    by_test (c == 47) (λ t. (rw t refl, rw t refl)) (λ t. (rw t r.0, rw t (ap (λ x. c ∷ x) r.1)))

pass-step : (c : ℕ) (input after output : Chars) → no_dots true (c ∷ input) ≡ true → before 47 after ≡ []
    → step (at (c ∷ (input ++ after)) output) ≡ at (from_first 47 (input ++ after)) (output ++ c ∷ before 47 (input ++ after))
pass-step c input after output h b =
    let p = no_dot c input h in
    by_test (c == 47) (λ t. rw (same_char c 47 t) (slash-step (input ++ after) output (go input after (rw t at p.1) b))) (λ t. dots-bare c (input ++ after) output p.0 (flipped c 47 t)) where
      go : (input after : Chars) → no_dots true input ≡ true → before 47 after ≡ [] → not_dot (input ++ after) ≡ true
      go [] [] h b = refl
      go [] (d ∷ after) h b = by_test (d == 47) (λ t. let e = same_char d 47 t in rw e refl) (λ t. let g : d ∷ before 47 after ≡ [] = rw t at b in absurd (cc g))
      go (d ∷ input) after h b = rw (no_dot d input h).0 refl

pub pass : (n : ℕ) (input after output : Chars) → length input ≤ n → no_dots true input ≡ true → before 47 after ≡ [] → reduced (at (input ++ after) output) ≡ reduced (at after (output ++ input))
pass n [] after output l h b = ap (λ (o : Chars). reduced (at after o)) (sym (append-nil output))
pass zero (c ∷ input) after output l h b = absurd (omega arith)
pass (suc n) (c ∷ input) after output l h b =
    let s = split-slash input after b in
    let left = from_first 47 input in
    let front = c ∷ before 47 input in
    let shorter = from_first-shorter 47 input in
    let later = dots-rest (c == 47) input (no_dot c input h).1 in
    let moved : at (from_first 47 (input ++ after)) (output ++ c ∷ before 47 (input ++ after)) ≡ at (left ++ after) (output ++ front) = rw (s.0, s.1) refl in
    reduced-step (c ∷ (input ++ after)) output
    ∙ ap reduced (pass-step c input after output h b ∙ moved)
    ∙ pass n left after (output ++ front) (omega arith) later b
    ∙ ap (λ (x : Chars). reduced (at after x)) (append_assoc output front left ∙ ap (λ (x : Chars). output ++ c ∷ x) (before-from 47 input))

pub dots-kept : (input output : Chars) → no_dots true input ≡ true → reduced (at input output) ≡ output ++ input
dots-kept input output h = ap (λ (x : Chars). reduced (at x output)) (sym (append-nil input)) ∙ pass (length input) input [] output (omega arith) h refl ∙ reduced-end (output ++ input)

pub without-dots : (path : Chars) → no_dots true path ≡ true → without_dots path ≡ path
unfolding reduced without_dots
without-dots path h = dots-kept path [] h

-- behind a path up to its last `/`
pub dots-join : (start : Bool) (path rest : Chars) → no_dots start path ≡ true → holds 47 path ≡ true → no_dots true rest ≡ true → no_dots start (through_last_slash path ++ rest) ≡ true
dots-join start [] rest h some k = absurd (cc some)
dots-join start (c ∷ path) rest h some k =
    let p = and_parts (not (start && c == 46)) (no_dots (c == 47) path) h in
    let whole : through_last_slash (c ∷ path) ≡ c ∷ through_last_slash path = rw some refl in
    let more : no_dots (c == 47) (through_last_slash path ++ rest) ≡ true =
    by_test (holds 47 path) (λ t. dots-join (c == 47) path rest p.1 t k) (λ t.
    let slash : (c == 47) ≡ true = or_left (c == 47) (holds 47 path) some t in
    rw (through-none path t, slash) k) in
    ap (λ (x : Chars). no_dots start (x ++ rest)) whole ∙ and_from (not (start && c == 46)) (no_dots (c == 47) (through_last_slash path ++ rest)) p.0 more where
      or_left : (a b : Bool) → (a || b) ≡ true → b ≡ false → a ≡ true
      or_left true b h k = refl
      or_left false b h k = sym (sym h ∙ k)

-- A text without a forbidden character is trimmed

clean-front : (text : Chars) → has_forbidden text ≡ false → without_leading_space text ≡ text
clean-front [] h = refl
clean-front (c ∷ text) h =
    by_test (is_white_space c) (λ t.
    let f : is_forbidden c ≡ true = grind (arith, nat_tests) in
    let g : true ≡ false = rw f at h in
    absurd (cc g)) (λ t. rw t refl)

clean-reverse : (text : Chars) → has_forbidden text ≡ false → has_forbidden (reverse text) ≡ false
clean-reverse [] h = refl
clean-reverse (c ∷ text) h =
    let p = or_parts (is_forbidden c) (has_forbidden text) h in
    ap has_forbidden (reverse-append (c ∷ []) text) ∙ list_any-append is_forbidden (reverse text) (c ∷ []) ∙ rw (clean-reverse text p.1, p.0) refl

pub clean-trimmed : (text : Chars) → has_forbidden text ≡ false → trimmed text ≡ text
clean-trimmed text h =
    ap (λ (x : Chars). reverse (without_leading_space (reverse x))) (clean-front text h) ∙ ap reverse (clean-front (reverse text) (clean-reverse text h)) ∙ reverse-reverse text

-- The parts of a base

pub hier-lacking : (front rest : Chars) → holds 35 front ≡ false → holds 63 front ≡ false → hierarchical_part (front ++ rest) ≡ front ++ hierarchical_part rest
hier-lacking front rest h k = ap (before 63) (before-lacking 35 front rest h) ∙ before-lacking 63 front (before 35 rest) k

pub record IsCutBase (base scheme authority rest : Chars) : Type 0 where
  pub whole : base ≡ (scheme ++ 58 ∷ 47 ∷ 47 ∷ authority) ++ 47 ∷ rest
  pub lacks : holds 58 scheme ≡ false
  pub no_hash : holds 35 authority ≡ false
  pub no_mark : holds 63 authority ≡ false
  pub no_slash : holds 47 authority ≡ false

pub record HasParts (parts : Components) (scheme authority path : Chars) : Type 0 where
  pub is_scheme : parts.scheme ≡ Some scheme
  pub is_authority : parts.authority ≡ Some authority
  pub is_path : parts.path ≡ path

pub base-parts : (base scheme authority rest : Chars) → has_scheme base ≡ true → IsCutBase base scheme authority rest → HasParts (components_of base) scheme authority (47 ∷ hierarchical_part rest)
unfolding components_of
base-parts base scheme authority rest h b =
    let behind_colon : Chars = 47 ∷ 47 ∷ (authority ++ 47 ∷ rest) in
    let whole : base ≡ scheme ++ 58 ∷ behind_colon = b.whole ∙ append_assoc scheme (58 ∷ 47 ∷ 47 ∷ authority) (47 ∷ rest) in
    let form : is_scheme scheme ≡ true = sym (has_scheme-cut scheme behind_colon b.lacks) ∙ ap has_scheme (sym whole) ∙ h in
    let s = scheme-cut scheme behind_colon b.lacks form in
    let part : hierarchical_part (behind_scheme base) ≡ 47 ∷ 47 ∷ (authority ++ 47 ∷ hierarchical_part rest) =
    ap hierarchical_part (ap behind_scheme whole ∙ s.1) ∙ ap (λ (x : Chars). 47 ∷ 47 ∷ x) (hier-lacking authority (47 ∷ rest) b.no_hash b.no_mark) in
    let g = cut-at 47 authority (hierarchical_part rest) b.no_slash in
    record {
      is_scheme = ap scheme_of whole ∙ s.0;
      is_authority = ap authority_of part ∙ ap (λ (x : Chars). Some x) g.0;
      is_path = ap path_of part ∙ g.1;
    }

-- What a plain reference leads to

pub record HasRelative (parts : Components) (path : Chars) : Type 0 where
  pub no_scheme : parts.scheme ≡ None
  pub no_authority : parts.authority ≡ None
  pub is_path : parts.path ≡ path

no-slashes : (text : Chars) → begins_with (codes "//") text ≡ false → begins_with (codes "//") (hierarchical_part text) ≡ false
no-slashes [] h = refl
no-slashes (c ∷ text) h =
    by_test (c == 35) (λ t. rw t refl) (λ a.
    by_test (c == 63) (λ t. rw (a, t) refl) (λ b.
    by_test (47 == c) (λ t. rw (a, b, t) (go text (rw t at h))) (λ t. rw (a, b, t) refl))) where
      go : (text : Chars) → begins_with (codes "/") text ≡ false → begins_with (codes "/") (hierarchical_part text) ≡ false
      go [] h = refl
      go (d ∷ text) h =
          by_test (d == 35) (λ t. rw t refl) (λ a.
          by_test (d == 63) (λ t. rw (a, t) refl) (λ b.
          by_test (47 == d) (λ t. let g : true ≡ false = rw t at h in absurd (cc g)) (λ t. rw (a, b, t) refl)))

plain-parts : (text : Chars) → is_plain_reference text ≡ true → begins_with (codes "//") text ≡ false → HasRelative (components_of text) (hierarchical_part text)
unfolding components_of
plain-parts text h k =
    let s = scheme-none text (plain-scheme true text h) in
    let none = no-slashes text k in
    let part : hierarchical_part (behind_scheme text) ≡ hierarchical_part text = ap hierarchical_part s.1 in
    record {
      no_scheme = s.0;
      no_authority = ap authority_of part ∙ rw none refl;
      is_path = ap path_of part ∙ rw none refl;
    }

regroup : (s c a pre path q f : Chars) → ((((s ++ c) ++ a) ++ (pre ++ path)) ++ q) ++ f ≡ ((s ++ (c ++ a)) ++ pre) ++ ((path ++ q) ++ f)
regroup s c a pre path q f = simp append_assoc

pub assembled : (scheme authority pre path text : Chars) (query fragment : Option Chars) → recomposed (components None None path query fragment) ≡ text
    → recomposed (components (Some scheme) (Some authority) (pre ++ path) query fragment) ≡ ((scheme ++ 58 ∷ 47 ∷ 47 ∷ authority) ++ pre) ++ text
assembled scheme authority pre path text query fragment e =
    let q = delimited (λ (x : Chars). 63 ∷ x) query in
    let f = delimited (λ (x : Chars). 35 ∷ x) fragment in
    regroup scheme (58 ∷ []) (47 ∷ 47 ∷ authority) pre path q f ∙ ap (λ (x : Chars). ((scheme ++ 58 ∷ 47 ∷ 47 ∷ authority) ++ pre) ++ x) e

pub clean-both : (a b : Chars) → has_forbidden a ≡ false → has_forbidden b ≡ false → has_forbidden (a ++ b) ≡ false
clean-both a b h k = list_any-append is_forbidden a b ∙ rw (h, k) refl

-- a text without forbidden characters is taken as it is, and so is what it leads to
pub means : (base text whole : Chars) → has_forbidden text ≡ false → has_forbidden whole ≡ false → recomposed (target (components_of base) (components_of text)) ≡ whole → resolved base text ≡ whole
unfolding resolved
means base text whole clean all is =
    ap (λ (x : Chars). cleaned (recomposed (target (components_of base) (components_of x)))) (clean-trimmed text clean) ∙ ap cleaned is ∙ uncleaned whole all

-- a reference of dot segments and what stands behind them, which leave a front of the base
pub same-target : (base d text scheme authority rest pre path : Chars) → IsIri base → IsCutBase base scheme authority rest → HasRelative (components_of (d ++ text)) (d ++ path)
    → is_empty (d ++ path) ≡ false → relative_path (components_of base) (d ++ path) ≡ pre ++ path → has_forbidden ((scheme ++ 58 ∷ 47 ∷ 47 ∷ authority) ++ pre) ≡ false → has_forbidden (d ++ text) ≡ false
    → resolved base (d ++ text) ≡ ((scheme ++ 58 ∷ 47 ∷ 47 ∷ authority) ++ pre) ++ text
same-target base d text scheme authority rest pre path iri b parts some relative clean whole =
    let front : Chars = (scheme ++ 58 ∷ 47 ∷ 47 ∷ authority) ++ pre in
    let o = components_of base in
    let r = components_of (d ++ text) in
    let base_is = base-parts base scheme authority rest iri.scheme b in
    let aims : target o r ≡ components o.scheme o.authority (relative_path o r.path) r.query r.fragment =
    target-relative o r (ap is_some parts.no_scheme) (ap is_some parts.no_authority) (ap is_empty parts.is_path ∙ some) in
    let now : components o.scheme o.authority (relative_path o r.path) r.query r.fragment ≡ components (Some scheme) (Some authority) (pre ++ path) r.query r.fragment =
    same_five _ _ _ _ _ _ r.query r.fragment base_is.is_scheme base_is.is_authority (ap (relative_path o) parts.is_path ∙ relative) in
    let own : recomposed (components None None (d ++ path) r.query r.fragment) ≡ d ++ text = ap recomposed (sym (same_five _ _ _ _ _ _ r.query r.fragment parts.no_scheme parts.no_authority parts.is_path)) ∙ parts-whole (d ++ text) in
    means base (d ++ text) (front ++ text) whole (clean-both front text clean (clean-of d text whole).1)
    (ap recomposed (aims ∙ now) ∙ assembled scheme authority pre path text r.query r.fragment (behind-dots d path text r.query r.fragment own)) where
      same_five : (s t a d : Option Chars) (p q : Chars) (query fragment : Option Chars) → s ≡ t → a ≡ d → p ≡ q → components s a p query fragment ≡ components t d q query fragment
      same_five s t a d p q query fragment e f g = rw (e, f, g) refl

      behind-dots : (d path rest : Chars) (query fragment : Option Chars) → recomposed (components None None (d ++ path) query fragment) ≡ d ++ rest → recomposed (components None None path query fragment) ≡ rest
      behind-dots d path rest query fragment e =
          let q = delimited (λ (x : Chars). 63 ∷ x) query in
          let f = delimited (λ (x : Chars). 35 ∷ x) fragment in
          let regrouped : ((d ++ path) ++ q) ++ f ≡ d ++ ((path ++ q) ++ f) = simp append_assoc in
          append_cancel_left d ((path ++ q) ++ f) rest (sym regrouped ∙ e)

-- a reference that begins with one `/`
pub plain-rooted : (base text scheme authority rest : Chars) → IsIri base → IsCutBase base scheme authority rest → is_plain_reference text ≡ true → begins_with (codes "//") text ≡ false
    → begins_with (codes "/") text ≡ true → resolved base text ≡ (scheme ++ 58 ∷ 47 ∷ 47 ∷ authority) ++ text
plain-rooted base text scheme authority rest iri b plain slashes rooted =
    let front : Chars = scheme ++ 58 ∷ 47 ∷ 47 ∷ authority in
    let r = begins-front (codes "/") text rooted in
    let path : hierarchical_part text ≡ 47 ∷ hierarchical_part r.0 = ap hierarchical_part r.1 in
    let is = plain-is true true text plain in
    let dots = without-dots (hierarchical_part text) is.1 in
    let begins : begins_with (codes "/") (hierarchical_part text) ≡ true = ap (begins_with (codes "/")) path in
    let clean = (clean-of front (47 ∷ rest) (ap has_forbidden (sym b.whole) ∙ iri.clean)).0 in
    same-target base [] text scheme authority rest [] (hierarchical_part text) iri b (plain-parts text plain slashes) (ap is_empty path) (rw begins dots) (ap has_forbidden (append-nil front) ∙ clean) is.0
    ∙ ap (λ (x : Chars). x ++ text) (append-nil front)

path-begins : (text : Chars) → begins_path text ≡ true → (is_empty (hierarchical_part text) ≡ false) × (begins_with (codes "/") (hierarchical_part text) ≡ false) × (begins_with (codes "//") text ≡ false)
path-begins [] h = absurd (cc h)
path-begins (c ∷ text) h =
    let p = or_parts (ends_path c) (c == 47) (untrue (ends_path c || c == 47) h) in
    let q = or_parts (c == 35) (c == 63) p.0 in
    let other = flipped c 47 p.1 in
    (rw (q.0, q.1) refl, rw (q.0, q.1, other) refl, rw other refl)

-- a reference that begins with a segment
pub plain-relative : (base text scheme authority rest : Chars) → IsIri base → IsCutBase base scheme authority rest → is_plain_reference text ≡ true → begins_path text ≡ true
    → no_dots true (47 ∷ hierarchical_part rest) ≡ true → resolved base text ≡ ((scheme ++ 58 ∷ 47 ∷ 47 ∷ authority) ++ through_last_slash (47 ∷ hierarchical_part rest)) ++ text
plain-relative base text scheme authority rest iri b plain begins flat =
    let front : Chars = scheme ++ 58 ∷ 47 ∷ 47 ∷ authority in
    let path : Chars = 47 ∷ hierarchical_part rest in
    let t = path-begins text begins in
    let is = plain-is true true text plain in
    let base_is = base-parts base scheme authority rest iri.scheme b in
    let covered : (is_some (components_of base).authority && is_empty (components_of base).path) ≡ false = rw (base_is.is_authority, base_is.is_path) refl in
    let relative : relative_path (components_of base) (hierarchical_part text) ≡ through_last_slash path ++ hierarchical_part text =
    relative-merged (components_of base) (hierarchical_part text) t.1 covered
    ∙ ap (λ (x : Chars). without_dots (through_last_slash x ++ hierarchical_part text)) base_is.is_path
    ∙ without-dots (through_last_slash path ++ hierarchical_part text) (dots-join true path (hierarchical_part text) flat refl is.1) in
    let both = clean-of front (47 ∷ rest) (ap has_forbidden (sym b.whole) ∙ iri.clean) in
    let part_clean : has_forbidden path ≡ false = before-clean 63 (before 35 (47 ∷ rest)) (before-clean 35 (47 ∷ rest) both.1) in
    let through = through-rest path in
    let through_clean = (clean-of (through_last_slash path) through.0 (ap has_forbidden (sym through.1) ∙ part_clean)).0 in
    same-target base [] text scheme authority rest (through_last_slash path) (hierarchical_part text) iri b (plain-parts text plain t.2) t.0 relative (clean-both front (through_last_slash path) both.0 through_clean) is.0

-- a reference that is empty or a fragment

-- the scheme of a base, and a front of what stands behind that
scheme-front : (base : Chars) (f : Chars → Chars) → has_scheme base ≡ true → ((front rest : Chars) → list_all is_scheme_char front ≡ true → f (front ++ 58 ∷ rest) ≡ front ++ 58 ∷ f rest)
    → delimited (λ (x : Chars). x ++ codes ":") (scheme_of base) ++ f (behind_scheme base) ≡ f base
scheme-front base f h stays =
    let c = cut-scheme base h in
    let s = scheme-cut c.front c.rest c.lacks c.scheme in
    let scheme : Chars = delimited (λ (x : Chars). x ++ codes ":") (scheme_of base) in
    let is_scheme : scheme ≡ c.front ++ 58 ∷ [] = ap (λ (x : Option Chars). delimited (λ (y : Chars). y ++ codes ":") x) (ap scheme_of c.whole ∙ s.0) in
    ap (λ (x : Chars). scheme ++ f x) (ap behind_scheme c.whole ∙ s.1)
    ∙ ap (λ (x : Chars). x ++ f c.rest) is_scheme
    ∙ append_assoc c.front (58 ∷ []) (f c.rest)
    ∙ sym (ap f c.whole ∙ stays c.front c.rest (scheme_chars c.front c.scheme))

path-front : (base : Chars) → has_scheme base ≡ true
    → (delimited (λ (x : Chars). x ++ codes ":") (components_of base).scheme ++ delimited (λ (x : Chars). codes "//" ++ x) (components_of base).authority) ++ (components_of base).path ≡ hierarchical_part base
unfolding components_of
path-front base h =
    let part : Chars = hierarchical_part (behind_scheme base) in
    let scheme : Chars = delimited (λ (x : Chars). x ++ codes ":") (scheme_of base) in
    append_assoc scheme (delimited (λ (x : Chars). codes "//" ++ x) (authority_of part)) (path_of part)
    ∙ ap (λ (x : Chars). scheme ++ x) (authority-path part)
    ∙ scheme-front base hierarchical_part h (λ front rest all. hier-lacking front (58 ∷ rest) (no_hash front all) (none-of is_scheme_char (λ c. c == 63) (λ c k. grind (arith, nat_tests)) front all))

base-front : (base : Chars) → has_scheme base ≡ true
    → ((delimited (λ (x : Chars). x ++ codes ":") (components_of base).scheme ++ delimited (λ (x : Chars). codes "//" ++ x) (components_of base).authority) ++ (components_of base).path)
    ++ delimited (λ (x : Chars). codes "?" ++ x) (components_of base).query ≡ before 35 base
unfolding components_of
base-front base h =
    let front : Chars = before 35 (behind_scheme base) in
    let scheme : Chars = delimited (λ (x : Chars). x ++ codes ":") (scheme_of base) in
    let a : Chars = delimited (λ (x : Chars). codes "//" ++ x) (authority_of (before 63 front)) in
    let q : Chars = delimited (λ (x : Chars). 63 ∷ x) (behind 63 front) in
    grouped scheme a (path_of (before 63 front)) q
    ∙ ap (λ (x : Chars). scheme ++ (x ++ q)) (authority-path (before 63 front))
    ∙ ap (λ (x : Chars). scheme ++ x) (behind-mark 63 front)
    ∙ scheme-front base (before 35) h (λ front rest all. before-lacking 35 front (58 ∷ rest) (no_hash front all)) where
      grouped : (s a p q : Chars) → ((s ++ a) ++ p) ++ q ≡ s ++ ((a ++ p) ++ q)
      grouped s a p q = simp append_assoc

-- what a reference without a path leads to, and what is left of it
record Same (base text : Chars) : Type 0 where
  leads : target (components_of base) (components_of text)
      ≡ components (components_of base).scheme (components_of base).authority (components_of base).path (option_or (components_of text).query (components_of base).query) (components_of text).fragment
  own : delimited (λ (x : Chars). codes "?" ++ x) (components_of text).query ++ delimited (λ (x : Chars). codes "#" ++ x) (components_of text).fragment ≡ text
  query : (components_of text).query ≡ query_of text

same-path : (base text : Chars) → is_plain_reference text ≡ true → hierarchical_part text ≡ [] → begins_with (codes "//") text ≡ false → Same base text
unfolding components_of
same-path base text plain empty slashes =
    let r = components_of text in
    let parts = plain-parts text plain slashes in
    let path : r.path ≡ [] = parts.is_path ∙ empty in
    record {
      leads = target-same (components_of base) r (ap is_some parts.no_scheme) (ap is_some parts.no_authority) (ap is_empty path);
      own = alone r.scheme r.authority r.query r.fragment r.path parts.no_scheme parts.no_authority path ∙ parts-whole text;
      query = ap query_of (scheme-none text (plain-scheme true text plain)).1;
    } where
      alone : (s a q fragment : Option Chars) (p : Chars) → s ≡ None → a ≡ None → p ≡ []
          → delimited (λ (x : Chars). codes "?" ++ x) q ++ delimited (λ (x : Chars). codes "#" ++ x) fragment ≡ recomposed (components s a p q fragment)
      alone s a q fragment p es ea ep = rw (es, ea, ep) refl

keeps : (text : Chars) → keeps_all text ≡ true → (hierarchical_part text ≡ []) × (begins_with (codes "//") text ≡ false) × (query_of text ≡ None)
keeps [] k = (refl, refl, refl)
keeps (c ∷ text) k = let s = same_char c 35 k in rw s (refl, refl, refl)

pub plain-same : (base text : Chars) → IsIri base → is_plain_reference text ≡ true → keeps_all text ≡ true → resolved base text ≡ before 35 base ++ text
plain-same base text iri plain k =
    let b = components_of base in
    let r = components_of text in
    let clean = (plain-is true true text plain).0 in
    let e = keeps text k in
    let same = same-path base text plain e.0 e.1 in
    let query = same.query ∙ e.2 in
    let f : Chars = delimited (λ (x : Chars). codes "#" ++ x) r.fragment in
    let own : f ≡ text = ap (λ (o : Option Chars). delimited (λ (x : Chars). codes "?" ++ x) o ++ f) (sym query) ∙ same.own in
    means base text (before 35 base ++ text) clean (clean-both (before 35 base) text (before-clean 35 base iri.clean) clean)
    (ap recomposed (same.leads ∙ ap (λ (q : Option Chars). components b.scheme b.authority b.path (option_or q b.query) r.fragment) query)
    ∙ ap (λ (x : Chars). x ++ f) (base-front base iri.scheme) ∙ ap (λ (x : Chars). before 35 base ++ x) own)

-- a reference that is a query

queries : (text : Chars) → begins_query text ≡ true → (hierarchical_part text ≡ []) × (begins_with (codes "//") text ≡ false) × (is_some (query_of text) ≡ true)
queries [] k = absurd (cc k)
queries (c ∷ text) k = let s = same_char c 63 k in rw s (refl, refl, refl)

or-some : (a b : Option Chars) → is_some a ≡ true → option_or a b ≡ a
or-some None b h = absurd (cc h)
or-some (Some a) b h = refl

pub plain-query : (base text : Chars) → IsIri base → is_plain_reference text ≡ true → begins_query text ≡ true → resolved base text ≡ hierarchical_part base ++ text
plain-query base text iri plain k =
    let b = components_of base in
    let r = components_of text in
    let clean = (plain-is true true text plain).0 in
    let e = queries text k in
    let same = same-path base text plain e.0 e.1 in
    let q : Chars = delimited (λ (x : Chars). codes "?" ++ x) r.query in
    let f : Chars = delimited (λ (x : Chars). codes "#" ++ x) r.fragment in
    means base text (hierarchical_part base ++ text) clean (clean-both (hierarchical_part base) text (before-clean 63 (before 35 base) (before-clean 35 base iri.clean)) clean)
    (ap recomposed (same.leads ∙ ap (λ (x : Option Chars). components b.scheme b.authority b.path x r.fragment) (or-some r.query b.query (ap is_some same.query ∙ e.2)))
    ∙ ap (λ (x : Chars). (x ++ q) ++ f) (path-front base iri.scheme) ∙ append_assoc (hierarchical_part base) q f ∙ ap (λ (x : Chars). hierarchical_part base ++ x) same.own)

-- a reference that stands alone

no-dots-path : (part : Chars) → no_dots true part ≡ true → no_dots true (path_of part) ≡ true
no-dots-path part h =
    by_test (begins_with (codes "//") part) (λ t.
    let r = begins-front (codes "//") part t in
    let flat : no_dots true (47 ∷ 47 ∷ r.0) ≡ true = ap (no_dots true) (sym r.1) ∙ h in
    let rest : no_dots true (from_first 47 (drop 2 part)) ≡ true = ap (λ (x : Chars). no_dots true (from_first 47 (drop 2 x))) r.1 ∙ dots-rest true r.0 flat in
    rw t rest) (λ t. rw t h)

pub plain-whole : (base text front rest : Chars) → text ≡ front ++ 58 ∷ rest → holds 58 front ≡ false → is_scheme front ≡ true → is_plain_from false true rest ≡ true → resolved base text ≡ text
unfolding components_of
plain-whole base text front rest whole lacks scheme plain =
    let s = scheme-cut front rest lacks scheme in
    let is : scheme_of text ≡ Some front = ap scheme_of whole ∙ s.0 in
    let behind_is : behind_scheme text ≡ rest = ap behind_scheme whole ∙ s.1 in
    let r = components_of text in
    let p = plain-is false true rest plain in
    let flat = without-dots (path_of (hierarchical_part rest)) (no-dots-path (hierarchical_part rest) p.1) in
    let path_flat : without_dots r.path ≡ r.path =
    ap (λ (x : Chars). without_dots (path_of (hierarchical_part x))) behind_is ∙ flat ∙ sym (ap (λ (x : Chars). path_of (hierarchical_part x)) behind_is) in
    let clean : has_forbidden text ≡ false = ap has_forbidden whole ∙ clean-both front (58 ∷ rest) (scheme-clean front (scheme_chars front scheme)) p.0 in
    means base text text clean clean (ap recomposed (target-absolute (components_of base) r (ap is_some is) ∙ ap (λ (p : Chars). components r.scheme r.authority p r.query r.fragment) path_flat) ∙ parts-whole text)

-- a reference that begins with an authority

has-authority : (text : Chars) → is_plain_reference text ≡ true → begins_with (codes "//") text ≡ true → is_some (components_of text).authority ≡ true
unfolding components_of
has-authority text h k = ap (λ (x : Chars). is_some (authority_of (hierarchical_part x))) (scheme-none text (plain-scheme true text h)).1 ∙ go text k where
  go : (text : Chars) → begins_with (codes "//") text ≡ true → is_some (authority_of (hierarchical_part text)) ≡ true
  go text k = let r = begins-front (codes "//") text k in ap (λ (x : Chars). is_some (authority_of (hierarchical_part x))) r.1

pub plain-network : (base text front rest : Chars) → IsIri base → base ≡ front ++ 58 ∷ rest → holds 58 front ≡ false → is_plain_reference text ≡ true → begins_with (codes "//") text ≡ true
    → resolved base text ≡ (front ++ 58 ∷ []) ++ text
unfolding components_of
plain-network base text front rest iri whole lacks plain slashes =
    let b = components_of base in
    let r = components_of text in
    let p = plain-is true true text plain in
    let form : is_scheme front ≡ true = sym (has_scheme-cut front rest lacks) ∙ ap has_scheme (sym whole) ∙ iri.scheme in
    let is : scheme_of base ≡ Some front = ap scheme_of whole ∙ (scheme-cut front rest lacks form).0 in
    let none = scheme-none text (plain-scheme true text plain) in
    let flat = without-dots (path_of (hierarchical_part text)) (no-dots-path (hierarchical_part text) p.1) in
    let path_flat : without_dots r.path ≡ r.path =
    ap (λ (x : Chars). without_dots (path_of (hierarchical_part x))) none.1 ∙ flat ∙ sym (ap (λ (x : Chars). path_of (hierarchical_part x)) none.1) in
    let aims : target b r ≡ components b.scheme r.authority r.path r.query r.fragment =
    target-network b r (ap is_some none.0) (has-authority text plain slashes) ∙ ap (λ (p : Chars). components b.scheme r.authority p r.query r.fragment) path_flat in
    let base_clean = ap has_forbidden (sym whole) ∙ iri.clean in
    let both = clean-of (front ++ 58 ∷ []) rest (ap has_forbidden (append_assoc front (58 ∷ []) rest) ∙ base_clean) in
    means base text ((front ++ 58 ∷ []) ++ text) p.0 (clean-both (front ++ 58 ∷ []) text both.0 p.0)
    (ap recomposed (aims ∙ ap (λ (x : Option Chars). components x r.authority r.path r.query r.fragment) is)
    ∙ grouped (front ++ 58 ∷ []) (delimited (λ (x : Chars). codes "//" ++ x) r.authority) r.path (delimited (λ (x : Chars). codes "?" ++ x) r.query) (delimited (λ (x : Chars). codes "#" ++ x) r.fragment)
    ∙ ap (λ (x : Chars). (front ++ 58 ∷ []) ++ x) (bare r.scheme r.authority r.query r.fragment r.path none.0 ∙ parts-whole text)) where
      grouped : (s a p q f : Chars) → (((s ++ a) ++ p) ++ q) ++ f ≡ s ++ (((a ++ p) ++ q) ++ f)
      grouped s a p q f = simp append_assoc

      bare : (s a q fragment : Option Chars) (p : Chars) → s ≡ None
          → ((delimited (λ (x : Chars). codes "//" ++ x) a ++ p) ++ delimited (λ (x : Chars). codes "?" ++ x) q) ++ delimited (λ (x : Chars). codes "#" ++ x) fragment ≡ recomposed (components s a p q fragment)
      bare s a q fragment p es = rw es refl
