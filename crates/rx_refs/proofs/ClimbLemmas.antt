-- References that begin with `../`: they take segments off the base's path, and nothing else is worked out.
use Rattle.rx_refs.proofs.Common.{◌≡◌, ◌∙◌, ℕ, zero, suc, Bool, true, false, [], ◌∷◌, ◌++◌, length, sym, ap, refl, arith, not, ◌==◌, ◌||◌, ◌&&◌, is_some, and_parts, and_from, or_parts, Chars, is_empty, is_scheme, has_scheme, is_forbidden, has_forbidden, IsIri, by_test, append_assoc, before, behind_scheme, hierarchical_part, authority_of, path_of, holds, without_last_segment, through_last_slash, relative_path, no_dots, is_plain_from, climbs, ups, same_char}
use Rattle.rx_refs.specs.Parts.{components_of}
use Rattle.rx_refs.specs.Dots.{step, without_dots}
use Rattle.rx_refs.specs.Segments.{reduced}
use Rattle.rx_refs.specs.Resolve.{resolved}
use Rattle.rx_refs.proofs.DotLemmas.{at, reduced-step}
use Rattle.rx_refs.proofs.SchemeLemmas.{cut-scheme, scheme-none, before-clean, clean-of}
use Rattle.rx_refs.proofs.TargetLemmas.{relative-merged}
use Rattle.rx_refs.proofs.PlainLemmas.{IsCutBase, HasRelative, base-parts, same-target, clean-both, plain-is, pass, dots-kept, hier-lacking}

-- Each `../` takes a segment

climb : (k : ℕ) (rest path : Chars) → no_dots true rest ≡ true → reduced (at (47 ∷ (climbs k ++ rest)) path) ≡ ups k path ++ 47 ∷ rest
unfolding step
climb zero rest path h = dots-kept (47 ∷ rest) path h
climb (suc k) rest path h = reduced-step (47 ∷ 46 ∷ 46 ∷ 47 ∷ (climbs k ++ rest)) path ∙ climb k rest (without_last_segment path) h

pub without-climbs : (k : ℕ) (path rest : Chars) → no_dots true path ≡ true → no_dots true rest ≡ true → without_dots (path ++ 47 ∷ (climbs k ++ rest)) ≡ ups k path ++ 47 ∷ rest
unfolding reduced without_dots
without-climbs k path rest h e = pass (length path) path (47 ∷ (climbs k ++ rest)) [] (omega arith) h refl ∙ climb k rest path e

-- The base's path up to its last `/`

pub through-without : (path : Chars) → holds 47 path ≡ true → through_last_slash path ≡ without_last_segment path ++ 47 ∷ []
through-without [] h = absurd (cc h)
through-without (c ∷ path) h =
    by_test (holds 47 path) (λ t. rw (h, t) (ap (λ x. c ∷ x) (through-without path t))) (λ t.
    let slash : (c == 47) ≡ true = or_left (c == 47) (holds 47 path) h t in
    rw (h, t) (last c path (same_char c 47 slash) t)) where
      or_left : (a b : Bool) → (a || b) ≡ true → b ≡ false → a ≡ true
      or_left true b h k = refl
      or_left false b h k = sym (sym h ∙ k)

      last : (c : ℕ) (path : Chars) → c ≡ 47 → holds 47 path ≡ false → c ∷ through_last_slash path ≡ 47 ∷ []
      last c [] e k = ap (λ x. x ∷ []) e
      last c (d ∷ path) e k = rw (e, k) refl

without-flat : (start : Bool) (path : Chars) → no_dots start path ≡ true → no_dots start (without_last_segment path) ≡ true
without-flat start [] h = refl
without-flat start (c ∷ path) h =
    let p = and_parts (not (start && c == 46)) (no_dots (c == 47) path) h in
    by_test (holds 47 path) (λ t. rw t (and_from (not (start && c == 46)) (no_dots (c == 47) (without_last_segment path)) p.0 (without-flat (c == 47) path p.1))) (λ t. rw t refl)

without-clean : (path : Chars) → has_forbidden path ≡ false → has_forbidden (without_last_segment path) ≡ false
without-clean [] h = refl
without-clean (c ∷ path) h =
    let p = or_parts (is_forbidden c) (has_forbidden path) h in
    by_test (holds 47 path) (λ t. rw (t, p.0) (without-clean path p.1)) (λ t. rw t refl)

ups-clean : (k : ℕ) (path : Chars) → has_forbidden path ≡ false → has_forbidden (ups k path) ≡ false
ups-clean zero path h = h
ups-clean (suc k) path h = ups-clean k (without_last_segment path) (without-clean path h)

-- The reference

climbs-lack : (k : ℕ) → (holds 35 (climbs k) ≡ false) × (holds 63 (climbs k) ≡ false) × (has_forbidden (climbs k) ≡ false)
climbs-lack zero = (refl, refl, refl)
climbs-lack (suc k) = let r = climbs-lack k in (r.0, r.1, r.2)

no-scheme : (text : Chars) → has_scheme (46 ∷ text) ≡ false
no-scheme text =
    by_test (has_scheme (46 ∷ text)) (λ t.
    let c = cut-scheme (46 ∷ text) t in
    absurd (go c.front c.rest c.whole c.scheme)) (λ t. t) where
      go : (front rest : Chars) → 46 ∷ text ≡ front ++ 58 ∷ rest → is_scheme front ≡ true → ⊥
      go [] rest w s = cc s
      go (d ∷ front) rest w s =
          let e : 46 ≡ d = cc w in
          let g : is_scheme (46 ∷ front) ≡ true = ap (λ (y : ℕ). is_scheme (y ∷ front)) e ∙ s in
          cc g

climb-parts : (k : ℕ) (rest : Chars) → HasRelative (components_of (climbs (suc k) ++ rest)) (climbs (suc k) ++ hierarchical_part rest)
unfolding components_of
climb-parts k rest =
    let text : Chars = climbs (suc k) ++ rest in
    let s = scheme-none text (no-scheme (46 ∷ 47 ∷ (climbs k ++ rest))) in
    let l = climbs-lack (suc k) in
    let part : hierarchical_part (behind_scheme text) ≡ climbs (suc k) ++ hierarchical_part rest = ap hierarchical_part s.1 ∙ hier-lacking (climbs (suc k)) rest l.0 l.1 in
    record { no_scheme = s.0; no_authority = ap authority_of part; is_path = ap path_of part }

-- So a reference of so many `../` and a rest in which nothing is worked out means the base up to the `/` behind what is
-- left of its path, and that rest. That holds also above the root.
pub plain-climbs : (base scheme authority path rest : Chars) (k : ℕ) → IsIri base → IsCutBase base scheme authority path → is_plain_from false true rest ≡ true
    → no_dots true (47 ∷ hierarchical_part path) ≡ true
    → resolved base (climbs (suc k) ++ rest) ≡ ((scheme ++ 58 ∷ 47 ∷ 47 ∷ authority) ++ (ups (suc k) (without_last_segment (47 ∷ hierarchical_part path)) ++ 47 ∷ [])) ++ rest
plain-climbs base scheme authority path rest k iri b plain flat =
    let front : Chars = scheme ++ 58 ∷ 47 ∷ 47 ∷ authority in
    let p : Chars = 47 ∷ hierarchical_part path in
    let x : Chars = without_last_segment p in
    let left : Chars = ups (suc k) x in
    let pre : Chars = left ++ 47 ∷ [] in
    let h : Chars = hierarchical_part rest in
    let is = plain-is false true rest plain in
    let base_is = base-parts base scheme authority path iri.scheme b in
    let covered : (is_some (components_of base).authority && is_empty (components_of base).path) ≡ false = rw (base_is.is_authority, base_is.is_path) refl in
    let relative : relative_path (components_of base) (climbs (suc k) ++ h) ≡ pre ++ h =
    relative-merged (components_of base) (climbs (suc k) ++ h) refl covered
    ∙ ap (λ (y : Chars). without_dots (through_last_slash y ++ (climbs (suc k) ++ h))) base_is.is_path
    ∙ ap (λ (y : Chars). without_dots (y ++ (climbs (suc k) ++ h))) (through-without p refl)
    ∙ ap without_dots (append_assoc x (47 ∷ []) (climbs (suc k) ++ h))
    ∙ without-climbs (suc k) x h (without-flat true p flat) is.1
    ∙ sym (append_assoc left (47 ∷ []) h) in
    let both = clean-of front (47 ∷ path) (ap has_forbidden (sym b.whole) ∙ iri.clean) in
    let part_clean : has_forbidden p ≡ false = before-clean 63 (before 35 (47 ∷ path)) (before-clean 35 (47 ∷ path) both.1) in
    let left_clean : has_forbidden left ≡ false = ups-clean (suc k) x (without-clean p part_clean) in
    same-target base (climbs (suc k)) rest scheme authority path pre h iri b (climb-parts k rest) refl relative
    (clean-both front pre both.0 (clean-both left (47 ∷ []) left_clean refl)) (clean-both (climbs (suc k)) rest (climbs-lack (suc k)).2 is.0)
