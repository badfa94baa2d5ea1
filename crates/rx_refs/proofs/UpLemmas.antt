-- `../` at the front, from the bytes that the code looks at.
use Rattle.rx_refs.proofs.Common.{◌≡◌, ◌∙◌, ℕ, zero, suc, ◌+◌, ◌-◌, ◌*◌, ◌<◌, ◌≤◌, true, false, List, [], ◌∷◌, ◌++◌, length, take, drop, Option, Some, sym, ap, subst, refl, arith, length-append, ◌==◌, ◌&&◌, if◌then◌else◌, IfSome, list_all, and_parts, chars, IsUtf8, IsCharBoundary, is_ascii, Chars, IsIri, by_test, take-append_seam, drop-append_seam, length-take, length-drop, append_assoc, take-take, drop-drop, hierarchical_part, holds, without_last_segment, climbs, ups, parent_steps, last_solidus, begins_climb, is_plain_from, IsSplit, folder_from, same_char}
use Rattle.rx_refs.specs.Resolve.{resolved}
use Rattle.rx_refs.specs.declared.plain.Split.{Split}
use Rattle.rx_refs.proofs.CutLemmas.{through-rest, without-none}
use Rattle.rx_refs.proofs.ByteLemmas.{ascii-front, told-plain, cut-of, site, site-cut, site-flat, site-further}
use Rattle.rx_refs.proofs.ClimbLemmas.{through-without, plain-climbs}

pub count-rest : (text : List ℕ) → (rest : List ℕ) × (text ≡ climbs (parent_steps text) ++ rest)
count-rest (a ∷ b ∷ c ∷ text) =
    by_test (a == 46 && (b == 46 && c == 47)) (λ t.
    let p = and_parts (a == 46) (b == 46 && c == 47) t in
    let q = and_parts (b == 46) (c == 47) p.1 in
    let r = count-rest text in
    (r.0, rw t (same a b c text (climbs (parent_steps text) ++ r.0) (same_char a 46 p.0) (same_char b 46 q.0) (same_char c 47 q.1) r.1))) (λ t. (a ∷ b ∷ c ∷ text, rw t refl)) where
      same : (a b c : ℕ) (xs ys : List ℕ) → a ≡ 46 → b ≡ 46 → c ≡ 47 → xs ≡ ys → a ∷ b ∷ c ∷ xs ≡ 46 ∷ 46 ∷ 47 ∷ ys
      same a b c xs ys e f g h = rw (e, f, g, h) refl
count-rest text = (text, refl)

pub climbs-length : (k : ℕ) → length (climbs k) ≡ k * 3
climbs-length zero = refl
climbs-length (suc k) = let r = climbs-length k in omega (arith, r)

pub climbs-cut : (text : List ℕ) → text ≡ climbs (parent_steps text) ++ drop (parent_steps text * 3) text
climbs-cut text =
    let r = count-rest text in
    let size = climbs-length (parent_steps text) in
    let rest : drop (parent_steps text * 3) text ≡ r.0 = ap (λ (n : ℕ). drop n text) (sym size) ∙ ap (drop (length (climbs (parent_steps text)))) r.1 ∙ drop-append_seam (climbs (parent_steps text)) r.0 in
    r.1 ∙ ap (λ (x : List ℕ). climbs (parent_steps text) ++ x) (sym rest)

last-place : (here last : ℕ) (bs : List ℕ) → last_solidus here last bs ≡ (if holds 47 bs then here + length (without_last_segment bs) else last)
last-place here last [] = refl
last-place here last (c ∷ bs) =
    let r = last-place (suc here) (if c == 47 then here else last) bs in
    by_test (holds 47 bs) (λ u.
    let g : last_solidus (suc here) (if c == 47 then here else last) bs ≡ suc here + length (without_last_segment bs) = rw u at r in
    by_test (c == 47) (λ t. rw (t, u) (rw t at g ∙ omega arith)) (λ t. rw (t, u) (rw t at g ∙ omega arith))) (λ u.
    let g : last_solidus (suc here) (if c == 47 then here else last) bs ≡ (if c == 47 then here else last) = rw u at r in
    by_test (c == 47) (λ t. rw (t, u) (rw t at g ∙ omega arith)) (λ t. rw (t, u) (rw t at g)))

-- a path with a `/` is cut at its last one
slash-cut : (path : Chars) → holds 47 path ≡ true → (rest : Chars) × (path ≡ without_last_segment path ++ 47 ∷ rest)
slash-cut path h =
    let r = through-rest path in (r.0, r.1 ∙ ap (λ (x : Chars). x ++ r.0) (through-without path h) ∙ append_assoc (without_last_segment path) (47 ∷ []) r.0)

pub last-is : (bs : List ℕ) → take (last_solidus 0 0 bs) bs ≡ without_last_segment bs
last-is bs =
    by_test (holds 47 bs) (λ t.
    let p : last_solidus 0 0 bs ≡ 0 + length (without_last_segment bs) = last-place 0 0 bs ∙ rw t refl in
    let n : last_solidus 0 0 bs ≡ length (without_last_segment bs) = omega (arith, p) in
    let r = slash-cut bs t in
    ap (λ (k : ℕ). take k bs) n ∙ ap (take (length (without_last_segment bs))) r.1 ∙ take-append_seam (without_last_segment bs) (47 ∷ r.0)) (λ t.
    let p : last_solidus 0 0 bs ≡ 0 = last-place 0 0 bs ∙ rw t refl in
    ap (λ (k : ℕ). take k bs) p ∙ sym (without-none bs t))

ups-step : (n : ℕ) (path : Chars) → 0 < n → ups n path ≡ ups (n - 1) (without_last_segment path)
ups-step zero path l = absurd (omega arith)
ups-step (suc n) path l = let e : suc n - 1 ≡ n = omega arith in ap (λ (k : ℕ). ups k (without_last_segment path)) (sym e)

pub up-next : (path front : List ℕ) (here next more count : ℕ) (whole : Chars) → 0 < more → here ≤ length path → front ≡ take here path → next ≡ last_solidus 0 0 front → next ≤ length front
    → ups more (take here path) ≡ whole → ups (more - 1) (take next path) ≡ whole
up-next path front here next more count whole some fits f n l e =
    let short : next ≤ here = omega (arith, l, ap length f, length-take here path) in
    let up : take next path ≡ without_last_segment (take here path) =
    sym (take-take next here path short) ∙ ap (take next) (sym f) ∙ ap (λ (k : ℕ). take k front) n ∙ last-is front ∙ ap without_last_segment f in
    ap (ups (more - 1)) up ∙ sym (ups-step more (take here path) some) ∙ e

pub climb-is : (xs : List ℕ) → true ≡ begins_climb xs → (parent_steps xs ≡ suc (parent_steps (drop 3 xs))) × (3 ≤ length xs)
climb-is (a ∷ b ∷ c ∷ xs) h = (rw (sym h) refl, omega arith)
climb-is xs h = absurd (cc h)

pub climb-not : (xs : List ℕ) → false ≡ begins_climb xs → parent_steps xs ≡ 0
climb-not (a ∷ b ∷ c ∷ xs) h = rw (sym h) refl
climb-not xs h = refl

pub count-next : (text behind : List ℕ) (count at total : ℕ) → behind ≡ drop at text → true ≡ begins_climb behind → at ≤ length text → count + parent_steps (drop at text) ≡ total
    → (at + 3 ≤ length text) × (count + 1 + parent_steps (drop (at + 3) text) ≡ total)
count-next text behind count at total e h l s =
    let c = climb-is (drop at text) (h ∙ ap begins_climb e) in
    let next : drop 3 (drop at text) ≡ drop (at + 3) text = drop-drop 3 at text ∙ ap (λ (k : ℕ). drop k text) (omega arith) in
    (omega (arith, c.1, length-drop at text), omega (arith, s, c.0, ap parent_steps next))

pub count-end : (text behind : List ℕ) (count at total : ℕ) → behind ≡ drop at text → false ≡ begins_climb behind → count + parent_steps (drop at text) ≡ total → count ≡ total
count-end text behind count at total e h s = let c = climb-not (drop at text) (h ∙ ap begins_climb e) in omega (arith, s, c)

-- What is left of a path

-- a `/` stands behind it
ups-behind : (k : ℕ) (path more rest : List ℕ) → path ++ 47 ∷ more ≡ 47 ∷ rest → (left : List ℕ) × (47 ∷ rest ≡ ups k path ++ 47 ∷ left)
ups-behind zero path more rest e = (more, sym e)
ups-behind (suc k) [] more rest e = ups-behind k [] more rest e
ups-behind (suc k) (c ∷ path) more rest e =
    let slash : c ≡ 47 = cc e in
    let r = slash-cut (c ∷ path) (ap (λ (x : ℕ). holds 47 (x ∷ path)) slash) in
    let left = without_last_segment (c ∷ path) in
    ups-behind k left (r.0 ++ 47 ∷ more) rest (sym (append_assoc left (47 ∷ r.0) (47 ∷ more)) ∙ ap (λ (x : Chars). x ++ 47 ∷ more) (sym r.1) ∙ e)

climbs-ascii : (k : ℕ) → list_all is_ascii (climbs k) ≡ true
climbs-ascii zero = refl
climbs-ascii (suc k) = climbs-ascii k

abbrev KeptBoth : List ℕ → List ℕ → ℕ → ℕ → Type 0
KeptBoth bs ref n m = IsCharBoundary bs n × IsCharBoundary ref m × (resolved (chars bs) (chars ref) ≡ chars (take n bs) ++ chars (drop m ref))

pub cut-climbs : (bs ref r path rest : List ℕ) (o : Option Split) (s : Split) (f place count : ℕ) → o ≡ Some s → s.folder ≡ Some f → IfSome o (IsSplit bs) → r ≡ ref → IsUtf8 bs → IsUtf8 ref → IsIri (chars bs)
    → count ≡ parent_steps r → 0 < count → rest ≡ drop (count * 3) r → true ≡ is_plain_from false true rest → path ≡ drop s.site bs → place < length path → take place path ≡ ups count (take (f - 1) path)
    → KeptBoth bs ref (s.site + place + 1) (count * 3)
cut-climbs bs ref r path rest o s f place zero is folder held g u v iri counted some rest_is plain path_is within left = absurd (omega arith)
cut-climbs bs ref r path rest o s f place (suc k) is folder held g u v iri counted some rest_is plain path_is within left =
    let cut = cut-of bs o s is held in
    let at = cut.site in
    let flat = site-flat bs s.site at u path f path_is (sym folder ∙ cut.folder ∙ ap (folder_from 0 0 false) (sym path_is)) in
    let p = flat.1 in
    let q = p.parts in
    let x : List ℕ = without_last_segment q.path in
    let t = slash-cut q.path p.slashed in
    let whole : path ≡ x ++ 47 ∷ (t.0 ++ q.tail) = flat.0 ∙ q.whole ∙ ap (λ (z : List ℕ). z ++ q.tail) t.1 ∙ append_assoc x (47 ∷ t.0) q.tail in
    let long : f - 1 ≡ length x = omega (arith, p.size, ap length (through-without q.path p.slashed), length-append x (47 ∷ [])) in
    let x_is : take (f - 1) path ≡ x = ap (λ (n : ℕ). take n path) long ∙ ap (take (length x)) whole ∙ take-append_seam x (47 ∷ (t.0 ++ q.tail)) in
    let y : List ℕ = ups (suc k) x in
    let place_is : place ≡ length y = omega (arith, ap length (left ∙ ap (ups (suc k)) x_is), length-take place path, within) in
    let behind = ups-behind (suc k) x t.0 (hierarchical_part (chars at.rest)) (sym t.1 ∙ sym p.is) in
    let z = site-further bs s.site at u q (y ++ 47 ∷ []) behind.0 (s.site + place + 1) (sym p.is ∙ behind.1 ∙ sym (append_assoc y (47 ∷ []) behind.0)) (omega (arith, place_is, length-append y (47 ∷ []))) in
    let last : List ℕ = drop (suc k * 3) ref in
    let ref_is : ref ≡ climbs (suc k) ++ last = subst (λ (m : ℕ). ref ≡ climbs m ++ drop (m * 3) ref) (sym (counted ∙ ap parent_steps g)) (climbs-cut ref) in
    let w = ascii-front ref (climbs (suc k)) last (suc k * 3) ref_is (sym (climbs-length (suc k))) (climbs-ascii (suc k)) v in
    let last_plain = told-plain false last rest (rest_is ∙ ap (drop (suc k * 3)) g) w.behind plain in
    let meaning : resolved (chars bs) (chars ref) ≡ (site bs s.site at u ++ (y ++ 47 ∷ [])) ++ chars last =
    ap (resolved (chars bs)) w.whole
    ∙ plain-climbs (chars bs) at.scheme at.authority (chars at.rest) (chars last) k iri (site-cut bs s.site at u) last_plain p.flat
    ∙ ap (λ (a : Chars). (site bs s.site at u ++ (ups (suc k) (without_last_segment a) ++ 47 ∷ [])) ++ chars last) p.is in
    (z.boundary, w.boundary, meaning ∙ ap (λ (a : Chars). a ++ chars last) (sym z.front))
