-- Plain references, from the bytes that the code looks at.
use Rattle.rx_refs.proofs.Common.{◌≡◌, ◌∙◌, ℕ, suc, ◌+◌, ◌<◌, ◌≤◌, ◌/◌, Bool, true, false, List, [], ◌∷◌, ◌++◌, length, take, drop, get_or, sym, ap, subst, refl, arith, Option, Some, None, length-append, not, ◌==◌, ◌||◌, ◌&&◌, if◌then◌else◌, IfSome, codes, nat_lt, list_all, and_parts, and_from, or_parts, nat_tests, list_all-append, chars-nil, encodes-chars, chars-append, chars_past_char, encode_ascii, IsUtf8-past_char, IsCharBoundary-from_drop, is_ascii, Chars, begins_with, is_forbidden, has_forbidden, IsIri, by_test, untrue, ascii-chars, ascii-utf8, and-false, take-append_seam, drop-append_seam, chars, IsUtf8, IsCharBoundary, encode_utf8_all, take-append-drop, length-take, append_assoc, append-nil, drop_more, before, hierarchical_part, holds, through_last_slash, no_dots, ends_path, is_plain_from, is_plain_reference, is_site_byte, is_scheme_byte, IsSchemeEnd, IsSite, IsSplit, folder_from, is_one_slash, begins_path, keeps_all, fragment_from, begins_query, path_end_from, IsPlainAbsolute}
use lib.Utf8.{encode, next}
use Rattle.rx_refs.specs.Resolve.{resolved}
use Rattle.rx_refs.specs.declared.plain.Split.{Split}
use Rattle.rx_refs.proofs.PartLemmas.{before-lacking, all-of, none-of}
use Rattle.rx_refs.proofs.CutLemmas.{past-slash, through-none, through-rest}
use Rattle.rx_refs.proofs.PlainLemmas.{IsCutBase, plain-rooted, plain-relative, plain-same, plain-whole, hier-lacking, plain-query, plain-network}

-- A character above ASCII and its bytes

abbrev is_large : ℕ → Bool
is_large x = not (nat_lt x 128)

record HasBytes (c : ℕ) : Type 0 where
  first : ℕ
  more : List ℕ
  are : encode c ≡ first ∷ more
  large : 128 ≤ first
  all_large : list_all is_large more ≡ true

large-one : (x : ℕ) → 128 ≤ x → is_large x ≡ true
large-one x h = grind (arith, nat_tests)

large-bytes : (c : ℕ) → 128 ≤ c → HasBytes c
unfolding encode
large-bytes c l =
    let small : nat_lt c 128 ≡ false = grind (arith, nat_tests) in
    by_test (nat_lt c 2048)
    (λ t. record { first = 192 + c / 64; more = next c ∷ []; are = rw (small, t) refl; large = omega (arith); all_large = and_from _ _ (large-one (next c) (omega arith)) refl })
    (λ t. by_test (nat_lt c 65536)
    (λ u. record {
      first = 224 + c / 4096;
      more = next (c / 64) ∷ next c ∷ [];
      are = rw (small, t, u) refl;
      large = omega arith;
      all_large = and_from _ _ (large-one (next (c / 64)) (omega arith)) (and_from _ _ (large-one (next c) (omega arith)) refl);
    })
    (λ u. record {
      first = 240 + c / 262144;
      more = next (c / 4096) ∷ next (c / 64) ∷ next c ∷ [];
      are = rw (small, t, u) refl;
      large = omega arith;
      all_large = and_from _ _ (large-one (next (c / 4096)) (omega arith)) (and_from _ _ (large-one (next (c / 64)) (omega arith)) (and_from _ _ (large-one (next c) (omega arith)) refl));
    }))

-- what a function gives of a text's bytes, by the first character
encoded : {T : Type 0} (f : List ℕ → T) (c : ℕ) (cs : List ℕ) (is : T) → f (c ∷ encode_utf8_all cs) ≡ is
    → (128 ≤ c → (b : HasBytes c) → f (b.first ∷ (b.more ++ encode_utf8_all cs)) ≡ is) → f (encode_utf8_all (c ∷ cs)) ≡ is
encoded f c cs is small large =
    by_test (nat_lt c 128)
    (λ t. let below : c < 128 = grind (arith, nat_tests) in ap (λ (x : List ℕ). f (x ++ encode_utf8_all cs)) (encode_ascii c below) ∙ small) (λ t.
    let above : 128 ≤ c = grind (arith, nat_tests) in
    let b = large-bytes c above in
    ap (λ (x : List ℕ). f (x ++ encode_utf8_all cs)) b.are ∙ large above b)

-- and the tests of what is plain

fine-large : (c : ℕ) → 128 ≤ c → (is_forbidden c ≡ false) × (ends_path c ≡ false) × ((c == 58) ≡ false) × ((c == 46) ≡ false) × ((c == 47) ≡ false) × ((47 == c) ≡ false)
fine-large c l = (grind (arith, nat_tests), grind (arith, nat_tests), grind (arith, nat_tests), grind (arith, nat_tests), grind (arith, nat_tests), grind (arith, nat_tests))

plain-large : (first start : Bool) (c : ℕ) (text : List ℕ) → 128 ≤ c → is_plain_from first start (c ∷ text) ≡ is_plain_from first false text
plain-large first start c text l = let f = fine-large c l in rw (f.0, f.1, f.2, f.3, f.4, and-false first, and-false start) refl

large-of : (x : ℕ) → is_large x ≡ true → 128 ≤ x
large-of x h = let e = untrue (nat_lt x 128) h in grind (arith, nat_tests)

past-larges : (first : Bool) (more text : List ℕ) → list_all is_large more ≡ true
    → (is_plain_from first false (more ++ text) ≡ is_plain_from first false text) × (has_forbidden (more ++ text) ≡ has_forbidden text)
past-larges first [] text h = (refl, refl)
past-larges first (x ∷ more) text h =
    let p = and_parts (is_large x) (list_all is_large more) h in
    let large = large-of x p.0 in
    let rest = past-larges first more text p.1 in
    (plain-large first false x (more ++ text) large ∙ rest.0, rw (fine-large x large).0 rest.1)

clean-encoded : (cs : List ℕ) → has_forbidden (encode_utf8_all cs) ≡ has_forbidden cs
clean-encoded [] = refl
clean-encoded (c ∷ cs) =
    let rest = clean-encoded cs in
    encoded has_forbidden c cs (has_forbidden (c ∷ cs)) (ap (λ (b : Bool). is_forbidden c || b) rest)
    (λ l b. rw ((fine-large b.first b.large).0, (fine-large c l).0) ((past-larges false b.more (encode_utf8_all cs) b.all_large).1 ∙ rest))

pub plain-encoded : (first start : Bool) (cs : List ℕ) → is_plain_from first start (encode_utf8_all cs) ≡ is_plain_from first start cs
plain-encoded first start [] = refl
plain-encoded first start (c ∷ cs) =
    let next_is = plain-encoded (if c == 47 then false else first) (c == 47) cs in
    let clean_is = clean-encoded cs in
    let past_is = plain-encoded first false cs in
    encoded (is_plain_from first start) c cs (is_plain_from first start (c ∷ cs)) (rw (next_is, clean_is) refl) (λ l b.
    plain-large first start b.first (b.more ++ encode_utf8_all cs) b.large
    ∙ (past-larges first b.more (encode_utf8_all cs) b.all_large).0 ∙ past_is ∙ sym (plain-large first start c cs l))

-- how a reference begins: a test of the first byte, which is alike of all above ASCII
first-encoded : (f : List ℕ → Bool) (test : ℕ → Bool) → ((c : ℕ) (text : List ℕ) → f (c ∷ text) ≡ test c) → ((c d : ℕ) → 128 ≤ c → 128 ≤ d → test c ≡ test d)
    → (cs : List ℕ) → f (encode_utf8_all cs) ≡ f cs
first-encoded f test is alike [] = refl
first-encoded f test is alike (c ∷ cs) =
    encoded f c cs (f (c ∷ cs)) (is c (encode_utf8_all cs) ∙ sym (is c cs)) (λ l b. is b.first (b.more ++ encode_utf8_all cs) ∙ alike b.first c b.large l ∙ sym (is c cs))

slash-encoded : (cs : List ℕ) → begins_with (codes "/") (encode_utf8_all cs) ≡ begins_with (codes "/") cs
slash-encoded = first-encoded (begins_with (codes "/")) (λ c. begins_with (codes "/") (c ∷ [])) (λ c text. refl) (λ c d l m. rw ((fine-large c l).5, (fine-large d m).5) refl)

slashes-encoded : (cs : List ℕ) → begins_with (codes "//") (encode_utf8_all cs) ≡ begins_with (codes "//") cs
slashes-encoded [] = refl
slashes-encoded (c ∷ cs) =
    encoded (begins_with (codes "//")) c cs (begins_with (codes "//") (c ∷ cs)) (ap (λ x. (47 == c) && x) (slash-encoded cs))
    (λ l b. rw ((fine-large b.first b.large).5, (fine-large c l).5) refl)

rooted-encoded : (cs : List ℕ) → is_one_slash (encode_utf8_all cs) ≡ is_one_slash cs
rooted-encoded cs = rw (slash-encoded cs, slashes-encoded cs) refl

-- what the bytes are told to be the characters are
told : (f : List ℕ → Bool) → ((cs : List ℕ) → f (encode_utf8_all cs) ≡ f cs) → (ref r : List ℕ) → r ≡ ref → IsUtf8 ref → true ≡ f r → f (chars ref) ≡ true
told f alike ref r e u h = sym (h ∙ ap f (e ∙ sym (encodes-chars ref u)) ∙ alike (chars ref))

pub told-plain : (first : Bool) (ref r : List ℕ) → r ≡ ref → IsUtf8 ref → true ≡ is_plain_from first true r → is_plain_from first true (chars ref) ≡ true
told-plain first = told (is_plain_from first true) (plain-encoded first true)

-- A front of ASCII

pub utf8-behind : (xs ys : List ℕ) → list_all is_ascii xs ≡ true → IsUtf8 (xs ++ ys) → IsUtf8 ys
utf8-behind [] ys h u = u
utf8-behind (x ∷ xs) ys h u =
    let p = and_parts (is_ascii x) (list_all is_ascii xs) h in
    let small : x < 128 = let e = p.0 in grind (arith, nat_tests) in
    utf8-behind xs ys p.1 (IsUtf8-past_char (x ∷ (xs ++ ys)) (xs ++ ys) x u (sym (ap (λ (z : List ℕ). z ++ (xs ++ ys)) (encode_ascii x small))))

pub record IsFront (bs xs ys : List ℕ) (n : ℕ) : Type 0 where
  pub boundary : IsCharBoundary bs n
  pub whole : chars bs ≡ xs ++ chars ys
  pub front : chars (take n bs) ≡ xs
  pub behind : IsUtf8 ys

pub ascii-front : (bs xs ys : List ℕ) (n : ℕ) → bs ≡ xs ++ ys → n ≡ length xs → list_all is_ascii xs ≡ true → IsUtf8 bs → IsFront bs xs ys n
ascii-front bs xs ys n e l h u = rw (e, l) (at_seam (rw e at u)) where
  at_seam : IsUtf8 (xs ++ ys) → IsFront (xs ++ ys) xs ys (length xs)
  at_seam u =
      let rest = utf8-behind xs ys h u in
      record {
        boundary = IsCharBoundary-from_drop (xs ++ ys) (length xs) (omega (arith, length-append xs ys)) (rw (drop-append_seam xs ys) rest);
        whole = chars-append xs ys (ascii-utf8 xs h) ∙ ap (λ (x : Chars). x ++ chars ys) (ascii-chars xs h);
        front = ap chars (take-append_seam xs ys) ∙ ascii-chars xs h;
        behind = rest;
      }

-- The bytes before a path

pub scheme-ascii : (xs : List ℕ) → list_all is_scheme_byte xs ≡ true → (list_all is_ascii xs ≡ true) × (holds 58 xs ≡ false)
scheme-ascii xs h = (all-of is_scheme_byte is_ascii (λ c k. grind (arith, nat_tests)) xs h, none-of is_scheme_byte (λ c. c == 58) (λ c k. grind (arith, nat_tests)) xs h)

three : (rest : List ℕ) → 4 ≤ length rest → get_or rest 0 0 ≡ 58 → get_or rest 1 0 ≡ 47 → get_or rest 2 0 ≡ 47 → rest ≡ 58 ∷ 47 ∷ 47 ∷ drop 3 rest
three (x ∷ y ∷ z ∷ rest) l a b c = rw (a, b, c) refl
three rest l a b c = absurd (omega arith)

-- the bytes behind so many, of which the first is told
cut-at-byte : (bs : List ℕ) (n mark : ℕ) → n < length bs → get_or bs n 0 ≡ mark → bs ≡ take n bs ++ mark ∷ drop (n + 1) bs
cut-at-byte bs n mark most is = sym (take-append-drop n bs) ∙ ap (λ (k : List ℕ). take n bs ++ k) (drop_more bs n 0 most ∙ ap (λ (k : ℕ). k ∷ drop (n + 1) bs) is)

pub site-is : (base rest host : List ℕ) (c n : ℕ) → rest ≡ drop c base → host ≡ drop 3 rest → c ≤ length base → list_all is_scheme_byte (take c base) ≡ true → 4 ≤ length rest
    → get_or rest 0 0 ≡ 58 → get_or rest 1 0 ≡ 47 → get_or rest 2 0 ≡ 47
    → list_all is_site_byte (take n host) ≡ true → n < length host → get_or host n 0 ≡ 47 → IsSite base (c + 3 + n)
site-is base rest host c n e f l scheme long x y z site most slash =
    let s = take c base in
    let a = take n host in
    let behind : rest ≡ 58 ∷ 47 ∷ 47 ∷ host = three rest long x y z ∙ ap (λ (k : List ℕ). 58 ∷ 47 ∷ 47 ∷ k) (sym f) in
    let host_is = cut-at-byte host n 47 most slash in
    record {
      scheme = s;
      authority = a;
      rest = drop (n + 1) host;
      whole = sym (take-append-drop c base) ∙ ap (λ (k : List ℕ). s ++ k) (sym e ∙ behind ∙ ap (λ (k : List ℕ). 58 ∷ 47 ∷ 47 ∷ k) host_is) ∙ sym (append_assoc s (58 ∷ 47 ∷ 47 ∷ a) (47 ∷ drop (n + 1) host));
      size = omega (arith, length-append s (58 ∷ 47 ∷ 47 ∷ a), length-take c base, length-take n host);
      before_colon = scheme;
      before_path = site;
    }

-- The bytes up to the first that stops, all of ASCII

abbrev pub stops_at : (ℕ → Bool) → List ℕ → Bool
stops_at stops [] = true
stops_at stops (c ∷ text) = stops c

pub record Front (stops : ℕ → Bool) (bs : List ℕ) : Type 0 where
  pub path : List ℕ
  pub tail : List ℕ
  pub whole : bs ≡ path ++ tail
  pub ascii : list_all is_ascii path ≡ true
  pub lacks : list_all (λ c. not (stops c)) path ≡ true
  pub ends : stops_at stops tail ≡ true

abbrev no-front : {stops : ℕ → Bool} (bs : List ℕ) → stops_at stops bs ≡ true → Front stops bs
no-front bs ends = record { path = []; tail = bs; whole = refl; ascii = refl; lacks = refl; ends = ends }

abbrev longer-front : {stops : ℕ → Bool} (c : ℕ) (bs : List ℕ) → stops c ≡ false → nat_lt c 128 ≡ true → Front stops bs → Front stops (c ∷ bs)
longer-front c bs other small f = record {
  path = c ∷ f.path;
  tail = f.tail;
  whole = ap (λ x. c ∷ x) f.whole;
  ascii = and_from (is_ascii c) (list_all is_ascii f.path) small f.ascii;
  lacks = rw other f.lacks;
  ends = f.ends;
}

-- a walk that stops there, and is nothing where a byte before that isn't ASCII
module _ (stops : ℕ → Bool) (from : ℕ → List ℕ → Option ℕ) (at_end : (here : ℕ) → from here [] ≡ Some here)
    (at_byte : (here c : ℕ) (bs : List ℕ) → from here (c ∷ bs) ≡ (if stops c then Some here else if not (nat_lt c 128) then None else from (suc here) bs)) where
  front-from : (here : ℕ) (bs : List ℕ) (f : ℕ) → from here bs ≡ Some f → (p : Front stops bs) × (f ≡ here + length p.path)
  front-from here [] f h =
      let g : Some here ≡ Some f = sym (at_end here) ∙ h in
      let k : here ≡ f = cc g in
      (no-front [] refl, omega (arith, k))
  front-from here (c ∷ bs) f h =
      let now = sym (at_byte here c bs) ∙ h in
      by_test (stops c) (λ t.
      let g : Some here ≡ Some f = rw t at now in
      let k : here ≡ f = cc g in
      (no-front (c ∷ bs) t, omega (arith, k))) (λ e.
      by_test (nat_lt c 128) (λ l.
      let r = front-from (suc here) bs f (rw (e, l) at now) in
      let p = r.1 in
      (longer-front c bs e l r.0, omega (arith, p))) (λ l. let g : None ≡ Some f = rw (e, l) at now in absurd (cc g)))

-- what stops it is a character
tail-chars : (stops : ℕ → Bool) (tail : List ℕ) → ((c : ℕ) → stops c ≡ true → c < 128) → IsUtf8 tail → stops_at stops tail ≡ true → stops_at stops (chars tail) ≡ true
tail-chars stops [] small u e = ap (stops_at stops) chars-nil
tail-chars stops (c ∷ tail) small u e = ap (stops_at stops) (chars_past_char (c ∷ tail) tail c u (sym (ap (λ (x : List ℕ). x ++ tail) (encode_ascii c (small c e))))) ∙ e

-- the hierarchical part of a text is the front that no `?` or `#` is in
pub hier-front : (bs : List ℕ) (n : ℕ) (p : Front ends_path bs) → IsFront bs p.path p.tail n → hierarchical_part (chars bs) ≡ p.path
hier-front bs n p f =
    ap hierarchical_part f.whole
    ∙ hier-lacking p.path (chars p.tail) (none-of (λ c. not (ends_path c)) (λ c. c == 35) (λ c h. (or_parts (c == 35) (c == 63) (untrue (ends_path c) h)).0) p.path p.lacks)
    (none-of (λ c. not (ends_path c)) (λ c. c == 63) (λ c h. (or_parts (c == 35) (c == 63) (untrue (ends_path c) h)).1) p.path p.lacks)
    ∙ ap (λ (x : Chars). p.path ++ x) (ends (chars p.tail) (tail-chars ends_path p.tail (λ c h. grind (arith, nat_tests)) f.behind p.ends)) ∙ append-nil p.path where
      ends : (text : Chars) → stops_at ends_path text ≡ true → hierarchical_part text ≡ []
      ends [] e = refl
      ends (c ∷ text) e = by_test (c == 35) (λ t. rw t refl) (λ t. let k : (c == 63) ≡ true = rw t at e in rw (t, k) refl)

hash-front : (bs : List ℕ) (n : ℕ) (p : Front (λ c. c == 35) bs) → IsFront bs p.path p.tail n → before 35 (chars bs) ≡ p.path
hash-front bs n p f =
    ap (before 35) f.whole ∙ before-lacking 35 p.path (chars p.tail) (none-of (λ c. not (c == 35)) (λ c. c == 35) (λ c h. untrue (c == 35) h) p.path p.lacks)
    ∙ ap (λ (x : Chars). p.path ++ x) (ends (chars p.tail) (tail-chars (λ c. c == 35) p.tail (λ c h. grind (arith, nat_tests)) f.behind p.ends)) ∙ append-nil p.path where
      ends : (text : Chars) → stops_at (λ c. c == 35) text ≡ true → before 35 text ≡ []
      ends [] e = refl
      ends (c ∷ text) e = rw e refl

-- The place behind the last `/`

abbrev place_of : ℕ → ℕ → Chars → ℕ
place_of here folder path = if holds 47 path then here + length (through_last_slash path) else folder

record FolderParts (here folder : ℕ) (start : Bool) (bs : List ℕ) (f : ℕ) : Type 0 where
  parts : Front ends_path bs
  flat : no_dots start parts.path ≡ true
  place : f ≡ place_of here folder parts.path

place-next : (here folder f c : ℕ) (path : Chars) → f ≡ place_of (suc here) (if c == 47 then suc here else folder) path → f ≡ place_of here folder (c ∷ path)
place-next here folder f c path h =
    by_test (holds 47 path) (λ u.
    let g : f ≡ suc here + length (through_last_slash path) = rw u at h in
    by_test (c == 47) (λ t. rw t (omega (arith, g))) (λ t. rw (t, u) (omega (arith, g)))) (λ u.
    let g : f ≡ (if c == 47 then suc here else folder) = rw u at h in
    by_test (c == 47) (λ t.
    let k : f ≡ suc here = rw t at g in
    let none : length (through_last_slash path) ≡ 0 = ap length (through-none path u) in
    rw t (omega (arith, k, none))) (λ t. let k : f ≡ folder = rw t at g in rw (t, u) k))

folder-parts : (here folder : ℕ) (start : Bool) (bs : List ℕ) (f : ℕ) → folder_from here folder start bs ≡ Some f → FolderParts here folder start bs f
folder-parts here folder start [] f h = record { parts = no-front [] refl; flat = refl; place = cc h }
folder-parts here folder start (c ∷ bs) f h =
    by_test (ends_path c) (λ t.
    let k : Some folder ≡ Some f = rw t at h in
    record { parts = no-front (c ∷ bs) t; flat = refl; place = cc k }) (λ e.
    by_test (nat_lt c 128) (λ l.
    by_test (start && c == 46) (λ t. let k : None ≡ Some f = rw (e, l, t) at h in absurd (cc k)) (λ d.
    let r = folder-parts (suc here) (if c == 47 then suc here else folder) (c == 47) bs f (rw (e, l, d) at h) in
    record {
      parts = longer-front c bs e l r.parts;
      flat = and_from (not (start && c == 46)) (no_dots (c == 47) r.parts.path) (ap not d) r.flat;
      place = place-next here folder f c r.parts.path r.place;
    })) (λ l. let k : None ≡ Some f = rw (e, l) at h in absurd (cc k)))

-- the path behind a site, which has no dot segment
pub record IsFlat (rest : List ℕ) (f : ℕ) : Type 0 where
  pub parts : Front ends_path (47 ∷ rest)
  pub slashed : holds 47 parts.path ≡ true
  pub is : 47 ∷ hierarchical_part (chars rest) ≡ parts.path
  pub flat : no_dots true (47 ∷ hierarchical_part (chars rest)) ≡ true
  pub size : f ≡ length (through_last_slash parts.path)

flat-path : (rest : List ℕ) (f : ℕ) → IsUtf8 (47 ∷ rest) → Some f ≡ folder_from 0 0 false (47 ∷ rest) → IsFlat rest f
flat-path rest f u folder =
    let p = folder-parts 0 0 false (47 ∷ rest) f (sym folder) in
    let q = p.parts in
    let slashed = path-slash q.path q.tail q.whole q.ends in
    let path_is : 47 ∷ hierarchical_part (chars rest) ≡ q.path =
    ap hierarchical_part (sym (past-slash (47 ∷ rest) rest u refl).0) ∙ hier-front (47 ∷ rest) (length q.path) q (ascii-front (47 ∷ rest) q.path q.tail (length q.path) q.whole refl q.ascii u) in
    record { parts = q; slashed = slashed; is = path_is; flat = ap (no_dots false) path_is ∙ p.flat; size = p.place ∙ rw slashed (omega arith) } where
      path-slash : (path tail : List ℕ) → 47 ∷ rest ≡ path ++ tail → stops_at ends_path tail ≡ true → holds 47 path ≡ true
      path-slash [] [] w e = absurd (cc w)
      path-slash [] (c ∷ tail) w e = let k : 47 ≡ c = cc w in let g : false ≡ true = rw (← k) at e in absurd (cc g)
      path-slash (c ∷ path) tail w e = let k : 47 ≡ c = cc w in rw (← k) refl

-- A base that is cut before its path

module _ (bs : List ℕ) (n : ℕ) (s : IsSite bs n) (u : IsUtf8 bs) where
  abbrev pub site : List ℕ
  site = s.scheme ++ 58 ∷ 47 ∷ 47 ∷ s.authority

  site-bytes : list_all is_ascii site ≡ true
  site-bytes = list_all-append is_ascii s.scheme (58 ∷ 47 ∷ 47 ∷ s.authority) ∙ and_from (list_all is_ascii s.scheme) (list_all is_ascii (58 ∷ 47 ∷ 47 ∷ s.authority)) (scheme-ascii s.scheme s.before_colon).0 (all-of is_site_byte is_ascii (λ c h. grind (arith, nat_tests)) s.authority s.before_path)

  site-front : IsFront bs site (47 ∷ s.rest) n
  site-front = ascii-front bs site (47 ∷ s.rest) n s.whole s.size site-bytes u

  pub site-cut : IsCutBase (chars bs) s.scheme s.authority (chars s.rest)
  site-cut =
      let lacks : (mark : ℕ) → ((c : ℕ) → is_site_byte c ≡ true → (c == mark) ≡ false) → holds mark s.authority ≡ false = λ mark each. none-of is_site_byte (λ c. c == mark) each s.authority s.before_path in
      record {
        whole = site-front.whole ∙ ap (λ (x : Chars). site ++ x) (past-slash (47 ∷ s.rest) s.rest site-front.behind refl).0;
        lacks = (scheme-ascii s.scheme s.before_colon).1;
        no_hash = lacks 35 (λ c h. grind (arith, nat_tests));
        no_mark = lacks 63 (λ c h. grind (arith, nat_tests));
        no_slash = lacks 47 (λ c h. grind (arith, nat_tests));
      }

  pub site-flat : (path : List ℕ) (f : ℕ) → path ≡ drop n bs → Some f ≡ folder_from 0 0 false path → (path ≡ 47 ∷ s.rest) × IsFlat s.rest f
  site-flat path f e folder =
      let path_is : path ≡ 47 ∷ s.rest = e ∙ ap (drop n) s.whole ∙ ap (λ (m : ℕ). drop m (site ++ 47 ∷ s.rest)) s.size ∙ drop-append_seam site (47 ∷ s.rest) in
      (path_is, flat-path s.rest f site-front.behind (folder ∙ ap (folder_from 0 0 false) path_is))

  -- the front goes on to a place of the path
  pub site-further : (p : Front ends_path (47 ∷ s.rest)) (x more : List ℕ) (m : ℕ) → p.path ≡ x ++ more → m ≡ n + length x → IsFront bs (site ++ x) (more ++ p.tail) m
  site-further p x more m e l =
      let whole : bs ≡ (site ++ x) ++ (more ++ p.tail) =
      s.whole ∙ ap (λ (y : List ℕ). site ++ y) (p.whole ∙ ap (λ (y : List ℕ). y ++ p.tail) e ∙ append_assoc x more p.tail) ∙ sym (append_assoc site x (more ++ p.tail)) in
      let x_ascii = (and_parts (list_all is_ascii x) (list_all is_ascii more) (sym (list_all-append is_ascii x more) ∙ ap (list_all is_ascii) (sym e) ∙ p.ascii)).0 in
      let ascii : list_all is_ascii (site ++ x) ≡ true = list_all-append is_ascii site x ∙ and_from (list_all is_ascii site) (list_all is_ascii x) site-bytes x_ascii in
      ascii-front bs (site ++ x) (more ++ p.tail) m whole (omega (arith, l, s.size, length-append site x)) ascii u

-- and one that is cut behind its scheme
colon-front : (bs scheme rest : List ℕ) (n : ℕ) → bs ≡ scheme ++ 58 ∷ rest → n ≡ length scheme + 1 → list_all is_scheme_byte scheme ≡ true → IsUtf8 bs
    → IsFront bs (scheme ++ 58 ∷ []) rest n × (chars bs ≡ scheme ++ 58 ∷ chars rest)
colon-front bs scheme rest n e l before_colon u =
    let ascii : list_all is_ascii (scheme ++ 58 ∷ []) ≡ true = list_all-append is_ascii scheme (58 ∷ []) ∙ rw (scheme-ascii scheme before_colon).0 refl in
    let f = ascii-front bs (scheme ++ 58 ∷ []) rest n (e ∙ sym (append_assoc scheme (58 ∷ []) rest)) (omega (arith, l, length-append scheme (58 ∷ []))) ascii u in
    (f, f.whole ∙ append_assoc scheme (58 ∷ []) (chars rest))

pub scheme-end : (base : List ℕ) (c : ℕ) → c < length base → list_all is_scheme_byte (take c base) ≡ true → get_or base c 0 ≡ 58 → IsSchemeEnd base (c + 1)
scheme-end base c most scheme colon =
    record { scheme = take c base; rest = drop (c + 1) base; whole = cut-at-byte base c 58 most colon; size = omega (arith, length-take c base, most); before_colon = scheme }

-- how it is told that the base may be cut
pub cut-of : (bs : List ℕ) (o : Option Split) (s : Split) → o ≡ Some s → IfSome o (IsSplit bs) → IsSplit bs s
cut-of bs o s is held = subst (λ (x : Option Split). IfSome x (IsSplit bs)) is held

-- What stands before a plain reference

abbrev Kept : List ℕ → List ℕ → ℕ → Type 0
Kept bs ref n = IsCharBoundary bs n × (resolved (chars bs) (chars ref) ≡ chars (take n bs) ++ chars ref)

kept : (bs ref xs ys front : List ℕ) (n : ℕ) → IsFront bs xs ys n → resolved (chars bs) (chars ref) ≡ front ++ chars ref → front ≡ xs → Kept bs ref n
kept bs ref xs ys front n f means e = (f.boundary, means ∙ ap (λ (x : Chars). x ++ chars ref) (e ∙ sym f.front))

module _ (bs ref r : List ℕ) (e : r ≡ ref) (u : IsUtf8 bs) (v : IsUtf8 ref) (iri : IsIri (chars bs)) (is_plain_ref : true ≡ is_plain_reference r) where
  plain : is_plain_reference (chars ref) ≡ true
  plain = told-plain true ref r e v is_plain_ref

  -- an empty reference, and a fragment
  pub kept-same : (o : Option ℕ) → true ≡ keeps_all r → o ≡ fragment_from 0 bs → IfSome o (Kept bs ref)
  kept-same None keeps place = tt
  kept-same (Some n) keeps place =
      let p = front-from (λ c. c == 35) fragment_from (λ here. refl) (λ here c text. refl) 0 bs n (sym place) in
      let f = ascii-front bs p.0.path p.0.tail n p.0.whole (omega (arith, p.1)) p.0.ascii u in
      let k = told keeps_all (first-encoded keeps_all (λ c. c == 35) (λ c text. refl) (λ c d l m. grind (arith, nat_tests))) ref r e v keeps in
      kept bs ref p.0.path p.0.tail (before 35 (chars bs)) n f (plain-same (chars bs) (chars ref) iri plain k) (hash-front bs n p.0 f)

  pub kept-query : (o : Option ℕ) → true ≡ begins_query r → o ≡ path_end_from 0 bs → IfSome o (Kept bs ref)
  kept-query None query place = tt
  kept-query (Some n) query place =
      let p = front-from ends_path path_end_from (λ here. refl) (λ here c text. refl) 0 bs n (sym place) in
      let f = ascii-front bs p.0.path p.0.tail n p.0.whole (omega (arith, p.1)) p.0.ascii u in
      let k = told begins_query (first-encoded begins_query (λ c. c == 63) (λ c text. refl) (λ c d l m. grind (arith, nat_tests))) ref r e v query in
      kept bs ref p.0.path p.0.tail (hierarchical_part (chars bs)) n f (plain-query (chars bs) (chars ref) iri plain k) (hier-front bs n p.0 f)

  -- a reference that begins with an authority
  pub kept-network : (o : Option ℕ) → true ≡ begins_with (codes "//") r → IfSome o (IsSchemeEnd bs) → IfSome o (Kept bs ref)
  kept-network None slashes is = tt
  kept-network (Some n) slashes is =
      let f = colon-front bs is.scheme is.rest n is.whole is.size is.before_colon u in
      let k = told (begins_with (codes "//")) slashes-encoded ref r e v slashes in
      kept bs ref (is.scheme ++ 58 ∷ []) is.rest (is.scheme ++ 58 ∷ []) n f.0 (plain-network (chars bs) (chars ref) is.scheme (chars is.rest) iri f.1 (scheme-ascii is.scheme is.before_colon).1 plain k) refl

  pub kept-rooted : (o : Option Split) (s : Split) → o ≡ Some s → IfSome o (IsSplit bs) → true ≡ is_one_slash r → Kept bs ref s.site
  kept-rooted o s is held slash =
      let at = (cut-of bs o s is held).site in
      let k = and_parts (begins_with (codes "/") (chars ref)) (not (begins_with (codes "//") (chars ref))) (told is_one_slash rooted-encoded ref r e v slash) in
      let means = plain-rooted (chars bs) (chars ref) at.scheme at.authority (chars at.rest) iri (site-cut bs s.site at u) plain (untrue (begins_with (codes "//") (chars ref)) k.1) k.0 in
      kept bs ref (site bs s.site at u) (47 ∷ at.rest) (site bs s.site at u) s.site (site-front bs s.site at u) means refl

  pub kept-relative : (o : Option Split) (s : Split) (f : ℕ) → o ≡ Some s → s.folder ≡ Some f → IfSome o (IsSplit bs) → true ≡ begins_path r → Kept bs ref (s.site + f)
  kept-relative o s f is folder held begins =
      let cut = cut-of bs o s is held in
      let at = cut.site in
      let front = site bs s.site at u in
      let p = (site-flat bs s.site at u (drop s.site bs) f refl (sym folder ∙ cut.folder)).1 in
      let x = through_last_slash p.parts.path in
      let t = through-rest p.parts.path in
      let k = told begins_path (first-encoded begins_path (λ c. not (ends_path c || c == 47)) (λ c text. refl) (λ c d l m. grind (arith, nat_tests))) ref r e v begins in
      kept bs ref (front ++ x) (t.0 ++ p.parts.tail) (front ++ through_last_slash (47 ∷ hierarchical_part (chars at.rest))) (s.site + f)
      (site-further bs s.site at u p.parts x t.0 (s.site + f) t.1 (omega (arith, p.size)))
      (plain-relative (chars bs) (chars ref) at.scheme at.authority (chars at.rest) iri (site-cut bs s.site at u) plain k p.flat)
      (ap (λ (y : Chars). front ++ through_last_slash y) p.is)

-- A reference that stands alone

pub whole-chars : (ref r : List ℕ) (t : Bool) → r ≡ ref → IsUtf8 ref → (t ≡ true → IsPlainAbsolute r) → t ≡ true → (base : Chars) → resolved base (chars ref) ≡ chars ref
whole-chars ref r t e u h is base =
    let w : IsPlainAbsolute ref = subst IsPlainAbsolute e (h is) in
    let f = colon-front ref w.scheme w.rest (length w.scheme + 1) w.whole refl w.before_colon u in
    plain-whole base (chars ref) w.scheme (chars w.rest) f.1 (scheme-ascii w.scheme w.before_colon).1 w.is_scheme (told-plain false w.rest w.rest refl (f.0).behind (sym w.is_rest))
