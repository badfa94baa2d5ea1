-- Marks of names.
use Rattle.rx_names.proofs.Common.{by_test, option_or, chars, IsUtf8, nat_tests, encodes-chars, Chars, trimmed, lowered, begins_with, or_parts, flat_map-append, bytes_eq-Decides, ◌≡◌, ◌∙◌, ℕ, ◌/◌, true, false, Bool, List, [], ◌∷◌, ◌++◌, map, filter, Option, Some, None, MatchOption, Bor, take, drop, length, get_or, codes, ◌+◌, ◌<◌, bytes_eq, cond, sym, ap, subst, refl, arith, ◌==◌, ◌||◌, is_some, bit_and, bit_or, take_more, append-nil, flat_map, ElementTag, attribute, value_of_first, Table, counts, xmlns_of, of_prefix, mark_bit, name_mark, has_mark, MarksNames, prefix_declaration, vocabulary_rows, language_rows, declared_rows}
use lib.Bits.{or_shr}
use Rattle.std.proofs.lemmas.Nat.{and_or_self}
use Rattle.std.proofs.Math.Arith.{bin_ind}
use Rattle.std.specs.Int.Bits.{and_zero_r, and_step, or_step}
use Rattle.rx_names.proofs.DeclarationLemmas.{xmlns-chars}

-- bits that are set stay so where others are set
stay_set : (mask word more : ℕ) → bit_and word mask ≡ mask → bit_and (bit_or word more) mask ≡ mask
stay_set =
    bin_ind (λ (m : ℕ). (a n : ℕ) → bit_and a m ≡ m → bit_and (bit_or a n) m ≡ m) (λ a n h. and_zero_r (bit_or a n))
    (λ m ih a n h.
    let rest : bit_and (a / 2) (m / 2) ≡ m / 2 = omega (arith, and_step a m, h) in
    let p : bit_and (bit_or a n / 2) (m / 2) ≡ m / 2 = ap (λ x. bit_and x (m / 2)) (or_shr a n 1) ∙ ih (a / 2) (n / 2) rest in
    omega (arith, and_step (bit_or a n) m, p, or_step a n, and_step a m, h))

or_keeps : (word more mask : ℕ) → (bit_and word mask == mask) ≡ true → (bit_and (bit_or word more) mask == mask) ≡ true
or_keeps word more mask h = let set : bit_and word mask ≡ mask = grind (arith, nat_tests) in grind (arith, nat_tests, stay_set mask word more set)

or_has : (word mask : ℕ) → (bit_and (bit_or word mask) mask == mask) ≡ true
or_has word mask = grind (arith, nat_tests, and_or_self mask word)

pub mark_of_chars : (bytes : List ℕ) → IsUtf8 bytes → mark_bit bytes ≡ name_mark (chars bytes)
mark_of_chars bytes u = ap mark_bit (sym (encodes-chars bytes u))

pub none_marked : (marks : ℕ) → MarksNames marks []
none_marked marks name h = refl

last_value : (attributes : List (Chars × Chars)) (name key value : Chars) → bytes_eq key name ≡ false → value_of_first attributes name ≡ None → value_of_first (attributes ++ (key, value) ∷ []) name ≡ None
last_value [] name key value d h = ap (λ b. cond b (Some value) None) d
last_value (a ∷ more) name key value d h =
    by_test (bytes_eq a.0 name) (λ t. absurd (cc (rw t at h))) (λ f. rw f (last_value more name key value d (rw f at h)))

pub one_more : (marks : ℕ) (attributes : List (Chars × Chars)) (key value : Chars) → MarksNames marks attributes → MarksNames (bit_or marks (name_mark key)) (attributes ++ (key, value) ∷ [])
one_more marks attributes key value m name h = last_value attributes name key value other (m name before) where
  before : has_mark marks name ≡ false
  before = by_test (has_mark marks name) (λ t. absurd (cc (or_keeps marks (name_mark key) (name_mark name) t, h))) (λ f. f)

  other : bytes_eq key name ≡ false
  other = by_test (bytes_eq key name) (λ t.
      let same : key ≡ name = (bytes_eq-Decides key name).0 t in
      let has : has_mark (bit_or marks (name_mark key)) name ≡ true = subst (λ n. has_mark (bit_or marks (name_mark key)) n ≡ true) same (or_has marks (name_mark key)) in
      absurd (cc (has, h))) (λ f. f)

-- one attribute more of those at the front
pub one_taken : (attributes : List (Chars × Chars)) (i marks mark : ℕ) (a : Chars × Chars) → i < length attributes → get_or attributes i a ≡ a → mark ≡ name_mark a.0 → MarksNames marks (take i attributes)
    → MarksNames (bit_or marks mark) (take (i + 1) attributes)
one_taken attributes i marks mark a within at is m =
    let more : take (i + 1) attributes ≡ take i attributes ++ a ∷ [] = take_more attributes i a within ∙ ap (λ x. take i attributes ++ x ∷ []) at in
    subst (λ n. MarksNames (bit_or marks n) (take (i + 1) attributes)) (sym is) (subst (λ l. MarksNames (bit_or marks (name_mark a.0)) l) (sym more) (one_more marks (take i attributes) a.0 a.1 m))

-- Attributes `xmlns:NAME`

-- whether the text begins so is told by what stands behind
pub begins : (text : Chars) (rest : Option (Bor (List ℕ))) → MatchOption rest (begins_with (chars (codes "xmlns:")) text ≡ false) (λ more. text ≡ chars (codes "xmlns:") ++ chars more.now)
    → is_some rest ≡ begins_with (codes "xmlns:") text
begins text None h = sym h ∙ ap (λ (x : Chars). begins_with x text) xmlns-chars
begins text (Some more) h = sym (ap (begins_with (codes "xmlns:")) (h ∙ ap (λ (x : Chars). x ++ chars more.now) xmlns-chars))

no_more : (attributes : List (Chars × Chars)) (a : Chars × Chars) → flat_map xmlns_of attributes ≡ [] → begins_with (codes "xmlns:") a.0 ≡ false → flat_map xmlns_of (attributes ++ a ∷ []) ≡ []
no_more attributes a h t =
    flat_map-append xmlns_of attributes (a ∷ []) ∙ ap (λ (x : Table). x ++ flat_map xmlns_of (a ∷ [])) h ∙ append-nil (xmlns_of a) ∙ ap (λ b. cond b ((lowered (drop 6 a.0), trimmed a.1) ∷ []) []) t

-- one attribute more
pub namespaces_taken : (attributes : List (Chars × Chars)) (i : ℕ) (told new : Bool) (a : Chars × Chars) → i < length attributes → get_or attributes i a ≡ a → new ≡ (told || begins_with (codes "xmlns:") a.0)
    → (told ≡ false → flat_map xmlns_of (take i attributes) ≡ []) → new ≡ false → flat_map xmlns_of (take (i + 1) attributes) ≡ []
namespaces_taken attributes i told new a within at is before none =
    let more : take (i + 1) attributes ≡ take i attributes ++ a ∷ [] = take_more attributes i a within ∙ ap (λ x. take i attributes ++ x ∷ []) at in
    let both = or_parts told (begins_with (codes "xmlns:") a.0) (sym is ∙ none) in
    ap (flat_map xmlns_of) more ∙ no_more (take i attributes) a (before both.0) both.1

-- none of five
pub none_of_all : (a b c d e : Bool) → (a || b || c || d || e) ≡ false → (a ≡ false) × (b ≡ false) × (c ≡ false) × (d ≡ false) × (e ≡ false)
none_of_all false false false false false h = (refl, refl, refl, refl, refl)
none_of_all _ _ _ _ _ h = absurd (cc h)

-- a tag that has none of the names by which names are declared
pub declares_none : (tag : ElementTag) (namespaces prefix vocab xml_lang lang : Bool)
    → (namespaces ≡ false → flat_map xmlns_of tag.attributes ≡ []) → (prefix ≡ false → attribute tag (codes "prefix") ≡ None) → (vocab ≡ false → attribute tag (codes "vocab") ≡ None)
    → (xml_lang ≡ false → attribute tag (codes "xml:lang") ≡ None) → (lang ≡ false → attribute tag (codes "lang") ≡ None)
    → (namespaces || prefix || vocab || xml_lang || lang) ≡ false → declared_rows tag ≡ []
declares_none tag namespaces prefix vocab xml_lang lang n p v x l e =
    let q = none_of_all namespaces prefix vocab xml_lang lang e in
    none_of (flat_map xmlns_of tag.attributes) (attribute tag (codes "prefix")) (attribute tag (codes "vocab")) (attribute tag (codes "xml:lang")) (attribute tag (codes "lang")) (n q.0) (p q.1) (v q.2) (x q.3) (l q.4) where
      none_of : (table : Table) (prefix vocab xml_lang lang : Option Chars) → table ≡ [] → prefix ≡ None → vocab ≡ None → xml_lang ≡ None → lang ≡ None
          → map prefix_declaration (filter counts (table ++ of_prefix prefix)) ++ (vocabulary_rows vocab ++ language_rows (option_or xml_lang lang)) ≡ []
      none_of table prefix vocab xml_lang lang a b c d e = rw (a, b, c, d, e) refl
