-- The prefixes that a text uses.
use Rattle.rx_model.proofs.Common.{◌≡◌, ◌∙◌, ◌⊎◌, ◌↔◌, ℕ, Bool, true, false, cond, List, [], ◌∷◌, ◌++◌, map, filter, flat_map, length, drop, Option, Some, None, bytes_eq, refl, sym, ap, ap₂, inl, inr, subst, true≢false, arith, not, ◌==◌, and_parts, and_from, nat_tests, Chars, begins_with, by_test, Among, IsExact, contains, Triple, Among_filter, Among_of_filter, Among_of_filter_map, Among-contains, Among_by_contains, Among_map, Among_of_map, false_unless, or_left, or_right, Among_filter_map, exact_texts}
use Rattle.rx_notation.specs.Short.{Prefix, Prefixes, is_byte_less, is_prefix_name, is_local_name, local_name, shortens, is_preferred, preferred, best, prefix_of}
use Rattle.rx_notation.specs.Layout.{iris_of, used, same_prefix, those_among, prefix_placed, in_byte_order, prefixes_used}
use Rattle.rx_notation.specs.Spelling.{names_differ}
use Rattle.rx_notation.specs.Meaning.{iri_at, is_known}
use Rattle.rx_notation.specs.Syntax.{Short}
use Rattle.rx_notation.specs.Nesting.{prefixes_named}

-- ---- the prefix that is taken

pub best_among : (ps : Prefixes) (p : Prefix) → best ps ≡ Some p → Among ps p
best_among [] p e = cc
best_among (q ∷ more) p e = go (best more) refl (best_among more) e
  where
    pick : (b : Bool) (r : Prefix) → Among more r → Some (cond b r q) ≡ Some p → (q ≡ p) ⊎ Among more p
    pick true r m f = inr (subst (Among more) (cc) m)
    pick false r m f = inl (cc)

    go : (o : Option Prefix) → best more ≡ o → ((r : Prefix) → best more ≡ Some r → Among more r) → Some (preferred q o) ≡ Some p → (q ≡ p) ⊎ Among more p
    go None f ih g = inl (cc)
    go (Some r) f ih g = pick (is_preferred r q) r (ih r f) g

pub record Fits (context : Prefixes) (iri : Chars) (p : Prefix) : Type 0 where
  pub there : Among context p
  pub is_name : is_prefix_name p.0 ≡ true
  pub begins : begins_with p.1 iri ≡ true
  pub is_local : is_local_name (local_name p iri) ≡ true

pub prefix_fits : (context : Prefixes) (iri : Chars) (p : Prefix) → prefix_of context iri ≡ Some p → Fits context iri p
prefix_fits context iri p e =
    let found = Among_of_filter (shortens iri) context p (best_among (filter (shortens iri) context) p e) in
    let parts = and_parts _ _ found.1 in
    let more = and_parts _ _ parts.1 in
    record { there = found.0; is_name = parts.0; begins = more.0; is_local = more.1 }

-- a case by the prefix of an IRI, with its equation
pub by_prefix : {G : Type 0} (context : Prefixes) (iri : Chars) → (prefix_of context iri ≡ None → G) → ((p : Prefix) → prefix_of context iri ≡ Some p → G) → G
by_prefix {G} context iri f g = go (prefix_of context iri) refl
  where
    go : (o : Option Prefix) → prefix_of context iri ≡ o → G
    go None e = f e
    go (Some p) e = g p e

pub front_and_rest : (front text : Chars) → begins_with front text ≡ true → front ++ drop (length front) text ≡ text
front_and_rest [] text h = refl
front_and_rest (c ∷ front) [] h = absurd (true≢false (sym h))
front_and_rest (c ∷ front) (d ∷ text) h =
    let first : (c == d) ≡ true = (and_parts _ _ h).0 in
    let same : c ≡ d = grind (arith, nat_tests, first) in
    ap₂ ◌∷◌ same (front_and_rest front text (and_parts _ _ h).1)

-- ---- prefixes of different names

abbrev pub Apart : Prefixes → Type 0
Apart [] = Unit {0}
Apart (p ∷ ps) = ((q : Prefix) → Among ps q → p.0 ≡ q.0 → ⊥) × Apart ps

abbrev pub name_of : Prefix → Chars
name_of p = p.0

pub names_apart : (ps : Prefixes) → names_differ (map (λ (p : Prefix). p.0) ps) ≡ true → Apart ps
names_apart [] h = tt
names_apart (p ∷ ps) h = (differs, names_apart ps (and_parts _ _ h).1)
  where
    differs : (q : Prefix) → Among ps q → p.0 ≡ q.0 → ⊥
    differs q m e =
        let there : contains bytes_eq (map name_of ps) p.0 ≡ true = Among-contains bytes_eq exact_texts (map name_of ps) p.0 (subst (Among (map name_of ps)) (sym e) (Among_map name_of ps q m)) in
        true≢false (sym (and_parts _ _ h).0 ∙ ap not there)

-- one of them, by its name
pub one_of : (ps : Prefixes) → Apart ps → (p q : Prefix) → Among ps p → Among ps q → q.0 ≡ p.0 → q ≡ p
one_of [] a p q m n e = absurd m
one_of (x ∷ ps) a p q (inl i) (inl j) e = sym j ∙ i
one_of (x ∷ ps) a p q (inl i) (inr n) e = absurd (a.0 q n (ap name_of i ∙ sym e))
one_of (x ∷ ps) a p q (inr m) (inl j) e = absurd (a.0 p m (ap name_of j ∙ e))
one_of (x ∷ ps) a p q (inr m) (inr n) e = one_of ps a.1 p q m n e

pub apart_names : (ps : Prefixes) → Apart ps → names_differ (map (λ (p : Prefix). p.0) ps) ≡ true
apart_names [] h = refl
apart_names (p ∷ ps) h = and_from _ _ (ap not (false_unless (contains bytes_eq (map name_of ps) p.0) twice)) (apart_names ps h.1)
  where
    twice : contains bytes_eq (map name_of ps) p.0 ≡ true → ⊥
    twice c = let found = Among_of_map name_of ps p.0 (Among_by_contains bytes_eq exact_texts (map name_of ps) p.0 c) in h.0 found.0 found.1 (sym found.2)

pub apart_filter : (test : Prefix → Bool) (ps : Prefixes) → Apart ps → Apart (filter test ps)
apart_filter test [] h = tt
apart_filter test (p ∷ ps) h =
    let rest = apart_filter test ps h.1 in by_test (test p) (λ e. rw e (λ q m. h.0 q (Among_of_filter test ps q m).0, rest)) (λ e. rw e rest)

-- ---- prefixes in order

in_placed : (p : Prefix) (ps : Prefixes) (q : Prefix) → Among (prefix_placed p ps) q ↔ Among (p ∷ ps) q
in_placed p [] q = (λ m. m, λ m. m)
in_placed p (first ∷ more) q = go (is_byte_less first.0 p.0) (in_placed p more q)
  where
    go : (b : Bool) → Among (prefix_placed p more) q ↔ Among (p ∷ more) q → Among (cond b (first ∷ prefix_placed p more) (p ∷ first ∷ more)) q ↔ Among (p ∷ first ∷ more) q
    go false ih = (λ m. m, λ m. m)
    go true ih = (
      λ m. elim m [ inl e ↦ inr (inl e) | inr k ↦ elim (ih.0 k) [ inl e ↦ inl e | inr l ↦ inr (inr l) ] ],
      λ m. elim m [ inl e ↦ inr (ih.1 (inl e)) | inr k ↦ elim k [ inl e ↦ inl e | inr l ↦ inr (ih.1 (inr l)) ] ],
    )

apart_placed : (p : Prefix) (ps : Prefixes) → ((q : Prefix) → Among ps q → p.0 ≡ q.0 → ⊥) → Apart ps → Apart (prefix_placed p ps)
apart_placed p [] h k = (h, tt)
apart_placed p (first ∷ more) h k = go (is_byte_less first.0 p.0) (apart_placed p more (λ q m. h q (inr m)) k.1)
  where
    from_first : (q : Prefix) → Among (prefix_placed p more) q → first.0 ≡ q.0 → ⊥
    from_first q m e = elim ((in_placed p more q).0 m) [ inl f ↦ h first (inl refl) (ap (λ (z : Prefix). z.0) f ∙ sym e) | inr n ↦ k.0 q n e ]

    go : (b : Bool) → Apart (prefix_placed p more) → Apart (cond b (first ∷ prefix_placed p more) (p ∷ first ∷ more))
    go true ih = (from_first, ih)
    go false ih = (h, k)

pub in_ordered : (ps : Prefixes) (q : Prefix) → Among (in_byte_order ps) q ↔ Among ps q
in_ordered [] q = (λ m. m, λ m. m)
in_ordered (p ∷ ps) q =
    let placed_in = in_placed p (in_byte_order ps) q in let more = in_ordered ps q in (
      λ m. elim (placed_in.0 m) [ inl e ↦ inl e | inr k ↦ inr (more.0 k) ],
      λ m. placed_in.1 (elim m [ inl e ↦ inl e | inr k ↦ inr (more.1 k) ]),
    )

pub apart_ordered : (ps : Prefixes) → Apart ps → Apart (in_byte_order ps)
apart_ordered [] h = tt
apart_ordered (p ∷ ps) h = apart_placed p (in_byte_order ps) (λ q m. h.0 q ((in_ordered ps q).0 m)) (apart_ordered ps h.1)

-- ---- the prefixes of a text

pub exact_prefixes : IsExact same_prefix
exact_prefixes a b = (
  λ h. let parts = and_parts _ _ h in let name = (exact_texts a.0 b.0).0 parts.0 in let iri = (exact_texts a.1 b.1).0 parts.1 in λ i. (name i, iri i),
  λ e. and_from _ _ ((exact_texts a.0 b.0).1 (ap (λ (z : Prefix). z.0) e)) ((exact_texts a.1 b.1).1 (ap (λ (z : Prefix). z.1) e)),
)

module _ (context : Prefixes) (list : List (Triple ℕ)) where
  pub used_apart : Apart context → Apart (prefixes_used context list)
  used_apart h = apart_ordered (those_among (used context list) context) (apart_filter (contains same_prefix (used context list)) context h)

  pub used_of : (p : Prefix) → Among (prefixes_used context list) p → Among context p
  used_of p m = (Among_of_filter (contains same_prefix (used context list)) context p ((in_ordered (those_among (used context list) context) p).0 m)).0

  -- a prefix that is used makes a short form
  pub used_fits : (p : Prefix) → Among (prefixes_used context list) p → (iri : Chars) × Fits context iri p
  used_fits p m =
      let found = Among_of_filter (contains same_prefix (used context list)) context p ((in_ordered (those_among (used context list) context) p).0 m) in
      let iri = Among_of_filter_map (prefix_of context) (flat_map iris_of list) p (Among_by_contains same_prefix exact_prefixes (used context list) p found.1) in
      (iri.0, prefix_fits context iri.0 p iri.2)

  pub used_there : (iri : Chars) (p : Prefix) → Among (flat_map iris_of list) iri → prefix_of context iri ≡ Some p → Among (prefixes_used context list) p
  used_there iri p m e =
      let among : Among (used context list) p = Among_filter_map (prefix_of context) (flat_map iris_of list) iri p m e in
      let there : Among (those_among (used context list) context) p = Among_filter (contains same_prefix (used context list)) context p (prefix_fits context iri p e).there (Among-contains same_prefix exact_prefixes (used context list) p among) in
      (in_ordered (those_among (used context list) context) p).1 there

-- a short form by a prefix of the context that is declared means by this prefix
abbrev pub Agree : Prefixes → Prefixes → Type 0
Agree context declared = (p : Prefix) (local : Chars) → Among context p → is_known declared (Short p.0 local) ≡ true → iri_at declared p.0 ≡ p.1

pub declared_agree : (context : Prefixes) → Apart context → (ps : Prefixes) → ((q : Prefix) → Among ps q → Among context q) → Agree context ps
declared_agree context apart [] of p local m k = absurd (true≢false (sym k))
declared_agree context apart (q ∷ ps) of p local m k = by_test (bytes_eq q.0 p.0)
    (λ e. rw e (ap (λ (z : Prefix). z.1) (one_of context apart p q m (of q (inl refl)) ((exact_texts q.0 p.0).0 e))))
    (λ e. rw e (declared_agree context apart ps (λ r n. of r (inr n)) p local m (rw e at k)))

-- what stands among prefixes is declared
pub known_there : (ps : Prefixes) (p : Prefix) (local : Chars) → Among ps p → is_known ps (Short p.0 local) ≡ true
known_there [] p local h = absurd h
known_there (q ∷ ps) p local (inl e) = or_left (bytes_eq q.0 p.0) _ ((exact_texts q.0 p.0).1 (ap (λ (z : Prefix). z.0) e))
known_there (q ∷ ps) p local (inr m) = or_right (bytes_eq q.0 p.0) _ (known_there ps p local m)

none_kept : (ps : Prefixes) → filter (λ (p : Prefix). false) ps ≡ []
none_kept [] = refl
none_kept (p ∷ ps) = none_kept ps

-- a text of nothing uses none
pub none_used : (context : Prefixes) → prefixes_used context [] ≡ []
none_used context = ap in_byte_order (none_kept context)

-- nothing is declared where no name is used
pub none_named : (context : Prefixes) → prefixes_named context [] ≡ []
none_named context = ap in_byte_order (none_kept context)
