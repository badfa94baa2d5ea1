-- Names that several pages have.
use Rattle.rx_many.proofs.Common.{◌≡◌, ◌⊎◌, ℕ, ◌+◌, ◌<◌, ◌≤◌, Bool, true, false, List, [], ◌∷◌, ◌++◌, map, take, length, slice_get, Some, refl, sym, ap, ◌∙◌, inl, inr, subst, true≢false, arith, rules, ⊎_elim, not, ◌||◌, if◌then◌else◌, map-append, slice_get_within, Chars, Among, IsExact, insert_key, one_more, name_of, Notes, AreApart}
use Rattle.rx_model.proofs.Common.{list_any, cases_lt, or-true, or_cases, Among_cases, Among_left, Among_right}
use Rattle.rx_terms.specs.contracts.iris.IriPartialEq.TheImpl as iri_impl
use Rattle.rx_many.specs.declared.pages.Page.{Page}

-- ---- keys and the list of them

abbrev pub iri_eq : Chars → Chars → Bool
iri_eq = (iri_impl.ghosts).eq

exact_iris : IsExact iri_eq
exact_iris a b = search rules

pub among_any : (list : List Chars) (a : Chars) → list_any (iri_eq a) list ≡ true → Among list a
among_any [] a h = absurd (true≢false (sym h))
among_any (x ∷ list) a h = elim (or_cases (iri_eq a x) (list_any (iri_eq a) list) h) [ inl e ↦ inl (sym ((exact_iris a x).0 e)) | inr k ↦ inr (among_any list a k) ]

pub any_among : (list : List Chars) (a : Chars) → Among list a → list_any (iri_eq a) list ≡ true
any_among [] a h = absurd h
any_among (x ∷ list) a (inl e) = ap (λ b. b || list_any (iri_eq a) list) ((exact_iris a x).1 (sym e))
any_among (x ∷ list) a (inr h) = ap (λ b. iri_eq a x || b) (any_among list a h) ∙ or-true (iri_eq a x)

pub not_among : (list : List Chars) (a : Chars) → list_any (iri_eq a) list ≡ false → Among list a → ⊥
not_among list a h m = true≢false (sym (any_among list a m) ∙ h)

pub stays : (list : List Chars) (a b : Chars) → Among list b → Among (insert_key iri_eq list a) b
stays list a b m = go (list_any (iri_eq a) list)
  where
    go : (t : Bool) → Among (if t then list else list ++ a ∷ []) b
    go true = m
    go false = Among_left list (a ∷ []) b m

pub comes : (list : List Chars) (a : Chars) → Among (insert_key iri_eq list a) a
comes list a = go (list_any (iri_eq a) list) refl
  where
    go : (t : Bool) → list_any (iri_eq a) list ≡ t → Among (if t then list else list ++ a ∷ []) a
    go true e = among_any list a e
    go false e = Among_right list (a ∷ []) a (inl refl)

pub noted_once : (seen shared more : List Chars) (name : Chars) (new : Bool) → more ≡ insert_key iri_eq seen name → new ≡ not (list_any (iri_eq name) seen) → new ≡ true → Notes seen shared name more shared
noted_once seen shared more name new e f is = record {
  known = λ other m. subst (λ (z : List Chars). Among z other) (sym e) (stays seen name other m);
  named = subst (λ (z : List Chars). Among z name) (sym e) (comes seen name);
  kept = λ other m. m;
  again = λ m. absurd (true≢false (sym is ∙ f ∙ ap not (any_among seen name m)));
}

pub noted_again : (seen shared more more_shared : List Chars) (name : Chars) → more ≡ insert_key iri_eq seen name → more_shared ≡ insert_key iri_eq shared name → Notes seen shared name more more_shared
noted_again seen shared more more_shared name e f = record {
  known = λ other m. subst (λ (z : List Chars). Among z other) (sym e) (stays seen name other m);
  named = subst (λ (z : List Chars). Among z name) (sym e) (comes seen name);
  kept = λ other m. subst (λ (z : List Chars). Among z other) (sym f) (stays shared name other m);
  again = λ m. subst (λ (z : List Chars). Among z name) (sym f) (comes shared name);
}

-- ---- the pages as far as a place

pub record NamesStand (seen shared : List Chars) (pages : List Page) (i : ℕ) : Type 0 where
  pub known : (name : Chars) → Among (map name_of (take i pages)) name → Among seen name
  pub apart : (k : ℕ) (page : Page) → k < i → slice_get pages k ≡ Some page → (Among shared (name_of page) → ⊥) → Among (map name_of (take k pages)) (name_of page) → ⊥

pub names_more : (seen shared more more_shared : List Chars) (pages : List Page) (i : ℕ) (page : Page) → NamesStand seen shared pages i → slice_get pages i ≡ Some page → Notes seen shared (name_of page) more more_shared
    → NamesStand more more_shared pages (i + 1)
names_more seen shared more more_shared pages i page s at n = record {
  known = λ name m. elim (Among_cases (map name_of (take i pages)) (name_of page ∷ []) name (subst (λ (z : List Chars). Among z name) names m)) [
    | inl h ↦ n.known name (s.known name h)
    | inr h ↦ elim h [ inl e ↦ subst (λ (z : Chars). Among more z) e n.named | inr none ↦ absurd none ]
  ];
  apart = λ k other below there own m. elim (before k below) [
    | inl h ↦ s.apart k other h there (λ a. own (n.kept (name_of other) a)) m
    | inr e ↦ (let same : page ≡ other = some_same (sym at ∙ ap (slice_get pages) (sym e) ∙ there) in
        own (subst (λ (z : Page). Among more_shared (name_of z)) same (n.again (s.known (name_of page) (subst (λ (z : Page). Among (map name_of (take i pages)) (name_of z)) (sym same) (subst (λ (j : ℕ). Among (map name_of (take j pages)) (name_of other)) e m))))))
  ];
}
  where
    names : map name_of (take (i + 1) pages) ≡ map name_of (take i pages) ++ name_of page ∷ []
    names = ap (map name_of) (one_more pages i page at) ∙ map-append name_of (take i pages) (page ∷ [])

    before : (k : ℕ) → k < i + 1 → (k < i) ⊎ (k ≡ i)
    before k h = ⊎_elim (λ l. inl l) (λ (m : i ≤ k). let same : k ≡ i = omega (arith, h, m) in inr same) (cases_lt k i)

    some_same : {a b : Page} → Some a ≡ Some b → a ≡ b
    some_same e = cc

pub names_end : (seen shared : List Chars) (pages : List Page) (i : ℕ) → NamesStand seen shared pages i → length pages ≤ i → AreApart shared pages
names_end seen shared pages i s whole k page at = s.apart k page (let within = slice_get_within pages k page at in omega (arith, within, whole)) at
