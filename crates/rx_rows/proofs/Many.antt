-- The first fault of many items in a row.
use Rattle.rx_rdfa.proofs.Common.{not, ◌&&◌, ◌==◌, nat_le, ◌≡◌, ℕ, zero, suc, ◌+◌, ◌<◌, Bool, true, false, cond, List, [], ◌∷◌, ◌++◌, map, filter, flat_map, Contains, Option, Some, None, list_any, refl, sym, ap, subst, ◌∙◌, leb-true, le-leb, false_from_ne_true, Chars, inl, inr, arith, Kind, ItemsTooMany, end, element}
use Rattle.std.specs.Option.{option_or, option_map}
use Rattle.rx_microdata.specs.Elements.{Placed, placed_from, elements_of, is_item, names_of, is_top_level, count}
use Rattle.rx_microdata.specs.Properties.{is_any, is_property, starts_of, properties, reaches}
use Rattle.rx_microdata.specs.Facts.{facts_of}
use Rattle.rx_microdata.specs.Base.{base_in}
use Rattle.rx_microdata.specs.Visits.{Visit, standard_bounds, first_fault, visits_from, visits_to}
use Rattle.rx_microdata.specs.Json.{Outcome, Refused, Given, refused, json_of, outcome_of}
use Rattle.rx_rows.specs.Pages.{here}
use Rattle.rx_rows.specs.Many.{tag_at, many, html, ManyRefuse}
use Rattle.rx_microdata.proofs.Lists.{first_or_later, later, none}

-- no element of the page has a name
unnamed_rest : (scope : Option ℕ) (place k n : ℕ) (e : Placed) → Contains (placed_from scope place (many k n)) e → is_any (names_of e) ≡ false
unnamed_rest scope place k zero e h = none e h
unnamed_rest scope place k (suc n) e h = elim (first_or_later _ e _ h) as (λ _. is_any (names_of e) ≡ false) [
  | inl same ↦ ap (λ (x : Placed). is_any (names_of x)) (sym same)
  | inr l ↦ unnamed_rest scope (suc place + 0) (suc k) n e l
]

nothing_kept : {X : Type 0} (p : X → Bool) (xs : List X) → ((z : X) → Contains xs z → p z ≡ false) → filter p xs ≡ []
nothing_kept p [] f = refl
nothing_kept p (x ∷ xs) f = ap (λ b. cond b (x ∷ filter p xs) (filter p xs)) (f x (0, omega arith, refl)) ∙ nothing_kept p xs (λ z h. f z (later x z xs h))

fails : (a b c : Bool) → b ≡ false → (a && b && c) ≡ false
fails true b c e = ap (λ x. x && c) e
fails false b c e = refl

alone : (page : List Placed) (root : Placed) → ((e : Placed) → Contains page e → is_any (names_of e) ≡ false) → visits_from (properties page) 41 [] root ≡ (root ∷ []) ∷ []
alone page root f =
    let e : properties page root ≡ [] = nothing_kept (is_property page root (starts_of page root)) page (λ z h. fails (not (root.place == z.place)) (is_any (names_of z)) (list_any (reaches page z) (starts_of page root)) (f z h)) in
    ap (λ (ps : List Placed). (root ∷ []) ∷ flat_map (visits_from (properties page) 40 (root ∷ [])) (flat_map (λ e. map (λ name. e) (names_of e)) (filter is_item ps))) e

module _ (page : List Placed) (unnamed : (e : Placed) → Contains page e → is_any (names_of e) ≡ false) (scope : Option ℕ) where
  abbrev found_of : ℕ → ℕ → ℕ → Option (Kind × Visit)
  found_of place k n = first_fault standard_bounds k (flat_map (visits_from (properties page) 41 []) (filter is_top_level (placed_from scope place (many k n))))

  abbrev placed_at : ℕ → ℕ → Placed
  placed_at place k = record { place = place; past = suc place + 0; scope = scope; facts = facts_of (tag_at k) end }

  -- the visit before which k stand
  at_first : (place k n : ℕ) → found_of place k (suc n) ≡ cond (nat_le 100000 k) (Some (ItemsTooMany, placed_at place k ∷ [])) (found_of (suc place + 0) (suc k) n)
  at_first place k n =
      ap (λ vs. first_fault standard_bounds k (vs ++ flat_map (visits_from (properties page) 41 []) (filter is_top_level (placed_from scope (suc place + 0) (many (suc k) n))))) (alone page (placed_at place k) unnamed)
      ∙ by (nat_le 100000 k) (found_of (suc place + 0) (suc k) n)
    where
      by : (b : Bool) (o : Option (Kind × Visit)) → option_or (option_map (λ (kind : Kind). (kind, placed_at place k ∷ [])) (cond b (Some ItemsTooMany) None)) o ≡ cond b (Some (ItemsTooMany, placed_at place k ∷ [])) o
      by true o = refl
      by false o = refl

  -- with j to go until 100,000 visits stand before
  reached : (j place k n : ℕ) → j + k ≡ 100000 → j < n → (p : ℕ) × (found_of place k n ≡ Some (ItemsTooMany, placed_at p 100000 ∷ []))
  reached j place k zero e l = absurd (omega arith)
  reached zero place k (suc n) e l =
      let same : k ≡ 100000 = omega arith in
      let yes : nat_le 100000 k ≡ true = le-leb 100000 k (omega arith) in
      (place, at_first place k n ∙ ap (λ b. cond b (Some (ItemsTooMany, placed_at place k ∷ [])) (found_of (suc place + 0) (suc k) n)) yes ∙ ap (λ m. Some (ItemsTooMany, placed_at place m ∷ [])) same)
  reached (suc j) place k (suc n) e l =
      let no : nat_le 100000 k ≡ false = false_from_ne_true (nat_le 100000 k) (λ t. let q = leb-true 100000 k t in omega (arith, q, e)) in
      let more = reached j (suc place + 0) (suc k) n (omega arith) (omega arith) in
      (more.0, at_first place k n ∙ ap (λ b. cond b (Some (ItemsTooMany, placed_at place k ∷ [])) (found_of (suc place + 0) (suc k) n)) no ∙ more.1)

module _ (n : ℕ) (enough : 100000 < n) (base : Chars) where
  abbrev root : Placed
  root = record { place = 0; past = 1 + count (many 0 n); scope = None; facts = facts_of html (many 0 n) }

  abbrev page_of : List Placed
  page_of = elements_of (element html (many 0 n) end)

  rest_is : (xs : List Placed) → xs ++ [] ≡ xs
  rest_is [] = refl
  rest_is (x ∷ xs) = ap (λ l. x ∷ l) (rest_is xs)

  all_unnamed : (e : Placed) → Contains page_of e → is_any (names_of e) ≡ false
  all_unnamed e h = elim (first_or_later root e (placed_from None 1 (many 0 n) ++ []) h) as (λ _. is_any (names_of e) ≡ false) [
    | inl same ↦ ap (λ (x : Placed). is_any (names_of x)) (sym same)
    | inr l ↦ unnamed_rest None 1 0 n e (subst (λ xs. Contains xs e) (rest_is (placed_from None 1 (many 0 n))) l)
  ]

  fault : (p : ℕ) × (first_fault standard_bounds 0 (visits_to page_of standard_bounds) ≡ Some (ItemsTooMany, placed_at page_of all_unnamed None p 100000 ∷ []))
  fault =
      let w = reached page_of all_unnamed None 100000 1 0 n (omega arith) enough in
      (w.0, ap (λ xs. first_fault standard_bounds 0 (flat_map (visits_from (properties page_of) 41 []) (filter is_top_level xs))) (rest_is (placed_from None 1 (many 0 n))) ∙ w.1)

  pub given_n : outcome_of standard_bounds page_of base ≡ Refused (record { kind = ItemsTooMany; token = 1700006; at = 1700018 })
  given_n = ap (λ (found : Option (Kind × Visit)). elim found as (λ _. Outcome) [ None ↦ Given (json_of page_of base 40) | Some it ↦ refused it.0 it.1 ]) fault.1

pub many_refuse : ManyRefuse
many_refuse = given_n 100001 (omega arith) (base_in here (element html (many 0 100001) end))
