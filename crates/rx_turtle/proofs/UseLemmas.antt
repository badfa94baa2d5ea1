-- Which prefixes are used.
use Rattle.rx_turtle.proofs.Common.{◌≡◌, ◌∙◌, ℕ, zero, suc, ◌+◌, ◌<◌, ◌≤◌, Bool, true, false, List, [], ◌∷◌, ◌++◌, map, filter, filter_map, flat_map, length, take, slice_get, slice_set, Option, Some, None, refl, sym, ap, ap₂, subst, inl, inr, arith, cond, ◌||◌, take_all, length-map, or_right, Chars, Among, contains, Triple, Among_cases, false_unless, Prefix, Prefixes, prefix_of, names_rise, iris_of, used, same_prefix, prefixes_used, Apart, names_apart, exact_prefixes, rising, prefix_place, IsPlace, marked, marked_all, unmarked, used_marks, chosen}
use Rattle.rx_terms.proofs.Bools.{by_test}
use Rattle.rx_shapes.proofs.RowLemmas.{among_get}
use Rattle.rx_turtle.proofs.Finding.{place_is}
use Rattle.rx_turtle.proofs.GroupLemmas.{mapped_more}
use Rattle.rx_turtle.proofs.LineLemmas.{flat_map_last}

-- ---- the loop over the triples

pub marked_both : (context : Prefixes) (marks : List Bool) (xs ys : List Chars) → marked_all context marks (xs ++ ys) ≡ marked_all context (marked_all context marks xs) ys
marked_both context marks [] ys = refl
marked_both context marks (x ∷ xs) ys = marked_both context (marked marks (prefix_place context x)) xs ys

-- the first of some things are looked at: the IRIs of each are marked, and each is fine
module _ {A B : Type 0} (seen : A → B) (Fine : B → Type 0) where
  abbrev pub AllFine : List A → Type 0
  AllFine list = (b : B) → Among (map seen list) b → Fine b

  pub fine_more : (list : List A) (i : ℕ) (a : A) → slice_get list i ≡ Some a → Fine (seen a) → AllFine (take i list) → AllFine (take (i + 1) list)
  fine_more list i a at fine h b m = elim (Among_cases (map seen (take i list)) (seen a ∷ []) b (subst (λ (z : List B). Among z b) (mapped_more seen list i a at) m)) [
    | inl k ↦ h b k
    | inr k ↦ elim k [ inl e ↦ subst Fine e fine | inr n ↦ absurd n ]
  ]

  pub fine_end : (list : List A) (i : ℕ) → length list ≤ i → AllFine (take i list) → AllFine list
  fine_end list i past h b m = h b (subst (λ (z : List A). Among (map seen z) b) (sym (take_all i list past)) m)

  module _ (iris : B → List Chars) (context : Prefixes) (start : List Bool) where
    pub record Looked (now : List Bool) (list : List A) (i : ℕ) : Type 0 where
      pub marks : now ≡ marked_all context start (flat_map iris (map seen (take i list)))
      pub fine : AllFine (take i list)

    pub looked_start : (list : List A) → Looked start list 0
    looked_start list = record { marks = refl; fine = λ b m. absurd m }

    pub looked_more : (now next : List Bool) (list : List A) (i : ℕ) (a : A) → slice_get list i ≡ Some a → next ≡ marked_all context now (iris (seen a)) → Fine (seen a)
        → Looked now list i → Looked next list (i + 1)
    looked_more now next list i a at turn fine h = record {
      marks =
          turn ∙ ap (λ z. marked_all context z (iris (seen a))) h.marks ∙ sym (marked_both context start (flat_map iris (map seen (take i list))) (iris (seen a)))
          ∙ ap (marked_all context start) (sym (ap (flat_map iris) (mapped_more seen list i a at) ∙ flat_map_last iris (map seen (take i list)) (seen a)));
      fine = fine_more list i a at fine h.fine;
    }

    pub looked_marks : (now : List Bool) (list : List A) (i : ℕ) → length list ≤ i → Looked now list i → now ≡ marked_all context start (flat_map iris (map seen list))
    looked_marks now list i past h = h.marks ∙ ap (λ (z : List A). marked_all context start (flat_map iris (map seen z))) (take_all i list past)

-- ---- no marks

none_more : (context : Prefixes) (n : ℕ) → n < length context → unmarked (take (n + 1) context) ≡ unmarked (take n context) ++ false ∷ []
none_more [] n h = absurd (omega (arith, h))
none_more (p ∷ context) zero h = refl
none_more (p ∷ context) (suc n) h =
    let up : suc n + 1 ≡ suc (n + 1) = omega arith in
    ap (λ m. unmarked (take m (p ∷ context))) up ∙ ap (λ z. false ∷ z) (none_more context n (omega (arith, h)))

pub unmarked_turn : (context : Prefixes) (n : ℕ) (old new : List Bool) → n < length context → new ≡ old ++ false ∷ [] → old ≡ unmarked (take n context) → new ≡ unmarked (take (n + 1) context)
unmarked_turn context n old new within grows h = grows ∙ ap (λ z. z ++ false ∷ []) h ∙ sym (none_more context n within)

-- ---- what the marks are

module _ {A B : Type 0} where
  pub map_same : (f g : A → B) (list : List A) → ((a : A) → Among list a → f a ≡ g a) → map f list ≡ map g list
  map_same f g [] h = refl
  map_same f g (x ∷ list) h = ap₂ ◌∷◌ (h x (inl refl)) (map_same f g list (λ a m. h a (inr m)))

or_false : (b : Bool) → b ≡ (b || false)
or_false true = refl
or_false false = refl

or_assoc : (a b c : Bool) → ((a || b) || c) ≡ (a || (b || c))
or_assoc true b c = refl
or_assoc false b c = refl

unlike : (p q : Prefix) → (p.0 ≡ q.0 → ⊥) → same_prefix q p ≡ false
unlike p q apart = false_unless (same_prefix q p) (λ h. apart (ap (λ (z : Prefix). z.0) (sym ((exact_prefixes q p).0 h))))

one_mark : (f : Prefix → Bool) (context : Prefixes) (i : ℕ) (q : Prefix) → Apart context → slice_get context i ≡ Some q → slice_set (map f context) i true ≡ map (λ (p : Prefix). f p || same_prefix q p) context
one_mark f [] i q apart at = absurd (cc)
one_mark f (p ∷ context) zero q apart at =
    let same : p ≡ q = cc in
    ap₂ ◌∷◌ (sym (or_right (f p) (same_prefix q p) ((exact_prefixes q p).1 (sym same))))
    (map_same f (λ (r : Prefix). f r || same_prefix q r) context (λ r m. or_false (f r) ∙ ap (λ b. f r || b) (sym (unlike r q (λ e. apart.0 r m (ap (λ (z : Prefix). z.0) same ∙ sym e))))))
one_mark f (p ∷ context) (suc i) q apart at =
    ap₂ ◌∷◌ (or_false (f p) ∙ ap (λ b. f p || b) (sym (unlike p q (apart.0 q (among_get context i q at))))) (one_mark f context i q apart.1 at)

module _ (context : Prefixes) (rise : names_rise context ≡ true) where
  apart : Apart context
  apart = names_apart context (rising.once context rise)

  abbrev said_by : List Chars → Prefixes
  said_by iris = filter_map (prefix_of context) iris

  all_marks : (iris : List Chars) (f : Prefix → Bool) → marked_all context (map f context) iris ≡ map (λ (p : Prefix). f p || contains same_prefix (said_by iris) p) context
  all_marks [] f = map_same f (λ (p : Prefix). f p || false) context (λ p m. or_false (f p))
  all_marks (iri ∷ more) f = go (prefix_place context iri) (place_is context iri rise) (all_marks more)
    where
      go : (o : Option ℕ) → IsPlace context (prefix_of context iri) o → ((g : Prefix → Bool) → marked_all context (map g context) more ≡ map (λ (p : Prefix). g p || contains same_prefix (said_by more) p) context)
          → marked_all context (marked (map f context) o) more ≡ map (λ (p : Prefix). f p || contains same_prefix (said_by (iri ∷ more)) p) context
      go None is ih = rw is (ih f)
      go (Some i) (q, at, is) ih =
          rw is (ap (λ z. marked_all context z more) (one_mark f context i q apart at) ∙ ih (λ (p : Prefix). f p || same_prefix q p)
          ∙ map_same (λ (p : Prefix). (f p || same_prefix q p) || contains same_prefix (said_by more) p) (λ (p : Prefix). f p || (same_prefix q p || contains same_prefix (said_by more) p)) context
          (λ p m. or_assoc (f p) (same_prefix q p) (contains same_prefix (said_by more) p)))

  chosen_are : (f : Prefix → Bool) (ps : Prefixes) → chosen (map f ps) ps ≡ filter f ps
  chosen_are f [] = refl
  chosen_are f (p ∷ ps) = let rest = chosen_are f ps in by_test (f p) (λ e. rw e (ap (λ z. p ∷ z) rest)) (λ e. rw e rest)

  marks_are : (list : List (Triple ℕ)) → used_marks context list ≡ map (contains same_prefix (used context list)) context
  marks_are list = all_marks (flat_map iris_of list) (λ (p : Prefix). false)

  -- those that are marked are the prefixes of the text
  pub chosen_used : (list : List (Triple ℕ)) → chosen (used_marks context list) context ≡ prefixes_used context list
  chosen_used list = ap (λ z. chosen z context) (marks_are list) ∙ chosen_are (contains same_prefix (used context list)) context ∙ sym (rising.in_order context list rise)

  pub marks_size : (list : List (Triple ℕ)) → length (used_marks context list) ≡ length context
  marks_size list = ap length (marks_are list) ∙ length-map context (contains same_prefix (used context list))
