-- Lists that grow by what they lack.
use Rattle.rx_model.proofs.Common.{◌≡◌, Bool, true, false, ◌≤◌, List, [], ◌∷◌, ◌++◌, map, filter, refl, sym, ap, ap₂, ◌∙◌, inl, inr, true≢false, nat_eq, ℕ, append-nil, Result, Ok, Err, is_err, IfOk, suc, ◌+◌, take, length, slice_get, slice_set, get_or, zero, ◌<◌, Option, None, Some, arith, not, ◌||◌, ◌&&◌, if◌then◌else◌, is_ok, IfSome, slice_get_within, get_or_from_slice_get, filter-append, map-append, length-map, same_truth, by_test, take-suc, Among, IsExact, contains, distinct, with_one, same_triple, triple_seen, triples_seen, Among_of_distinct, and_left, and_right, exact_numbers, exact_triples}
use Rattle.std.specs.List.{AllByRecursion, list_any, IsDistinct}
use Rattle.std.proofs.lemmas.List.Filters.{length-filter_both}
use Rattle.rx_unique.specs.Unique.{insert_key}
use Rattle.rx_terms.specs.declared.triples.Triple.{Triple as CodeTriple}
use Rattle.rx_model.proofs.Seen.{triple_tells, list_tells}
use Rattle.rx_graph.specs.Graph.{IsNumbered}
use Rattle.rx_graph.specs.Rows.{pushed}

-- ---- a set of the code and its list in the model

module _ {A B : Type 0} (seen : A → B) (eq : A → A → Bool) (same : B → B → Bool) (agrees : (a b : A) → eq a b ≡ same (seen b) (seen a)) where
  pub any_seen : (list : List A) (a : A) → list_any (eq a) list ≡ contains same (map seen list) (seen a)
  any_seen [] a = refl
  any_seen (x ∷ list) a = ap₂ ◌||◌ (agrees a x) (any_seen list a)

  pub insert_seen : (list : List A) (a : A) → map seen (insert_key eq list a) ≡ with_one same (map seen list) (seen a)
  insert_seen list a = by_test (list_any (eq a) list) (λ e. rw (sym (any_seen list a) ∙ e, e) refl) (λ e. rw (sym (any_seen list a) ∙ e, e) (map-append seen list (a ∷ [])))

triples_agree : (eq : CodeTriple → CodeTriple → Bool) → IsExact eq → (a b : CodeTriple) → eq a b ≡ same_triple nat_eq (triple_seen b) (triple_seen a)
triples_agree eq exact a b =
    let model = exact_triples nat_eq exact_numbers (triple_seen b) (triple_seen a) in
    same_truth (eq a b) (same_triple nat_eq (triple_seen b) (triple_seen a))
    (λ h. model.1 (ap triple_seen (sym ((exact a b).0 h))))
    (λ h. (exact a b).1 (sym (triple_tells b a (model.0 h))))

pub added_seen : (eq : CodeTriple → CodeTriple → Bool) → IsExact eq → (list : List CodeTriple) (t : CodeTriple) → triples_seen (insert_key eq list t) ≡ with_one (same_triple nat_eq) (triples_seen list) (triple_seen t)
added_seen eq exact list t = insert_seen triple_seen eq (same_triple nat_eq) (triples_agree eq exact) list t

-- ---- `distinct` from left to right

module _ {A : Type 0} (same : A → A → Bool) (exact : IsExact same) where
  -- what is unlike x is among those that are unlike x
  contains_filter : (x a : A) → same x a ≡ false → (list : List A) → contains same (filter (λ y. not (same x y)) list) a ≡ contains same list a
  contains_filter x a h [] = refl
  contains_filter x a h (y ∷ list) =
      let rest = contains_filter x a h list in
      by_test (same x y) (λ e. rw e (rest ∙ ap (λ b. b || contains same list a) (sym h ∙ ap (λ z. same z a) ((exact x y).0 e)))) (λ e. rw e (ap (λ b. same y a || b) rest))

  pub distinct_grows : (list : List A) (a : A) → distinct same (list ++ a ∷ []) ≡ with_one same (distinct same list) a
  distinct_grows [] a = refl
  distinct_grows (x ∷ list) a =
      let rest : List A = distinct same list in
      ap (λ z. x ∷ filter (λ y. not (same x y)) z) (distinct_grows list a) ∙ by_test (same x a)
      (λ e. by_test (contains same rest a) (λ f. rw (e, f) refl) (λ f. rw (e, f) (ap (λ z. x ∷ z) (filter-append (λ y. not (same x y)) rest (a ∷ []) ∙ rw e (append-nil (filter (λ y. not (same x y)) rest))))))
      (λ e. by_test (contains same rest a) (λ f. rw (e, f, contains_filter x a e rest ∙ f) refl)
      (λ f. rw (e, f, contains_filter x a e rest ∙ f) (ap (λ z. x ∷ z) (filter-append (λ y. not (same x y)) rest (a ∷ []) ∙ rw e refl))))

-- what holds of a result that is no error
pub of_ok : {A E P : Type 0} (r : Result A E) → is_err r ≡ false → IfOk r (λ a. P) → P
of_ok (Ok a) e h = h
of_ok (Err x) e h = absurd (true≢false e)

-- what holds of an option that is something
pub of_some : {A P : Type 0} (o : Option A) (a : A) → o ≡ Some a → IfSome o (λ x. P) → P
of_some None a e h = absurd (cc)
of_some (Some x) a e h = h

-- ---- a list as far as a place

pub one_more : {A : Type 0} (list : List A) (i : ℕ) (a : A) → slice_get list i ≡ Some a → take (i + 1) list ≡ take i list ++ a ∷ []
one_more list i a at =
    ap (λ n. take n list) (one_up i) ∙ take-suc list i a (slice_get_within list i a at) ∙ ap (λ z. take i list ++ z ∷ []) (get_or_from_slice_get list i a a at)
  where
    one_up : (n : ℕ) → n + 1 ≡ suc n
    one_up n = omega arith

pub seen_more : (list : List CodeTriple) (i : ℕ) (t : CodeTriple) → slice_get list i ≡ Some t → triples_seen (take (i + 1) list) ≡ triples_seen (take i list) ++ triple_seen t ∷ []
seen_more list i t at = ap triples_seen (one_more list i t at) ∙ map-append triple_seen (take i list) (t ∷ [])

-- ---- where a function tells its arguments apart

module _ {A B : Type 0} (same : A → A → Bool) (exact : IsExact same) (same' : B → B → Bool) (exact' : IsExact same') (f : A → B) where
  others_map : (x : A) (list : List A) → ((y : A) → Among list y → f x ≡ f y → x ≡ y) → filter (λ y. not (same' (f x) y)) (map f list) ≡ map f (filter (λ y. not (same x y)) list)
  others_map x [] h = refl
  others_map x (y ∷ list) h =
      let rest = others_map x list (λ z m. h z (inr m)) in
      let alike = same_truth (same' (f x) (f y)) (same x y) (λ e. (exact x y).1 (h y (inl refl) ((exact' (f x) (f y)).0 e))) (λ e. (exact' (f x) (f y)).1 (ap f ((exact x y).0 e))) in
      by_test (same x y) (λ e. rw (alike, e) rest) (λ e. rw (alike, e) (ap (λ z. f y ∷ z) rest))

  pub distinct_apart : (list : List A) → ((x y : A) → Among list x → Among list y → f x ≡ f y → x ≡ y) → distinct same' (map f list) ≡ map f (distinct same list)
  distinct_apart [] h = refl
  distinct_apart (x ∷ list) h = ap (λ z. f x ∷ filter (λ y. not (same' (f x) y)) z) (distinct_apart list (λ y z m n. h y z (inr m) (inr n)))
      ∙ ap (λ z. f x ∷ z) (others_map x (distinct same list) (λ y m e. h x y (inl refl) (inr (Among_of_distinct same list y m)) e))

-- ---- where each stands once

module _ {A : Type 0} (eq : A → A → Bool) where
  others_stay : (a : A) (list : List A) → AllByRecursion (λ y. eq a y ≡ false) list → filter (λ y. not (eq a y)) list ≡ list
  others_stay a [] h = refl
  others_stay a (x ∷ list) h = rw h.0 (ap (λ z. x ∷ z) (others_stay a list h.1))

  each_once : (list : List A) → IsDistinct eq list → distinct eq list ≡ list
  unfolding IsDistinct
  each_once [] h = refl
  each_once (x ∷ list) h = ap (λ z. x ∷ filter (λ y. not (eq x y)) z) (each_once list h.1) ∙ ap (λ z. x ∷ z) (others_stay x list h.0)

pub graph_once : (eq : CodeTriple → CodeTriple → Bool) → IsExact eq → (list : List CodeTriple) → IsDistinct eq list → distinct (same_triple nat_eq) (triples_seen list) ≡ triples_seen list
graph_once eq exact list h =
    distinct_apart eq exact (same_triple nat_eq) (exact_triples nat_eq exact_numbers) triple_seen list (λ x y m n e. triple_tells x y e) ∙ ap triples_seen (each_once eq list h)

-- ---- a row that grows

pub row_pushed : {V : Type 0} (items : V → List ℕ) (rows : List V) (i : ℕ) (d new : V) (number : ℕ) → i < length rows → items new ≡ items (get_or rows i d) ++ number ∷ [] → map items (slice_set rows i new) ≡ pushed (map items rows) i number
row_pushed items [] i d new number h e = absurd (omega arith)
row_pushed items (row ∷ rows) zero d new number h e = ap (λ z. z ∷ map items rows) e
row_pushed items (row ∷ rows) (suc i) d new number h e = ap (λ z. items row ∷ z) (row_pushed items rows i d new number (omega arith) e)

pub row_grown : {V A E : Type 0} (items : V → List ℕ) (r : Result A E) (old new row : V) (number : ℕ) → is_err r ≡ false
    → items new ≡ (if is_ok r then items old ++ number ∷ [] else items old) → old ≡ row → items new ≡ items row ++ number ∷ []
row_grown items (Ok a) old new row number e h k = h ∙ ap (λ z. items z ++ number ∷ []) k
row_grown items (Err x) old new row number e h k = absurd (true≢false e)

pub row_refused : {V A E : Type 0} (items : V → List ℕ) (r : Result A E) (old new row : V) (number : ℕ) → is_err r ≡ true
    → items new ≡ (if is_ok r then items old ++ number ∷ [] else items old) → old ≡ row → items new ≡ items row
row_refused items (Ok a) old new row number e h k = absurd (true≢false (sym e))
row_refused items (Err x) old new row number e h k = h ∙ ap items k

-- ---- a list that loses none

filter_shorter : {A : Type 0} (p : A → Bool) (list : List A) → length (filter p list) ≤ length list
filter_shorter p list = let both = length-filter_both p (λ x. not (p x)) (λ x. refl) list in omega (arith, both)

filter_whole : {A : Type 0} (p : A → Bool) (list : List A) → length (filter p list) ≡ length list → filter p list ≡ list
filter_whole p [] e = refl
filter_whole p (x ∷ list) e =
    let shorter = filter_shorter p list in
    by_test (p x) (λ y. let all : length (x ∷ filter p list) ≡ suc (length list) = rw y at e in rw y (ap (λ z. x ∷ z) (filter_whole p list (omega (arith, all)))))
    (λ n. let all : length (filter p list) ≡ suc (length list) = rw n at e in absurd (omega (arith, shorter, all)))

module _ {A : Type 0} (same : A → A → Bool) where
  distinct_shorter : (list : List A) → length (distinct same list) ≤ length list
  distinct_shorter [] = omega arith
  distinct_shorter (x ∷ list) =
      let first : length (filter (λ y. not (same x y)) (distinct same list)) ≤ length (distinct same list) = filter_shorter (λ y. not (same x y)) (distinct same list) in
      let rest : length (distinct same list) ≤ length list = distinct_shorter list in
      omega (arith, first, rest)

  distinct_whole : (list : List A) → length (distinct same list) ≡ length list → distinct same list ≡ list
  distinct_whole [] e = refl
  distinct_whole (x ∷ list) e =
      let first : length (filter (λ y. not (same x y)) (distinct same list)) ≤ length (distinct same list) = filter_shorter (λ y. not (same x y)) (distinct same list) in
      let rest : length (distinct same list) ≤ length list = distinct_shorter list in
      let all : suc (length (filter (λ y. not (same x y)) (distinct same list))) ≡ suc (length list) = e in
      ap (λ z. x ∷ z) (filter_whole (λ y. not (same x y)) (distinct same list) (omega (arith, first, rest, all)) ∙ distinct_whole list (omega (arith, first, rest, all)))

-- where the graph of a list is as long as the list, its blank nodes are numbered if those of the list are
pub still_numbered : (list set : List CodeTriple) (known whole : Bool) → triples_seen set ≡ distinct (same_triple nat_eq) (triples_seen list)
    → (whole ≡ true → length set ≡ length list) → (known ≡ true → IsNumbered (triples_seen list)) → (known && whole) ≡ true → IsNumbered (triples_seen set)
still_numbered list set known whole is long numbered both =
    let as_long : length (distinct (same_triple nat_eq) (triples_seen list)) ≡ length (triples_seen list) =
    ap length (sym is) ∙ length-map set triple_seen ∙ long (and_right known whole both) ∙ sym (length-map list triple_seen) in
    rw (is ∙ distinct_whole (same_triple nat_eq) (triples_seen list) as_long) (numbered (and_left known whole both))

-- ---- a copy

pub copy_is : (list source graph : List CodeTriple) → triples_seen graph ≡ distinct (same_triple nat_eq) (triples_seen source) → source ≡ list
    → distinct (same_triple nat_eq) (triples_seen list) ≡ triples_seen list → graph ≡ list
copy_is list source graph is same once = list_tells graph list (is ∙ ap (λ z. distinct (same_triple nat_eq) (triples_seen z)) same ∙ once)
