-- Where numbers stand in a list that grows and shrinks at its end.
use Rattle.rx_terms.proofs.Common.{by_test, ◌≡◌, ◌∙◌, ℕ, zero, suc, ◌<◌, ap, sym, refl, arith, Bool, true, false, Option, Some, None, List, [], ◌∷◌, ◌++◌, take, length, get_or, slice_get, append_assoc, append-nil, map, cond, nat_cmp, Result, OnOk, Ok, Err, ◌==◌, if◌then◌else◌, OnErr, is_eq, nat_tests}
use Rattle.std.specs.Option.{option_or, option_map}
use Rattle.std.proofs.lemmas.List.{map-append, length-map, get_or-map, same_from_push}
use Rattle.std.specs.Cmp.{unsigned_tied}
use Rattle.std.specs.BTreeMap.{BTreeMap, get}
use Rattle.rx_unique.specs.Places.{last_place, earlier_places, AreFiled}

-- one more number
pub last-more : (n : ℕ) (xs : List ℕ) (y : ℕ) → last_place n (xs ++ y ∷ []) ≡ (if y == n then Some (length xs) else last_place n xs)
last-more n [] y = refl
last-more n (x ∷ xs) y =
    ap (λ (o : Option ℕ). option_or (option_map suc o) (if x == n then Some 0 else None)) (last-more n xs y) ∙ more (y == n) where
      more : (b : Bool) → option_or (option_map suc (if b then Some (length xs) else last_place n xs)) (if x == n then Some 0 else None) ≡ (if b then Some (suc (length xs)) else last_place n (x ∷ xs))
      more true = refl
      more false = refl

pub earlier-more : (front xs : List ℕ) (y : ℕ) → earlier_places front (xs ++ y ∷ []) ≡ earlier_places front xs ++ last_place y (front ++ xs) ∷ []
earlier-more front [] y = ap (λ (f : List ℕ). last_place y f ∷ []) (sym (append-nil front))
earlier-more front (x ∷ xs) y =
    ap (λ (places : List (Option ℕ)). last_place x front ∷ places) (earlier-more (front ++ x ∷ []) xs y)
    ∙ ap (λ (f : List ℕ). last_place x front ∷ (earlier_places (front ++ x ∷ []) xs ++ last_place y f ∷ [])) (append_assoc front (x ∷ []) xs)

-- what is told at a place
pub earlier-at : (front xs : List ℕ) (k : ℕ) → k < length xs → (d : Option ℕ) → get_or (earlier_places front xs) k d ≡ last_place (get_or xs k 0) (front ++ take k xs)
earlier-at front [] k l d = absurd (omega (arith, l))
earlier-at front (x ∷ xs) zero l d = ap (last_place x) (sym (append-nil front))
earlier-at front (x ∷ xs) (suc k) l d = earlier-at (front ++ x ∷ []) xs k (omega (arith, l)) d ∙ ap (last_place (get_or xs k 0)) (append_assoc front (x ∷ []) (take k xs))

-- a place at which a number stands
pub last-within : (n : ℕ) (xs : List ℕ) (p : ℕ) → last_place n xs ≡ Some p → slice_get xs p ≡ Some n
last-within n [] p e = absurd (cc)
last-within n (x ∷ xs) p e = there (last_place n xs) refl (last-within n xs) where
  there : (o : Option ℕ) → last_place n xs ≡ o → ((q : ℕ) → last_place n xs ≡ Some q → slice_get xs q ≡ Some n) → slice_get (x ∷ xs) p ≡ Some n
  there None k ih =
      by_test (x == n) (λ t.
      let whole : Some 0 ≡ Some p = rw (k, t) at e in
      let is : 0 ≡ p = cc whole in
      let equal : x ≡ n = grind (arith, nat_tests) in
      rw (← is) (ap Some equal)) (λ t. let whole : None ≡ Some p = rw (k, t) at e in absurd (cc whole))
  there (Some q) k ih =
      let whole : Some (suc q) ≡ Some p = rw k at e in
      let is : suc q ≡ p = cc whole in
      rw (← is) (ih q k)

-- entries with one more at their end, and what is kept of both
module _ {A : Type 0} (number : A → ℕ) (before : A → Option ℕ) (items : List A) (x : A) (m n : BTreeMap ℕ ℕ) where
  pub filed-more :
      (more : List A) → more ≡ items ++ x ∷ []
      → AreFiled (map number items) (map before items) m
      → before x ≡ get nat_cmp m (number x)
      → ((q : ℕ) → get nat_cmp n q ≡ cond (is_eq (nat_cmp (number x) q)) (Some (length items)) (get nat_cmp m q))
      → AreFiled (map number more) (map before more) n
  filed-more more is filed old updates =
      let numbers : map number more ≡ map number items ++ number x ∷ [] = ap (map number) is ∙ map-append number items (x ∷ []) in
      let places : map before more ≡ map before items ++ before x ∷ [] = ap (map before) is ∙ map-append before items (x ∷ []) in
      let last : before x ≡ last_place (number x) (map number items) = old ∙ filed.told (number x) in
      record {
        before =
            places ∙ ap (λ (front : List (Option ℕ)). front ++ before x ∷ []) filed.before
            ∙ ap (λ (o : Option ℕ). earlier_places [] (map number items) ++ o ∷ []) last
            ∙ sym (ap (earlier_places []) numbers ∙ earlier-more [] (map number items) (number x));
        told = λ q.
            updates q ∙ ap (λ (b : Bool). cond b (Some (length items)) (get nat_cmp m q)) (unsigned_tied (number x) q)
            ∙ ap (λ (o : Option ℕ). cond (number x == q) (Some (length items)) o) (filed.told q)
            ∙ ap (λ (k : ℕ). cond (number x == q) (Some k) (last_place q (map number items))) (sym (length-map items number))
            ∙ sym (ap (last_place q) numbers ∙ last-more q (map number items) (number x));
      }

  -- before the last one was added
  pub filed-less :
      (all : List A) → all ≡ items ++ x ∷ []
      → AreFiled (map number all) (map before all) m
      → ((q : ℕ) → get nat_cmp n q ≡ cond (is_eq (nat_cmp (number x) q)) (before x) (get nat_cmp m q))
      → AreFiled (map number items) (map before items) n
  filed-less all is filed updates =
      let numbers : map number all ≡ map number items ++ number x ∷ [] = ap (map number) is ∙ map-append number items (x ∷ []) in
      let places : map before all ≡ map before items ++ before x ∷ [] = ap (map before) is ∙ map-append before items (x ∷ []) in
      let whole : map before items ++ before x ∷ [] ≡ earlier_places [] (map number items) ++ last_place (number x) (map number items) ∷ [] =
      sym places ∙ filed.before ∙ ap (earlier_places []) numbers ∙ earlier-more [] (map number items) (number x) in
      let ends = same_from_push _ _ _ _ whole in
      let last : before x ≡ last_place (number x) (map number items) = ends.1 in
      let stays : (q : ℕ) → get nat_cmp m q ≡ (if number x == q then Some (length (map number items)) else last_place q (map number items)) =
      λ q. filed.told q ∙ ap (last_place q) numbers ∙ last-more q (map number items) (number x) in
      record {
        before = ends.0;
        told = λ q.
            updates q ∙ ap (λ (b : Bool). cond b (before x) (get nat_cmp m q)) (unsigned_tied (number x) q)
            ∙ ap (λ (o : Option ℕ). cond (number x == q) o (get nat_cmp m q)) last
            ∙ ap (λ (o : Option ℕ). cond (number x == q) (last_place (number x) (map number items)) o) (stays q)
            ∙ same q (number x == q) refl;
      } where
        equal : (a b : ℕ) → (a == b) ≡ true → a ≡ b
        equal a b t = grind (arith, nat_tests)

        same : (q : ℕ) (b : Bool) → (number x == q) ≡ b → cond b (last_place (number x) (map number items)) (if b then Some (length (map number items)) else last_place q (map number items)) ≡ last_place q (map number items)
        same q true t = ap (λ (k : ℕ). last_place k (map number items)) (equal (number x) q t)
        same q false t = refl

  -- the last number is there
  pub filed-last : (all : List A) → all ≡ items ++ x ∷ [] → AreFiled (map number all) (map before all) m → get nat_cmp m (number x) ≡ Some (length items)
  filed-last all is filed =
      filed.told (number x) ∙ ap (last_place (number x)) (ap (map number) is ∙ map-append number items (x ∷ [])) ∙ last-more (number x) (map number items) (number x)
      ∙ ap (λ (b : Bool). if b then Some (length (map number items)) else last_place (number x) (map number items)) (equal (number x)) ∙ ap Some (length-map items number) where
        equal : (a : ℕ) → (a == a) ≡ true
        equal a = grind (arith, nat_tests)

-- what is kept at a place
pub told-at :
    {A : Type 0} (number : A → ℕ) (before : A → Option ℕ) (items : List A) (x : A) (m : BTreeMap ℕ ℕ)
    → AreFiled (map number items) (map before items) m
    → (numbers : List ℕ) → map number items ≡ numbers
    → (k : ℕ) → k < length numbers
    → x ≡ get_or items k x
    → before x ≡ last_place (get_or numbers k 0) (take k numbers)
told-at number before items x m filed numbers is k within at =
    let same : length numbers ≡ length items = ap (λ (l : List ℕ). length l) (sym is) ∙ length-map items number in
    let inside : k < length items = omega (arith, within, same) in
    let reads : before x ≡ get_or (map before items) k (before x) = ap before at ∙ sym (get_or-map before items k x (before x) inside) in
    reads ∙ ap (λ (places : List (Option ℕ)). get_or places k (before x)) (filed.before ∙ ap (earlier_places []) is) ∙ earlier-at [] numbers k within (before x)

-- what can't fail
pub certain : {T E : Type 0} (r : Result T E) (o : Option ℕ) (p : ℕ) (P : Type 0) → OnOk r P → OnErr r (o ≡ None) → o ≡ Some p → P
certain (Ok x) o p P ok err is = ok
certain (Err x) o p P ok err is = absurd (cc)
