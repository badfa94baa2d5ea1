-- The rows of a tree are its elements that matter, renumbered.
use Rattle.rx_items.proofs.Common.{⊤, ◌==◌, ◌≡◌, ℕ, zero, suc, ◌+◌, ◌≤◌, Bool, true, false, nat_lt, cond, List, [], ◌∷◌, ◌++◌, map, filter, length, Contains, Option, option_map, refl, sym, ap, subst, ◌∙◌, ltb-true, lt-ltb, eq-eqb, cases_lt, eqb-true, filter-append, inl, inr, arith, Tree, end, element, text, begins_item, facts_of, Placed, count, scope_in, placed_from, none, three, bool_same, matters, needed, behind_row, row_count, with_row, rows_from}
use Rattle.std.proofs.lemmas.List.{map-append, length-append, append_assoc}
use Rattle.rx_terms.proofs.Bools.{by_test}
use Rattle.rx_model.proofs.Common.{⊎_elim}
use Rattle.rx_items.specs.Ranks.{marks, rank_in}
use Rattle.rx_items.proofs.Alike.{moved}

abbrev pub is_row : Placed → Bool
is_row e = matters e.facts

behind_more : (b : Bool) (m n : ℕ) → m ≤ n → behind_row b m ≤ behind_row b n
behind_more true m n h = omega (arith, h)
behind_more false m n h = h

pub rank_rises : (ms : List Bool) (p q : ℕ) → p ≤ q → rank_in ms p ≤ rank_in ms q
rank_rises [] p q h = omega arith
rank_rises (m ∷ ms) zero q h = omega arith
rank_rises (m ∷ ms) (suc p) zero h = absurd (omega (arith, h))
rank_rises (m ∷ ms) (suc p) (suc q) h = behind_more m (rank_in ms p) (rank_in ms q) (rank_rises ms p q (omega (arith, h)))

behind_zero : (m : Bool) (ms : List Bool) → behind_row m (rank_in ms 0) ≡ behind_row m 0
behind_zero m [] = refl
behind_zero m (x ∷ ms) = refl

behind_twice : (b c : Bool) (n : ℕ) → behind_row b (behind_row c n) ≡ behind_row c (behind_row b n)
behind_twice true true n = refl
behind_twice _ _ n = refl

rank_there : (front : List Bool) (m : Bool) (back : List Bool)
    → rank_in (front ++ (m ∷ back)) (suc (length front)) ≡ behind_row m (rank_in (front ++ (m ∷ back)) (length front))
rank_there [] m back = behind_zero m back
rank_there (x ∷ front) m back =
    ap (behind_row x) (rank_there front m back) ∙ behind_twice x m (rank_in (front ++ (m ∷ back)) (length front))

module _ (rank : ℕ → ℕ) where
  -- the numbers count the rows of these nodes
  abbrev pub Ranks : ℕ → Tree → Type 0
  Ranks place end = ⊤
  Ranks place (element tag inner more) =
      (rank (suc place) ≡ behind_row (matters (facts_of tag inner)) (rank place)) × Ranks (suc place) inner × Ranks (suc place + count inner) more
  Ranks place (text chars more) = Ranks place more

  behind_sum : (b : Bool) (p i m : ℕ) → behind_row b p + i + m ≡ p + (behind_row b i + m)
  behind_sum true p i m = omega arith
  behind_sum false p i m = omega arith

  pub ranked_count : (place : ℕ) (tree : Tree) → Ranks place tree → rank (place + count tree) ≡ rank place + row_count tree
  ranked_count place end r = let e : place + 0 ≡ place = omega arith in let f : rank place ≡ rank place + 0 = omega arith in ap rank e ∙ f
  ranked_count place (element tag inner more) r =
      let e : place + suc (count inner + count more) ≡ suc place + count inner + count more = omega arith in
      ap rank e ∙ ranked_count (suc place + count inner) more r.2
      ∙ ap (λ n. n + row_count more) (ranked_count (suc place) inner r.1)
      ∙ ap (λ n. n + row_count inner + row_count more) r.0
      ∙ behind_sum (matters (facts_of tag inner)) (rank place) (row_count inner) (row_count more)
  ranked_count place (text chars more) r = ranked_count place more r

  abbrev pub ranked : Placed → Placed
  ranked = moved (λ e. rank e.place) (λ e. rank e.past) (λ e. option_map rank e.scope)

  join : (b : Bool) (row : Placed) (head : Placed) (rows : List Placed) (rest : List Placed) → row ≡ ranked head → rows ≡ map ranked rest
      → with_row b row rows ≡ map ranked (cond b (head ∷ rest) rest)
  join true row head rows rest e f = λ i. e i ∷ f i
  join false row head rows rest e f = f

  pub rows_are_ranked : (scope : Option ℕ) (place : ℕ) (tree : Tree) → Ranks place tree
      → rows_from (option_map rank scope) (rank place) tree ≡ map ranked (filter is_row (placed_from scope place tree))
  rows_are_ranked scope place end r = refl
  rows_are_ranked scope place (element tag inner more) r =
      let b = matters (facts_of tag inner) in
      let next : behind_row b (rank place) ≡ rank (suc place) = sym r.0 in
      let past : behind_row b (rank place) + row_count inner ≡ rank (suc place + count inner) =
      ap (λ n. n + row_count inner) next ∙ sym (ranked_count (suc place) inner r.1) in
      let s : scope_in tag (rank place) (option_map rank scope) ≡ option_map rank (scope_in tag place scope) = by_test (begins_item tag) (λ t. rw t refl) (λ t. rw t refl) in
      let inside = (λ i. rows_from (s i) (next i) inner) ∙ rows_are_ranked (scope_in tag place scope) (suc place) inner r.1 in
      let after = (λ i. rows_from (option_map rank scope) (past i) more) ∙ rows_are_ranked scope (suc place + count inner) more r.2 in
      let ins = placed_from (scope_in tag place scope) (suc place) inner in
      let aft = placed_from scope (suc place + count inner) more in
      let all = (λ i. inside i ++ after i) ∙ sym (map-append ranked (filter is_row ins) (filter is_row aft)) ∙ ap (map ranked) (sym (filter-append is_row ins aft)) in
      join b
      (record { place = rank place; past = behind_row b (rank place) + row_count inner; scope = option_map rank scope; facts = needed (facts_of tag inner) })
      (record { place = place; past = suc place + count inner; scope = scope; facts = facts_of tag inner })
      (rows_from (scope_in tag (rank place) (option_map rank scope)) (behind_row b (rank place)) inner ++ rows_from (option_map rank scope) (behind_row b (rank place) + row_count inner) more)
      (filter is_row (ins ++ aft))
      (λ i. record { place = rank place; past = past i; scope = option_map rank scope; facts = needed (facts_of tag inner) })
      all
  rows_are_ranked scope place (text chars more) r = rows_are_ranked scope place more r

  -- behind a row there is one row more
  abbrev pub Counts : ℕ → Type 0
  Counts place = rank (suc place) ≡ suc (rank place)

  pub row_counts : (scope : Option ℕ) (place : ℕ) (tree : Tree) → Ranks place tree → (e : Placed) → Contains (placed_from scope place tree) e → is_row e ≡ true → Counts e.place
  row_counts scope place end r e h t = none e h
  row_counts scope place (element tag inner more) r e h t =
      let head : Placed = record { place = place; past = suc place + count inner; scope = scope; facts = facts_of tag inner } in
      elim (three head e (placed_from (scope_in tag place scope) (suc place) inner) (placed_from scope (suc place + count inner) more) h) as (λ _. Counts e.place) [
        | inl same ↦
            let yes : matters (facts_of tag inner) ≡ true = ap (λ (x : Placed). is_row x) same ∙ t in
            subst (λ (x : Placed). Counts x.place) same (r.0 ∙ ap (λ b. behind_row b (rank place)) yes)
        | inr (inl i) ↦ row_counts (scope_in tag place scope) (suc place) inner r.1 e i t
        | inr (inr a) ↦ row_counts scope (suc place + count inner) more r.2 e a t
      ]
  row_counts scope place (text chars more) r e h t = row_counts scope place more r e h t

  module _ (rises : (p q : ℕ) → p ≤ q → rank p ≤ rank q) where
    pub lt_same : (p q : ℕ) → Counts p → nat_lt (rank p) (rank q) ≡ nat_lt p q
    lt_same p q c =
        bool_same (nat_lt (rank p) (rank q)) (nat_lt p q) (λ h. ⊎_elim (λ l. lt-ltb p q l) (λ g. absurd (omega (arith, ltb-true (rank p) (rank q) h, rises q p g))) (cases_lt p q))
        (λ h. let l = ltb-true p q h in lt-ltb (rank p) (rank q) (omega (arith, rises (suc p) q (omega (arith, l)), c)))

    pub eq_same : (p q : ℕ) → Counts p → Counts q → (rank p == rank q) ≡ (p == q)
    eq_same p q c d =
        bool_same (rank p == rank q) (p == q)
        (λ h.
        let e = eqb-true (rank p) (rank q) h in
        ⊎_elim (λ l. absurd (omega (arith, rises (suc p) q (omega (arith, l)), c, e)))
        (λ g. ⊎_elim (λ l. absurd (omega (arith, rises (suc q) p (omega (arith, l)), d, e))) (λ k. eq-eqb p q (omega (arith, g, k))) (cases_lt q p)) (cases_lt p q))
        (λ h. eq-eqb (rank p) (rank q) (ap rank (eqb-true p q h)))

pub marks_count : (tree : Tree) → length (marks tree) ≡ count tree
marks_count end = refl
marks_count (element tag inner more) =
    omega (arith, length-append (marks inner) (marks more), marks_count inner, marks_count more)
marks_count (text chars more) = marks_count more

-- a tree's own numbers
pub ranks_from : (whole front : List Bool) (tree : Tree) (back : List Bool) (place : ℕ) → place ≡ length front → whole ≡ front ++ (marks tree ++ back)
    → Ranks (rank_in whole) place tree
ranks_from whole front end back place e w = tt
ranks_from whole front (element tag inner more) back place e w =
    let m = matters (facts_of tag inner) in
    let split : whole ≡ front ++ (m ∷ (marks inner ++ (marks more ++ back))) = w ∙ ap (λ l. front ++ (m ∷ l)) (append_assoc (marks inner) (marks more) back) in
    let long = length-append front (m ∷ []) in
    let next : whole ≡ (front ++ (m ∷ [])) ++ (marks inner ++ (marks more ++ back)) = split ∙ sym (append_assoc front (m ∷ []) (marks inner ++ (marks more ++ back))) in
    let size = marks_count inner in (
      ap (λ l. rank_in l (suc place)) split ∙ ap (λ n. rank_in (front ++ (m ∷ (marks inner ++ (marks more ++ back)))) (suc n)) e
          ∙ rank_there front m (marks inner ++ (marks more ++ back))
          ∙ ap (λ n. behind_row m (rank_in (front ++ (m ∷ (marks inner ++ (marks more ++ back)))) n)) (sym e)
          ∙ ap (λ l. behind_row m (rank_in l place)) (sym split),
      ranks_from whole (front ++ (m ∷ [])) inner (marks more ++ back) (suc place) (omega (arith, e, long)) next,
      ranks_from whole ((front ++ (m ∷ [])) ++ marks inner) more back (suc place + count inner) (omega (arith, e, long, length-append (front ++ (m ∷ [])) (marks inner), size))
          (next ∙ sym (append_assoc (front ++ (m ∷ [])) (marks inner) (marks more ++ back))),
    )
ranks_from whole front (text chars more) back place e w = ranks_from whole front more back place e w
