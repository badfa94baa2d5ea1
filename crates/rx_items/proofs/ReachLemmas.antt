-- The runs of an item's starts, one after another.
use Rattle.rx_items.proofs.Common.{◌≡◌, ◌∙◌, ◌+◌, ◌<◌, ◌≤◌, ℕ, suc, Bool, true, false, cond, List, [], ◌∷◌, ◌++◌, length, take, get_or, Contains, ◌↔◌, Option, Some, None, refl, sym, ap, subst, arith, append_assoc, ◌==◌, take_all, append-nil, Contains-append_left, Contains-append_right, Contains-append_cases, Contains-push, Contains-push_cases, slice_get-get_or, slice_get_within, slice_get_past, cases_lt, nat_tests, Chars, slice_get, ◌⊎◌, inl, inr, Tree, Placed, is_item, rows_of, row_count, ShowsRow, Sorted, RunOf, in_runs, members_in, reach_end, ReachesRow, FromChildren, FromStart, RunsReach, nothing_kept}
use Rattle.rx_items.specs.declared.kept.Run.{Run}
use Rattle.rx_items.specs.declared.rows.Row.{Row}
use Rattle.rx_items.proofs.IdLemmas.{row_shown}
use Rattle.rx_items.proofs.MemberLemmas.{in_range, of_range}
use Rattle.rx_items.proofs.NestLemmas.{laid, numbered}
use Rattle.rx_items.proofs.StartLemmas.{end_by, run_reaches, reached_in_run}
use Rattle.std.proofs.lemmas.List.{take_more}
use Rattle.rx_items.proofs.TakeLemmas.{same_there}
use Rattle.rx_items.proofs.ShowLemmas.{shows_length}
use Rattle.rx_microdata.proofs.Lists.{none as none_in}

pub runs_more : (members : List ℕ) (runs : List Run) (run : Run) → in_runs members (runs ++ run ∷ []) ≡ in_runs members runs ++ members_in members run
runs_more members [] run = append-nil (members_in members run)
runs_more members (r ∷ runs) run = ap (λ (l : List ℕ). members_in members r ++ l) (runs_more members runs run) ∙ sym (append_assoc (members_in members r) (in_runs members runs) (members_in members run))

-- what a start reaches, where it is a row
pub record StartAt (ps : List Placed) (place x : ℕ) : Type 0 where
  pub start : Placed
  pub there : slice_get ps place ≡ Some start
  pub reached : ReachesRow ps start x

module _ (words gathered : Chars) (times : List Chars) (rows : List Row) (tree : Tree) (members : List ℕ) (s : Sorted words gathered times rows (rows_of tree) members) where
  pub own_members : (place : ℕ) (run : Run) → RunOf rows members (Some place) 0 (length rows) run → (x : ℕ) → Contains (members_in members run) x ↔ FromChildren (rows_of tree) place x
  own_members place run r x = (
    (λ c. let i = in_range words gathered times rows (rows_of tree) members s (Some place) 0 (length rows) run r x c in record { row = i.row; is = i.is; named = i.named; scope_is = i.scope_is }),
    (λ o. of_range words gathered times rows (rows_of tree) members s (Some place) 0 (length rows) run r x (record {
      row = o.row;
      is = o.is;
      named = o.named;
      scope_is = o.scope_is;
      low = omega arith;
      high = let size = shows_length words gathered times rows (rows_of tree) s.shows in let short = slice_get_within (rows_of tree) x o.row o.is in omega (arith, size, short);
    })),
  )

  start_there : (place : ℕ) (run : Run) (row : Row) (start : Placed) → slice_get (rows_of tree) place ≡ Some start → ShowsRow words gathered times row start
      → RunOf rows members row.scope place (reach_end row place) run → (x : ℕ) → Contains (members_in members run) x ↔ StartAt (rows_of tree) place x
  start_there place run row start there shown r x =
      let l = laid tree None 0 refl in
      let n = numbered tree in
      let end_is : reach_end row place ≡ end_by (is_item start) place start.past = λ i. cond (shown.is_item i) (place + 1) (shown.past i) in
      let run_of : RunOf rows members start.scope place (end_by (is_item start) place start.past) run =
      subst (λ (o : Option ℕ). RunOf rows members o place (end_by (is_item start) place start.past) run) shown.scope (subst (λ e. RunOf rows members row.scope place e run) end_is r) in (
        (λ c. record {
          start = start;
          there = there;
          reached = run_reaches (rows_of tree) (row_count tree) n l.fits l.pairs start place there x
              (in_range words gathered times rows (rows_of tree) members s start.scope place (end_by (is_item start) place start.past) run run_of x c);
        }),
        (λ a.
            let alike : a.start ≡ start = same_there (rows_of tree) place a.start start a.there there in
            of_range words gathered times rows (rows_of tree) members s start.scope place (end_by (is_item start) place start.past) run run_of x
            (reached_in_run (rows_of tree) (row_count tree) n l.fits l.pairs start place there x (subst (λ (p : Placed). ReachesRow (rows_of tree) p x) alike a.reached))),
      )

  pub start_members : (place : ℕ) (run : Run) → ((row : Row) → slice_get rows place ≡ Some row → RunOf rows members row.scope place (reach_end row place) run)
      → (slice_get rows place ≡ None → run ≡ record { from = 0; to = 0 }) → (x : ℕ) → Contains (members_in members run) x ↔ StartAt (rows_of tree) place x
  start_members place run some none = by (cases_lt place (length rows))
    where
      size : length rows ≡ length (rows_of tree)
      size = shows_length words gathered times rows (rows_of tree) s.shows

      by : (place < length rows) ⊎ (length rows ≤ place) → (x : ℕ) → Contains (members_in members run) x ↔ StartAt (rows_of tree) place x
      by (inl lt) =
          let shown = row_shown words gathered times rows (rows_of tree) place nothing_kept s.shows lt in
          start_there place run (get_or rows place nothing_kept) shown.0 shown.1 shown.2 (some (get_or rows place nothing_kept) (slice_get-get_or rows place nothing_kept lt))
      by (inr over) = λ x. (
        (λ c. none_in x (subst (λ (r : Run). Contains (members_in members r) x) (none (slice_get_past rows place over)) c)),
        (λ a. let short = slice_get_within (rows_of tree) place a.start a.there in let e = size in absurd (omega (arith, short, e, over))),
      )

  pub reach_begins : (place : ℕ) (old new : List Run) (run : Run) → old ≡ [] → ((members : List ℕ) → in_runs members new ≡ in_runs members old ++ members_in members run) → RunOf rows members (Some place) 0 (length rows) run
      → (x : ℕ) → Contains (in_runs members new) x ↔ RunsReach (rows_of tree) place [] x
  reach_begins place old new run none added r x =
      let is : in_runs members new ≡ members_in members run = added members ∙ ap (λ (runs : List Run). in_runs members runs ++ members_in members run) none in
      let own = own_members place run r x in (
        (λ c. inl (own.0 (subst (λ (l : List ℕ). Contains l x) is c))),
        (λ h. back is own.1 h),
      )
    where
      back : in_runs members new ≡ members_in members run → (FromChildren (rows_of tree) place x → Contains (members_in members run) x) → RunsReach (rows_of tree) place [] x → Contains (in_runs members new) x
      back is f (inl o) = subst (λ (l : List ℕ). Contains l x) (sym is) (f o)
      back is f (inr a) = none_in a.place a.among

  -- where there is no start
  pub reach_alone : (place : ℕ) (starts : List ℕ) (run : Run) (others : List Run) → starts ≡ [] → others ≡ [] → RunOf rows members (Some place) 0 (length rows) run
      → (x : ℕ) → Contains (in_runs members (run ∷ others)) x ↔ RunsReach (rows_of tree) place starts x
  reach_alone place starts run others none alone r x =
      subst (λ (l : List ℕ). Contains (in_runs members (run ∷ others)) x ↔ RunsReach (rows_of tree) place l x) (sym none)
      (subst (λ (l : List Run). Contains (in_runs members (run ∷ l)) x ↔ RunsReach (rows_of tree) place [] x) (sym alone)
      (reach_begins place [] (run ∷ []) run refl (λ ms. append-nil (members_in ms run)) r x))

  pub reach_turn : (place : ℕ) (starts : List ℕ) (i start : ℕ) (old new : List Run) (run : Run) → i < length starts → start ≡ get_or starts i start
      → ((members : List ℕ) → in_runs members new ≡ in_runs members old ++ members_in members run) → ((x : ℕ) → Contains (members_in members run) x ↔ StartAt (rows_of tree) start x)
      → ((x : ℕ) → Contains (in_runs members old) x ↔ RunsReach (rows_of tree) place (take i starts) x) → (x : ℕ) → Contains (in_runs members new) x ↔ RunsReach (rows_of tree) place (take (i + 1) starts) x
  reach_turn place starts i start old new run lt is added here ih x =
      let more : take (i + 1) starts ≡ take i starts ++ start ∷ [] = take_more starts i start lt ∙ ap (λ n. take i starts ++ n ∷ []) (sym is) in
      let all : in_runs members new ≡ in_runs members old ++ members_in members run = added members in (
        (λ c. subst (λ (l : List ℕ). RunsReach (rows_of tree) place l x) (sym more) (there (Contains-append_cases (in_runs members old) (members_in members run) x (subst (λ (l : List ℕ). Contains l x) all c)))),
        (λ h. subst (λ (l : List ℕ). Contains l x) (sym all) (back (subst (λ (l : List ℕ). RunsReach (rows_of tree) place l x) more h))),
      )
    where
      wider : RunsReach (rows_of tree) place (take i starts) x → RunsReach (rows_of tree) place (take i starts ++ start ∷ []) x
      wider (inl o) = inl o
      wider (inr a) = inr (record { place = a.place; start = a.start; among = Contains-append_left (take i starts) (start ∷ []) a.place a.among; there = a.there; reached = a.reached })

      there : Contains (in_runs members old) x ⊎ Contains (members_in members run) x → RunsReach (rows_of tree) place (take i starts ++ start ∷ []) x
      there (inl c) = wider ((ih x).0 c)
      there (inr c) = let a = (here x).0 c in inr (record { place = start; start = a.start; among = Contains-push (take i starts) start; there = a.there; reached = a.reached })

      among : (a : FromStart (rows_of tree) (take i starts ++ start ∷ []) x) → Contains (take i starts) a.place ⊎ (start ≡ a.place) → Contains (in_runs members old ++ members_in members run) x
      among a (inl c) = Contains-append_left (in_runs members old) (members_in members run) x ((ih x).1 (inr (record { place = a.place; start = a.start; among = c; there = a.there; reached = a.reached })))
      among a (inr e) =
          Contains-append_right (in_runs members old) (members_in members run) x ((here x).1 (record { start = a.start; there = ap (slice_get (rows_of tree)) e ∙ a.there; reached = a.reached }))

      back : RunsReach (rows_of tree) place (take i starts ++ start ∷ []) x → Contains (in_runs members old ++ members_in members run) x
      back (inl o) = Contains-append_left (in_runs members old) (members_in members run) x ((ih x).1 (inl o))
      back (inr a) = among a (Contains-push_cases (take i starts) start a.place a.among)

pub reach_ends : (ps : List Placed) (place : ℕ) (starts : List ℕ) (i : ℕ) (inside : List ℕ) → length starts ≤ i → ((x : ℕ) → Contains inside x ↔ RunsReach ps place (take i starts) x)
    → (x : ℕ) → Contains inside x ↔ RunsReach ps place starts x
reach_ends ps place starts i inside over h = subst (λ (l : List ℕ). (x : ℕ) → Contains inside x ↔ RunsReach ps place l x) (take_all i starts over) h

pub not_none : (n : ℕ) → (suc n == 0) ≡ false
not_none n = grind (arith, nat_tests)

pub no_starts : (starts : List ℕ) (none : Bool) → none ≡ (length starts == 0) → none ≡ true → starts ≡ []
no_starts [] none is e = refl
no_starts (x ∷ starts) none is e = let clash : true ≡ false = sym e ∙ is ∙ not_none (length starts) in absurd (cc (clash))

pub some_starts : (starts : List ℕ) (none : Bool) → none ≡ (length starts == 0) → none ≡ false → starts ≡ [] → ⊥
some_starts [] none is e empty = let clash : true ≡ false = sym is ∙ e in absurd (cc (clash))
some_starts (x ∷ starts) none is e empty = absurd (cc (empty))
