-- The rows of a page come to what the page comes to.
use Rattle.rx_items.proofs.Common.{list_any, cons_option, refl, sym, ap, subst, ◌∙◌, Chars, and_right, and_left, inl, inr, Tree, MicrodataFacts, Placed, elements_of, is_item, names_of, is_top_level, is_any, is_same_id, has_id, first_with_id, properties, is_after_scope, reaches_by_scope, is_scope, is_property_by_scope, outcome_by, first, later, contradiction, or_left, or_right, and_parts, found_first, kept, matters, rows_from, rows_of, properties_in, RowsSuffice, append-nil}
use Rattle.std.specs.Prelude.{not, ◌&&◌, ◌||◌, ◌==◌, is_some, unwrap_or, ◌≡◌, ℕ, ◌≤◌, Bool, true, false, ◌⊎◌, List, [], ◌∷◌, map, filter, filter_map, find, Contains, Option, Some, None, option_map}
use Rattle.rx_model.proofs.Common.{⊎_elim}
use Rattle.rx_model.proofs.Renaming.{filter_map_map}
use Rattle.rx_terms.proofs.Bools.{by_test}
use Rattle.std.proofs.lemmas.List.{map-id}
use Rattle.rx_microdata.proofs.Scopes.{scopes}
use Rattle.rx_microdata.proofs.ScopesList.{list as scopes_list}
use Rattle.rx_items.specs.Ranks.{marks, rank_in}
use Rattle.rx_items.proofs.Alike.{Each, Item, Moves, outcome_alike}
use Rattle.rx_items.proofs.RankLemmas.{is_row, ranked, Ranks, Counts, rows_are_ranked, row_counts, lt_same, eq_same, rank_rises, ranks_from}

-- a filter of what is moved is the moved filter, where the tests agree on rows and other elements fail
module _ (f : Placed → Placed) (p q : Placed → Bool) where
  pub filter_moved : (xs : List Placed)
      → ((e : Placed) → Contains xs e → is_row e ≡ true → q (f e) ≡ p e) → ((e : Placed) → Contains xs e → is_row e ≡ false → p e ≡ false)
      → filter q (map f (filter is_row xs)) ≡ map f (filter p xs)
  filter_moved [] same fails = refl
  filter_moved (x ∷ xs) same fails =
      let ih = filter_moved xs (λ e h. same e (later x e xs h)) (λ e h. fails e (later x e xs h)) in
      by_test (is_row x) (λ t. rw (t, same x (first x xs) t) (by_test (p x) (λ k. rw k (ap (λ l. f x ∷ l) ih)) (λ k. rw k ih))) (λ t. rw (t, fails x (first x xs) t) ih)

-- what matters, and so what doesn't
item_matters : (facts : MicrodataFacts) → facts.is_item ≡ true → matters facts ≡ true
item_matters facts h = or_left facts.is_item (is_some facts.names || is_some facts.id) h

id_matters : (facts : MicrodataFacts) (token : Chars) → is_same_id token facts.id ≡ true → matters facts ≡ true
id_matters facts token h =
    or_right facts.is_item (is_some facts.names || is_some facts.id) (or_right (is_some facts.names) (is_some facts.id) (by facts.id h))
  where
    by : (o : Option Chars) → is_same_id token o ≡ true → is_some o ≡ true
    by None e = contradiction false e refl
    by (Some id) e = refl

named_matters : (facts : MicrodataFacts) → is_any (unwrap_or facts.names []) ≡ true → matters facts ≡ true
named_matters facts h =
    or_right facts.is_item (is_some facts.names || is_some facts.id) (or_left (is_some facts.names) (is_some facts.id) (by facts.names h))
  where
    by : (o : Option (List Chars)) → is_any (unwrap_or o []) ≡ true → is_some o ≡ true
    by None e = contradiction false e refl
    by (Some names) e = refl

not_so : (test : Bool) (facts : MicrodataFacts) → (test ≡ true → matters facts ≡ true) → matters facts ≡ false → test ≡ false
not_so true facts f h = contradiction (matters facts) (f refl) h
not_so false facts f h = refl

module _ (f : Placed → Placed) (ids : (token : Chars) (e : Placed) → has_id token (f e) ≡ has_id token e) where
  first_moved : (token : Chars) (xs : List Placed) → find (has_id token) (map f (filter is_row xs)) ≡ option_map f (find (has_id token) xs)
  first_moved token [] = refl
  first_moved token (x ∷ xs) =
      let ih = first_moved token xs in
      by_test (is_row x) (λ t. rw (t, ids token x) (by_test (has_id token x) (λ k. rw k refl) (λ k. rw k ih))) (λ t. rw (t, not_so (has_id token x) x.facts (id_matters x.facts token) t) ih)

module _ (tree : Tree) where
  abbrev page : List Placed
  page = elements_of tree

  abbrev rank : ℕ → ℕ
  rank = rank_in (marks tree)

  ranks : Ranks rank 0 tree
  ranks = ranks_from (marks tree) [] tree [] 0 refl (sym (append-nil (marks tree)))

  rank_zero : (ms : List Bool) → rank_in ms 0 ≡ 0
  rank_zero [] = refl
  rank_zero (m ∷ ms) = refl

  abbrev move : Placed → Placed
  move = ranked rank

  rows_moved : rows_of tree ≡ map move (filter is_row page)
  rows_moved = ap (λ n. rows_at n) (sym (rank_zero (marks tree))) ∙ rows_are_ranked rank None 0 tree ranks
    where
      rows_at : ℕ → List Placed
      rows_at n = rows_from None n tree

  rises : (p q : ℕ) → p ≤ q → rank p ≤ rank q
  rises = rank_rises (marks tree)

  abbrev Good : Placed → Type 0
  Good e = Contains page e × (is_row e ≡ true)

  counts : (e : Placed) → Good e → Counts rank e.place
  counts e g = row_counts rank None 0 tree ranks e g.0 g.1

  -- the nearest item around an element is a row
  abbrev Scoped : Placed → Type 0
  Scoped e = (e.scope ≡ None) ⊎ ((s : ℕ) × (e.scope ≡ Some s) × Counts rank s)

  scoped : (e : Placed) → Contains page e → Scoped e
  scoped e h = ⊎_elim (λ n. inl n) (λ held. inr ((held.0).place, held.4, counts held.0 (held.1, item_matters (held.0).facts held.2))) ((scopes None 0 tree e h).0)

  -- a test of it is the same of its rank
  scope_test : (there here : Option ℕ → Bool) → there None ≡ here None → ((s : ℕ) → Counts rank s → there (Some (rank s)) ≡ here (Some s)) → (e : Placed) → Contains page e → there (option_map rank e.scope) ≡ here e.scope
  scope_test there here none some e h =
      ⊎_elim (λ n. ap (λ o. there (option_map rank o)) n ∙ none ∙ ap here (sym n)) (λ s. ap (λ o. there (option_map rank o)) s.1 ∙ some s.0 s.2 ∙ ap here (sym s.1)) (scoped e h)

  scope_same : (root e : Placed) → Good root → Contains page e → is_scope (rank root.place) (option_map rank e.scope) ≡ is_scope root.place e.scope
  scope_same root e g = scope_test (is_scope (rank root.place)) (is_scope root.place) refl (λ s c. eq_same rank rises s root.place c (counts root g)) e

  before_same : (start e : Placed) → Contains page e → is_after_scope (option_map rank e.scope) (rank start.place) ≡ is_after_scope e.scope start.place
  before_same start e = scope_test (λ o. is_after_scope o (rank start.place)) (λ o. is_after_scope o start.place) refl (λ s c. lt_same rank rises s start.place c) e

  reaches_same : (start e : Placed) → Good start → Good e → reaches_by_scope (move e) (move start) ≡ reaches_by_scope e start
  reaches_same start e g h =
      λ i. eq_same rank rises start.place e.place (counts start g) (counts e h) i || (lt_same rank rises start.place e.place (counts start g) i && lt_same rank rises e.place start.past (counts e h) i) && before_same start e h.0 i

  starts_moved : (refs : List Chars) → filter_map (first_with_id (map move (filter is_row page))) refs ≡ map move (filter_map (first_with_id page) refs)
  starts_moved refs =
      ap (filter_map (first_with_id (map move (filter is_row page)))) (sym (map-id refs))
      ∙ filter_map_map (λ t. t) move (first_with_id page) (first_with_id (map move (filter is_row page))) (λ t. first_moved move (λ u e. refl) t page) refs

  starts_good : (refs : List Chars) → Each Good (filter_map (first_with_id page) refs)
  starts_good [] = tt
  starts_good (token ∷ refs) = by (first_with_id page token) refl (starts_good refs)
    where
      by : (o : Option Placed) → first_with_id page token ≡ o → Each Good (filter_map (first_with_id page) refs)
          → Each Good (cons_option o (filter_map (first_with_id page) refs))
      by None e h = h
      by (Some x) e h = let w = found_first (has_id token) page x e in ((w.0, id_matters x.facts token w.1), h)

  any_moved : (e : Placed) → Good e → (starts : List Placed) → Each Good starts → list_any (reaches_by_scope (move e)) (map move starts) ≡ list_any (reaches_by_scope e) starts
  any_moved e g [] h = refl
  any_moved e g (x ∷ starts) h = λ i. reaches_same x e h.0 g i || any_moved e g starts h.1 i

  test_same : (root e : Placed) → Good root → Good e
      → is_property_by_scope (map move (filter is_row page)) (move root) (move e) ≡ is_property_by_scope page root e
  test_same root e g h =
      let named =
      ap (λ starts. list_any (reaches_by_scope (move e)) starts) (starts_moved root.facts.references)
      ∙ any_moved e h (filter_map (first_with_id page) root.facts.references) (starts_good root.facts.references) in
      λ i. not (eq_same rank rises root.place e.place (counts root g) (counts e h) i) && is_any (names_of e) && (scope_same root e g h.0 i || named i)

  by_scope : (root : Placed) → Item Good root → properties_in (rows_of tree) (move root) ≡ map move (properties page root)
  by_scope root g =
      ap (λ rows. properties_in rows (move root)) rows_moved
      ∙ filter_moved move (is_property_by_scope page root) (is_property_by_scope (map move (filter is_row page)) (move root)) page
      (λ e h t. test_same root e g.0 (h, t))
      (λ e h t. and_left (not (root.place == e.place) && is_any (names_of e)) _ (and_right (not (root.place == e.place)) _ (not_so (is_any (names_of e)) e.facts (named_matters e.facts) t)))
      ∙ ap (map move) (sym (scopes_list tree root (g.0).0 g.1))

  each_of : (P : Placed → Type 0) (xs : List Placed) → ((e : Placed) → Contains xs e → P e) → Each P xs
  each_of P [] h = tt
  each_of P (x ∷ xs) h = (h x (first x xs), each_of P xs (λ e l. h e (later x e xs l)))

  stays : (root : Placed) → Item Good root → Each Good (properties page root)
  stays root g =
      subst (Each Good) (sym (scopes_list tree root (g.0).0 g.1)) (each_of Good (filter (is_property_by_scope page root) page) (λ e h.
      let w = kept (is_property_by_scope page root) page e h in
      let named = and_parts (not (root.place == e.place)) (is_any (names_of e)) (and_parts (not (root.place == e.place) && is_any (names_of e)) _ w.1).0 in
      (w.0, named_matters e.facts named.1)))

  moves : Moves (λ e. rank e.place) (λ e. rank e.past) (λ e. option_map rank e.scope) Good (properties page) (properties_in (rows_of tree))
  moves = record { places = λ x y g h. eq_same rank rises x.place y.place (counts x g) (counts y h); same = by_scope; stays = stays }

  tops_moved : filter is_top_level (rows_of tree) ≡ map move (filter is_top_level page)
  tops_moved =
      ap (filter is_top_level) rows_moved
      ∙ filter_moved move is_top_level is_top_level page (λ e h t. refl) (λ e h t. and_left (is_item e) _ (not_so (is_item e) e.facts (item_matters e.facts) t))

  tops_good : Each (Item Good) (filter is_top_level page)
  tops_good = each_of (Item Good) (filter is_top_level page) (λ e h.
      let w = kept is_top_level page e h in
      let item = (and_parts (is_item e) _ w.1).0 in
      ((w.0, item_matters e.facts item), item))

pub rows_suffice : RowsSuffice
rows_suffice bounds base tree =
    ap (λ items. outcome_by (properties_in (rows_of tree)) bounds base items) (tops_moved tree)
    ∙ outcome_alike (λ e. rank tree e.place) (λ e. rank tree e.past) (λ e. option_map (rank tree) e.scope) (Good tree) (properties (page tree)) (properties_in (rows_of tree))
    (moves tree) bounds base (filter is_top_level (page tree)) (tops_good tree)
