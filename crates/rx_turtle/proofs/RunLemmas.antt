-- The tokens that come of what is due, one after another.
use Rattle.rx_turtle.proofs.Common.{◌≡◌, ◌∙◌, ℕ, zero, suc, ◌+◌, ◌<◌, ◌≤◌, Bool, true, false, cond, nat_eq, List, [], ◌∷◌, ◌++◌, map, filter, length, take, slice_get, Some, refl, sym, ap, subst, inl, inr, arith, append_assoc, append-nil, take_all, map-append, Chars, Among, Node, Triple, same_node, Among_of_distinct, Among_distinct, exact_nodes, exact_numbers, one_more, Prefixes, subjects, predicates_of, subject_says, is_top, statement_of, Keyed, has_key, keys_by, grouped, Shown, token_seen, tokens_seen, piece_of, pieces_of, Due, Say, statement_due, opened, AreCells, due_pieces, one_said, all_said, source_triples, shapes_of, IsSource, Comes, AddsStatement, AreGraphTokens, IsSubject}
use Rattle.rx_notation.proofs.Common.{Shape, HaveShapes, Piece, statement_pieces, all_pieces}
use Rattle.rx_terms.proofs.Bools.{by_test}
use Rattle.rx_turtle.specs.declared.keys.By.TheVariants as by
use Rattle.rx_turtle.specs.declared.source.Source.{Source}
use Rattle.rx_turtle.specs.declared.tokens.Token.{Token}
use Rattle.rx_turtle.proofs.TurnLemmas.{cells_turn, comes_turn, statement_cells, statement_comes}

pub have_shapes : (source : Source) → IsSource source → HaveShapes (source_triples source) (shapes_of source)
have_shapes source is number = is.shape number

-- a token more
pieces_more : (context : Prefixes) (now next : List Token) (token : Token) (rest : List Piece) → next ≡ now ++ token ∷ []
    → pieces_of context (tokens_seen next) ++ rest ≡ pieces_of context (tokens_seen now) ++ (piece_of context (token_seen token) ∷ rest)
pieces_more context now next token rest e =
    ap (λ z. pieces_of context z ++ rest) (ap tokens_seen e ∙ map-append token_seen now (token ∷ []))
    ∙ ap (λ z. z ++ rest) (map-append (piece_of context) (tokens_seen now) (token_seen token ∷ []))
    ∙ append_assoc (pieces_of context (tokens_seen now)) (piece_of context (token_seen token) ∷ []) rest

-- ---- all that is due

module _ (source : Source) (first : List Due) (start : List Token) where
  pub record Running (due : List Due) (now : List Token) : Type 0 where
    pub cells : AreCells (source_triples source) due
    pub each : (context : Prefixes) (rest : List Piece) → pieces_of context (tokens_seen now) ++ due_pieces context (source_triples source) (shapes_of source) due rest
        ≡ pieces_of context (tokens_seen start) ++ due_pieces context (source_triples source) (shapes_of source) first rest

pub running_turn : (source : Source) (first : List Due) (start : List Token) → IsSource source → (due more new : List Due) (d : Due) (now next : List Token) (token : Token) → due ≡ d ∷ more
    → Say (token_seen token) ∷ new ≡ opened (source_triples source) (shapes_of source) d ++ more → next ≡ now ++ token ∷ [] → Running source first start due now → Running source first start new next
running_turn source first start is due more new d now next token top e grows h =
    let list : List (Triple ℕ) = source_triples source in
    let cells : AreCells list (d ∷ more) = subst (AreCells list) top h.cells in
    record {
      cells = cells_turn list (shapes_of source) (have_shapes source is) d (token_seen token) more new cells e;
      each = λ context rest.
          pieces_more context now next token (due_pieces context list (shapes_of source) new rest) grows
          ∙ ap (λ z. pieces_of context (tokens_seen now) ++ z) (sym (comes_turn list (shapes_of source) (have_shapes source is) context d (token_seen token) more new cells e rest))
          ∙ ap (λ z. pieces_of context (tokens_seen now) ++ due_pieces context list (shapes_of source) z rest) (sym top) ∙ h.each context rest;
    }

-- how many tokens are left
abbrev pub left : Source → List Due → ℕ
left source due = length (due_pieces [] (source_triples source) (shapes_of source) due [])

pub fewer_left : (source : Source) (first : List Due) (start : List Token) → IsSource source → (due more new : List Due) (d : Due) (now : List Token) (token : Shown) → due ≡ d ∷ more
    → Say token ∷ new ≡ opened (source_triples source) (shapes_of source) d ++ more → Running source first start due now → left source new < left source due
fewer_left source first start is due more new d now token top e h =
    let list : List (Triple ℕ) = source_triples source in
    let size : left source due ≡ suc (left source new) =
    ap (left source) top ∙ ap length (comes_turn list (shapes_of source) (have_shapes source is) [] d token more new (subst (AreCells list) top h.cells) e []) in
    omega (arith, size)

pub running_end : (source : Source) (first due : List Due) (start now : List Token) → due ≡ [] → Running source first start due now → Comes source first start now
running_end source first due start now none h = record {
  each = λ context rest. ap (λ z. pieces_of context (tokens_seen now) ++ due_pieces context (source_triples source) (shapes_of source) z rest) (sym none) ∙ h.each context rest;
}

-- ---- a statement

module _ (source : Source) (node : Node ℕ) (triples : List (Triple ℕ)) (is : IsSubject (source_triples source) node triples) where
  subject_says_some : (p : Chars) × Among (predicates_of (source_triples source) node) p
  subject_says_some = subject_says (source_triples source) node (Among_distinct (same_node nat_eq) (exact_nodes nat_eq exact_numbers) (map (λ (t : Triple ℕ). t.subject) (source_triples source)) node is.some)

  pub pushed_cells : (due old : List Due) → old ≡ [] → due ≡ statement_due node (grouped by.Predicate triples) ++ old → AreCells (source_triples source) due
  pushed_cells due old none e =
      subst (AreCells (source_triples source)) (sym (e ∙ ap (λ z. statement_due node (grouped by.Predicate triples) ++ z) none ∙ append-nil (statement_due node (grouped by.Predicate triples))))
      (statement_cells (source_triples source) node (grouped by.Predicate triples))

  pub says_statement : (due rest_due : List Due) (old new : List Token) → rest_due ≡ [] → due ≡ statement_due node (grouped by.Predicate triples) ++ rest_due → is_top (shapes_of source) node ≡ true
      → Comes source due old new → AddsStatement source node old new
  says_statement due rest_due old new none e top h = record {
    each = λ context rest.
        h.each context rest
        ∙ ap (λ z. pieces_of context (tokens_seen old) ++ z)
        (ap (λ z. due_pieces context (source_triples source) (shapes_of source) z rest)
        (e ∙ ap (λ z. statement_due node (grouped by.Predicate triples) ++ z) none ∙ append-nil (statement_due node (grouped by.Predicate triples)) ∙ ap (λ z. statement_due node (grouped by.Predicate z)) is.all)
        ∙ statement_comes context (source_triples source) (shapes_of source) node subject_says_some.0 subject_says_some.1 rest
        ∙ ap (λ b. one_said context (source_triples source) (shapes_of source) b node rest) (sym top));
  }

-- ---- all statements

-- the tokens are those of the subjects so far
pub record Stated (source : Source) (groups : List Keyed) (now : List Token) : Type 0 where
  pub each : (context : Prefixes) (rest : List Piece) → pieces_of context (tokens_seen now) ++ rest ≡ all_said context (source_triples source) (shapes_of source) groups rest

module _ (context : Prefixes) (list : List (Triple ℕ)) (shapes : ℕ → Shape) where
  said_both : (xs ys : List Keyed) (rest : List Piece) → all_said context list shapes (xs ++ ys) rest ≡ all_said context list shapes xs (all_said context list shapes ys rest)
  said_both [] ys rest = refl
  said_both (x ∷ xs) ys rest = ap (one_said context list shapes (is_top shapes x.0) x.0) (said_both xs ys rest)

  all_said_is : (f : Node ℕ → List (Triple ℕ)) (keys : List (Node ℕ)) → all_said context list shapes (map {B = Keyed} (λ key. (key, f key)) keys) []
      ≡ all_pieces (map (statement_of context list shapes) (filter (is_top shapes) keys))
  all_said_is f [] = refl
  all_said_is f (key ∷ keys) =
      let rest = all_said_is f keys in by_test (is_top shapes key) (λ e. rw e (ap (statement_pieces (statement_of context list shapes key)) rest)) (λ e. rw e rest)

pub stated_turn : (source : Source) (groups : List Keyed) (i : ℕ) (row : Keyed) (now next : List Token) → slice_get groups i ≡ Some row → AddsStatement source row.0 now next
    → Stated source (take i groups) now → Stated source (take (i + 1) groups) next
stated_turn source groups i row now next at says h = record {
  each = λ context rest.
      says.each context rest
      ∙ h.each context (one_said context (source_triples source) (shapes_of source) (is_top (shapes_of source) row.0) row.0 rest)
      ∙ sym (said_both context (source_triples source) (shapes_of source) (take i groups) (row ∷ []) rest)
      ∙ ap (λ z. all_said context (source_triples source) (shapes_of source) z rest) (sym (one_more groups i row at));
}

pub stated_end : (source : Source) (groups : List Keyed) (i : ℕ) (now : List Token) → length groups ≤ i → groups ≡ grouped by.Subject (source_triples source) → Stated source (take i groups) now → AreGraphTokens source now
stated_end source groups i now past are h = record {
  each = λ context.
      sym (append-nil (pieces_of context (tokens_seen now))) ∙ h.each context []
      ∙ ap (λ z. all_said context (source_triples source) (shapes_of source) z []) (take_all i groups past ∙ are)
      ∙ all_said_is context (source_triples source) (shapes_of source) (λ key. filter (has_key by.Subject key) (source_triples source)) (subjects (source_triples source));
}

-- ---- the subjects

row_of : (f : Node ℕ → List (Triple ℕ)) (keys : List (Node ℕ)) (i : ℕ) (row : Keyed) → slice_get (map {B = Keyed} (λ key. (key, f key)) keys) i ≡ Some row → Among keys row.0 × (row.1 ≡ f row.0)
row_of f [] i row at = absurd (cc)
row_of f (key ∷ keys) zero row at =
    let same : row ≡ (key, f key) = cc in
    (inl (sym (ap (λ (z : Keyed). z.0) same)), ap (λ (z : Keyed). z.1) same ∙ ap f (sym (ap (λ (z : Keyed). z.0) same)))
row_of f (key ∷ keys) (suc i) row at = let r = row_of f keys i row at in (inr r.0, r.1)

pub is_subject : (list : List (Triple ℕ)) (groups : List Keyed) (i : ℕ) (node : Node ℕ) (triples : List (Triple ℕ)) → groups ≡ grouped by.Subject list → slice_get groups i ≡ Some (node, triples) → IsSubject list node triples
is_subject list groups i node triples are at =
    let r = row_of (λ key. filter (has_key by.Subject key) list) (keys_by by.Subject list) i (node, triples) (ap (λ (z : List Keyed). slice_get z i) (sym are) ∙ at) in
    record { all = r.1; some = Among_of_distinct (same_node nat_eq) (map (λ (t : Triple ℕ). t.subject) list) node r.0 }
