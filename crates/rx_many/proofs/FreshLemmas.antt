-- What a page states in a graph of its own is in no line before.
use Rattle.rx_many.proofs.Common.{◌≡◌, ℕ, zero, suc, ◌+◌, Bool, true, false, cond, List, [], ◌∷◌, ◌++◌, map, filter, flat_map, take, drop, slice_get, Some, refl, sym, ap, ap₂, ◌∙◌, inl, inr, subst, true≢false, nat_eq, append_assoc, not, take-append-drop, map-append, Chars, Among, IsExact, contains, distinct, Node, Iri, Blank, Term, Resource, Literal, Triple, same_triple, blank_of_node, blank_of_term, blanks_of, place_in, rename_node, rename_term, rename, triple_seen, triples_seen, exact_numbers, exact_triples, without_fragment, seen_more, QuadLine, PageBlank, comment, statement, statement_at, at_place, lines_by, lines_of, lines_from, line_blanks, same_blank, blank_table, rename_line, same_line, numbered_lines, name_of, Judgement, refused, accepted, page_seen, AreNew}
use Rattle.rx_model.proofs.Common.{untrue, or_cases, false_unless, Among_cases, Among_left, Among_right, Among_map, Among_of_map, Among_flat_map, Among_of_filter, Among_distinct, place_tells}
use Rattle.rx_terms.specs.declared.triples.Triple.{Triple as CodeTriple}
use Rattle.rx_many.specs.declared.pages.Page.{Page as CodePage}
use Rattle.rx_many.proofs.KeyLemmas.{exact_blanks, alike}
use Rattle.rx_many.proofs.LineLemmas.{numbers_stay}

-- ---- what is renamed apart

module _ {A B : Type 0} (to : A → B) where
  node_apart : (n m : Node A) → ((a b : A) → Among (blank_of_node n) a → Among (blank_of_node m) b → to a ≡ to b → a ≡ b) → rename_node to n ≡ rename_node to m → n ≡ m
  node_apart (Iri a) (Iri b) one e = ap Iri (cc)
  node_apart (Blank a) (Blank b) one e = ap Blank (one a b (inl refl) (inl refl) (cc))
  node_apart n m one e = cc

  term_apart : (n m : Term A) → ((a b : A) → Among (blank_of_term n) a → Among (blank_of_term m) b → to a ≡ to b → a ≡ b) → rename_term to n ≡ rename_term to m → n ≡ m
  term_apart (Resource a) (Resource b) one e = ap Resource (node_apart a b one (cc))
  term_apart (Literal a l) (Literal b m) one e = cc
  term_apart n m one e = cc

  triple_apart : (t u : Triple A) → ((a b : A) → Among (blanks_of t) a → Among (blanks_of u) b → to a ≡ to b → a ≡ b) → rename to t ≡ rename to u → t ≡ u
  triple_apart t u one e =
      let s = node_apart t.subject u.subject
      (λ a b h k. one a b (Among_left (blank_of_node t.subject) (blank_of_term t.object) a h) (Among_left (blank_of_node u.subject) (blank_of_term u.object) b k)) (ap (λ (x : Triple B). x.subject) e) in
      let o = term_apart t.object u.object
      (λ a b h k. one a b (Among_right (blank_of_node t.subject) (blank_of_term t.object) a h) (Among_right (blank_of_node u.subject) (blank_of_term u.object) b k)) (ap (λ (x : Triple B). x.object) e) in
      let p = ap (λ (x : Triple B). x.predicate) e in
      λ i. record { subject = s i; predicate = p i; object = o i }

  line_apart : (x l : QuadLine A) → ((a b : A) → Among (line_blanks x) a → Among (line_blanks l) b → to a ≡ to b → a ≡ b) → rename_line to x ≡ rename_line to l → x ≡ l
  line_apart (comment a f) (comment b g) one e = cc
  line_apart (statement n t) (statement m u) one e = ap₂ statement (cc) (triple_apart t u one (cc))
  line_apart x l one e = cc

pub contained : (lines : List (QuadLine ℕ)) (x : QuadLine ℕ) → contains same_line lines x ≡ true → Among lines x
contained [] x h = absurd (true≢false (sym h))
contained (y ∷ lines) x h = elim (or_cases (same_line y x) (contains same_line lines x) h) [ inl e ↦ inl (alike y x e) | inr k ↦ inr (contained lines x k) ]

-- a line that isn't there has no other number's line
module _ (lines : List (QuadLine PageBlank)) (l : QuadLine PageBlank) where
  in_table : (x : QuadLine PageBlank) → Among (lines ++ l ∷ []) x → (b : PageBlank) → Among (line_blanks x) b → Among (blank_table (lines ++ l ∷ [])) b
  in_table x m b h = Among_distinct same_blank exact_blanks (flat_map line_blanks (lines ++ l ∷ [])) b (Among_flat_map line_blanks (lines ++ l ∷ []) x b m h)

  pub still_new : (Among lines l → ⊥) → contains same_line (numbered_lines lines) (rename_line (place_in same_blank (blank_table (lines ++ l ∷ []))) l) ≡ false
  still_new new =
      let to : PageBlank → ℕ = place_in same_blank (blank_table (lines ++ l ∷ [])) in
      false_unless (contains same_line (numbered_lines lines) (rename_line to l))
      (λ h. let s = Among_of_map (rename_line to) lines (rename_line to l) (subst (λ (z : List (QuadLine ℕ)). Among z (rename_line to l)) (numbers_stay lines l) (contained (numbered_lines lines) (rename_line to l) h)) in
      new (subst (λ (z : QuadLine PageBlank). Among lines z)
      (line_apart to s.0 l
      (λ a b m n. place_tells same_blank exact_blanks (blank_table (lines ++ l ∷ [])) a b (in_table s.0 (Among_left lines (l ∷ []) s.0 s.1) a m) (in_table l (Among_right lines (l ∷ []) l (inl refl)) b n))
      s.2)
      s.1))

-- ---- lists without repeats

module _ {A : Type 0} (same : A → A → Bool) (exact : IsExact same) where
  Apart : List A → Type 0
  Apart [] = Unit {0}
  Apart (x ∷ d) = ((y : A) → Among d y → same x y ≡ false) × Apart d

  apart_filter : (p : A → Bool) (d : List A) → Apart d → Apart (filter p d)
  unfolding Apart
  apart_filter p [] a = tt
  apart_filter p (x ∷ d) a = go (p x) (apart_filter p d a.1)
    where
      go : (t : Bool) → Apart (filter p d) → Apart (cond t (x ∷ filter p d) (filter p d))
      go true ih = (λ y m. a.0 y (Among_of_filter p d y m).0, ih)
      go false ih = ih

  apart_distinct : (xs : List A) → Apart (distinct same xs)
  unfolding Apart
  apart_distinct [] = tt
  apart_distinct (x ∷ xs) = (
    λ y m. untrue (same x y) (Among_of_filter (λ y. not (same x y)) (distinct same xs) y m).1,
    apart_filter (λ y. not (same x y)) (distinct same xs) (apart_distinct xs),
  )

  apart_from_front : (front rest : List A) (a : A) → Apart (front ++ a ∷ rest) → Among front a → ⊥
  unfolding Apart
  apart_from_front [] rest a h m = m
  apart_from_front (x ∷ front) rest a h (inl e) = true≢false (sym ((exact x a).1 e) ∙ h.0 a (Among_right front (a ∷ rest) a (inl refl)))
  apart_from_front (x ∷ front) rest a h (inr m) = apart_from_front front rest a h.1 m

  pub none_before : (list front rest : List A) (a : A) → distinct same list ≡ list → list ≡ front ++ a ∷ rest → Among front a → ⊥
  none_before list front rest a once e m = apart_from_front front rest a (subst (λ (z : List A). Apart z) (once ∙ e) (apart_distinct list)) m

pub at_among : {A : Type 0} (xs : List A) (k : ℕ) (a : A) → slice_get xs k ≡ Some a → Among xs a
at_among [] k a h = absurd (cc)
at_among (x ∷ xs) zero a h = inl (cc)
at_among (x ∷ xs) (suc k) a h = inr (at_among xs k a h)

-- ---- the triples of a page

module _ (place : ℕ) (name : Chars) where
  same_statement : (t u : Triple ℕ) → statement_at place name t ≡ statement_at place name u → t ≡ u
  same_statement t u e = triple_apart (at_place place) t u (λ a b h k f. ap (λ (p : PageBlank). p.1) f) (cc)

  -- that at the place isn't before it
  first_there : (list : List CodeTriple) (i : ℕ) (t : CodeTriple) → slice_get list i ≡ Some t → distinct (same_triple nat_eq) (triples_seen list) ≡ triples_seen list
      → Among (map (statement_at place name) (triples_seen (take i list))) (statement_at place name (triple_seen t)) → ⊥
  first_there list i t at once m =
      let s = Among_of_map (statement_at place name) (triples_seen (take i list)) (statement_at place name (triple_seen t)) m in
      let split : triples_seen list ≡ triples_seen (take i list) ++ triple_seen t ∷ triples_seen (drop (i + 1) list) =
      ap triples_seen (sym (take-append-drop (i + 1) list)) ∙ map-append triple_seen (take (i + 1) list) (drop (i + 1) list)
      ∙ ap (λ z. z ++ triples_seen (drop (i + 1) list)) (seen_more list i t at)
      ∙ append_assoc (triples_seen (take i list)) (triple_seen t ∷ []) (triples_seen (drop (i + 1) list)) in
      none_before (same_triple nat_eq) (exact_triples nat_eq exact_numbers) (triples_seen list) (triples_seen (take i list)) (triples_seen (drop (i + 1) list)) (triple_seen t) once split
      (subst (λ (z : Triple ℕ). Among (triples_seen (take i list)) z) (same_statement s.0 (triple_seen t) s.2) s.1)

  -- where those of the page are new, the one at a place is new behind those before it
  pub next_new : (shared : List Chars) (lines : List (QuadLine PageBlank)) (list : List CodeTriple) (i : ℕ) (t : CodeTriple) → slice_get list i ≡ Some t
      → distinct (same_triple nat_eq) (triples_seen list) ≡ triples_seen list → AreNew shared lines (map (statement_at place name) (triples_seen list))
      → AreNew shared (lines ++ map (statement_at place name) (triples_seen (take i list))) (statement_at place name (triple_seen t) ∷ [])
  next_new shared lines list i t at once new other u own (inr m) k = m
  next_new shared lines list i t at once new other u own (inl e) k =
      elim (Among_cases lines (map (statement_at place name) (triples_seen (take i list))) (statement other u) k) [
        | inl h ↦ new other u own (subst (λ (z : QuadLine PageBlank). Among (map (statement_at place name) (triples_seen list)) z) e there) h
        | inr h ↦ first_there list i t at once (subst (λ (z : QuadLine PageBlank). Among (map (statement_at place name) (triples_seen (take i list))) z) (sym e) h)
      ]
    where
      there : Among (map (statement_at place name) (triples_seen list)) (statement_at place name (triple_seen t))
      there = Among_map (statement_at place name) (triples_seen list) (triple_seen t) (Among_map triple_seen list t (at_among list i t at))

-- ---- the pages

-- the triple that a line of one page states is given by it
pub record GivenHere (place : ℕ) (address : Chars) (judgement : Judgement) (name : Chars) (u : Triple PageBlank) : Type 0 where
  pub triples : List (Triple ℕ)
  pub accepts : judgement ≡ accepted triples
  pub named : name ≡ without_fragment address
  pub triple : Triple ℕ
  pub given : Among triples triple
  pub is : u ≡ rename (at_place place) triple

pub line_here : (place : ℕ) (address : Chars) (judgement : Judgement) (name : Chars) (u : Triple PageBlank) → Among (lines_by place address judgement) (statement name u) → GivenHere place address judgement name u
line_here place address (refused fault) name u (inl e) = absurd (cc)
line_here place address (refused fault) name u (inr n) = absurd n
line_here place address (accepted triples) name u m =
    let s = Among_of_map (statement_at place (without_fragment address)) triples (statement name u) m in
    let is : statement (without_fragment address) (rename (at_place place) s.0) ≡ statement name u = s.2 in
    record { triples = triples; accepts = refl; named = cc; triple = s.0; given = s.1; is = cc }

pub lines_named : (start : ℕ) (pages : List CodePage) (name : Chars) (u : Triple PageBlank) → Among (lines_from start (map page_seen pages)) (statement name u) → Among (map name_of pages) name
lines_named start [] name u m = m
lines_named start (page ∷ pages) name u m =
    elim (Among_cases (lines_of start (page_seen page)) (lines_from (suc start) (map page_seen pages)) (statement name u) m) [
      | inl h ↦ inl (sym (line_here start page.address (page_seen page).judgement name u h).named)
      | inr k ↦ inr (lines_named (suc start) pages name u k)
    ]
