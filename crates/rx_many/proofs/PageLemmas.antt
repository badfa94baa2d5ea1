-- The triples of one page, whose blank nodes come behind those of the pages before it.
use Rattle.rx_many.proofs.Common.{◌≡◌, ◌∙◌, ℕ, zero, suc, ◌+◌, ◌<◌, ◌≤◌, true, false, List, [], ◌∷◌, ◌++◌, map, flat_map, take, length, Some, refl, sym, ap, ap₂, subst, inl, inr, arith, append-nil, length-append, nat_eq, true≢false, Bool, slice_get, ◌||◌, ◌&&◌, not, Chars, Among, contains, with_one, with_all, Node, Iri, Blank, Term, Resource, Literal, Triple, blank_of_node, blank_of_term, blanks_of, place_in, rename_node, rename_term, rename, length-take, map-append, length-map, encode_utf8_all, without_fragment, same_triple_by, WritableTriple, has_blank, is_blank_node, is_blank_term, name_of, AreApart, QuadLine, PageBlank, comment, statement, statement_at, at_place, line_blanks, lines_by, lines_of, lines_from, same_blank, same_line, blank_table, rename_line, numbered_lines, BlankNumbers, number_at, Judgement, refused, accepted, accepted_page, page_seen, AreBefore, AreNew, ComeLast, DocumentStands, PageStands, LinesStand, TellsShared, dataset_line}
use Rattle.rx_model.proofs.Common.{and_from, untrue, or_cases, and_left, and_right, Among_left, Among_right, false_unless, Among_cases, Among_of_map, Among_flat_map, Among_of_flat_map, Among_of_distinct, Among_by_contains}
use Rattle.rx_many.specs.declared.pages.Page.{Page as CodePage}
use Rattle.rx_many.specs.declared.documents.Document.{Document}
use Rattle.rx_many.proofs.FreshLemmas.{still_new, line_here, lines_named}
use Rattle.rx_many.proofs.KeyLemmas.{exact_blanks}
use Rattle.rx_many.proofs.HereLemmas.{known_here, number_here}
use Rattle.rx_many.proofs.LineLemmas.{table_more, stands_old, stands_new, stands_own}

-- ---- blank nodes with the page's place

module _ {A B : Type 0} (to : A → B) where
  node_blanks : (n : Node A) → blank_of_node (rename_node to n) ≡ map to (blank_of_node n)
  node_blanks (Iri iri) = refl
  node_blanks (Blank b) = refl

  term_blanks : (t : Term A) → blank_of_term (rename_term to t) ≡ map to (blank_of_term t)
  term_blanks (Resource n) = node_blanks n
  term_blanks (Literal lexical kind) = refl

  pub triple_blanks : (t : Triple A) → blanks_of (rename to t) ≡ map to (blanks_of t)
  triple_blanks t = ap₂ ◌++◌ (node_blanks t.subject) (term_blanks t.object) ∙ sym (map-append to (blank_of_node t.subject) (blank_of_term t.object))

module _ (f : ℕ → PageBlank) (p : PageBlank → ℕ) where
  node_twice : (n : Node ℕ) → rename_node p (rename_node f n) ≡ rename_node (λ b. p (f b)) n
  node_twice (Iri iri) = refl
  node_twice (Blank b) = refl

  term_twice : (t : Term ℕ) → rename_term p (rename_term f t) ≡ rename_term (λ b. p (f b)) t
  term_twice (Resource n) = ap Resource (node_twice n)
  term_twice (Literal text kind) = refl

  pub twice : (t : Triple ℕ) → rename p (rename f t) ≡ rename (λ b. p (f b)) t
  twice t = let s = node_twice t.subject in let o = term_twice t.object in λ i. record { subject = s i; predicate = t.predicate; object = o i }

-- ---- triples with a blank node

module _ {A B : Type 0} (to : A → B) where
  node_same : (n : Node A) → is_blank_node (rename_node to n) ≡ is_blank_node n
  node_same (Iri iri) = refl
  node_same (Blank b) = refl

  term_same : (t : Term A) → is_blank_term (rename_term to t) ≡ is_blank_term t
  term_same (Resource n) = node_same n
  term_same (Literal lexical kind) = refl

  pub same_blanks : (t : Triple A) → has_blank (rename to t) ≡ has_blank t
  same_blanks t = ap₂ ◌||◌ (node_same t.subject) (term_same t.object)

node_blank : {A : Type 0} (n : Node A) → is_blank_node n ≡ true → (b : A) × Among (blank_of_node n) b
node_blank (Iri iri) e = absurd (true≢false (sym e))
node_blank (Blank b) e = (b, inl refl)

term_blank : {A : Type 0} (t : Term A) → is_blank_term t ≡ true → (b : A) × Among (blank_of_term t) b
term_blank (Resource n) e = node_blank n e
term_blank (Literal lexical kind) e = absurd (true≢false (sym e))

its_blank : {A : Type 0} (t : Triple A) → has_blank t ≡ true → (b : A) × Among (blanks_of t) b
its_blank t e = elim (or_cases (is_blank_node t.subject) (is_blank_term t.object) e) [
  | inl h ↦ (let b = node_blank t.subject h in (b.0, Among_left (blank_of_node t.subject) (blank_of_term t.object) b.0 b.1))
  | inr h ↦ (let b = term_blank t.object h in (b.0, Among_right (blank_of_node t.subject) (blank_of_term t.object) b.0 b.1))
]

-- whether several pages may state it
pub repeats : (is_shared blank : Bool) → (is_shared && not blank) ≡ true → (is_shared ≡ true) × (blank ≡ false)
repeats is_shared blank e = (and_left is_shared (not blank) e, untrue blank (and_right is_shared (not blank) e))

pub repeats_not : (is_shared : Bool) (t : Triple ℕ) (shared : List Chars) (name : Chars) → TellsShared is_shared shared name → (is_shared && not (has_blank t)) ≡ false → Among shared name → has_blank t ≡ false → ⊥
repeats_not is_shared t shared name tells e m n = go is_shared refl
  where
    go : (b : Bool) → is_shared ≡ b → ⊥
    go true y = true≢false (sym (and_from is_shared (not (has_blank t)) y (ap not n)) ∙ e)
    go false y = tells.no y m

-- ---- one triple more

module _ (place : ℕ) (name : Chars) (t : Triple ℕ) (lines : List (QuadLine PageBlank)) (old new : BlankNumbers) (last : ComeLast place old (blank_table lines))
    (stays : new.before ≡ old.before) (grows : new.here ≡ with_all nat_eq old.here (blanks_of t)) where
  still_last : ComeLast place new (blank_table (lines ++ statement_at place name t ∷ []))
  still_last = record {
    front = last.front;
    is =
        sym (table_more lines (statement_at place name t))
        ∙ ap₂ (with_all same_blank) last.is (triple_blanks (at_place place) t)
        ∙ known_here place last.front last.apart old.here (blanks_of t) ∙ ap (λ z. last.front ++ map (at_place place) z) (sym grows);
    count = last.count ∙ sym stays;
    apart = last.apart;
  }

  numbered_here : (u : Triple ℕ) → u ≡ rename (number_at new) t → statement name u ≡ rename_line (place_in same_blank (blank_table (lines ++ statement_at place name t ∷ []))) (statement_at place name t)
  numbered_here u e =
      let to : PageBlank → ℕ = place_in same_blank (blank_table (lines ++ statement_at place name t ∷ [])) in
      let now : ComeLast place new (blank_table (lines ++ statement_at place name t ∷ [])) = still_last in
      ap (statement name)
      (e
      ∙ sym (twice (at_place place) to t
      ∙ same_triple_by (λ b. to (at_place place b)) (number_at new) t
      (λ b m. ap (λ z. place_in same_blank z (at_place place b)) now.is ∙ number_here place now.front now.apart new.here b ∙ ap (λ n. n + place_in nat_eq new.here b) now.count)))

module _ (shared : List Chars) (place : ℕ) (d new : Document) (lines : List (QuadLine PageBlank)) (s : PageStands shared place d lines) (name : Chars) (t u : Triple ℕ)
    (stays : new.blanks.before ≡ d.blanks.before) (grows : new.blanks.here ≡ with_all nat_eq d.blanks.here (blanks_of t)) (renamed : u ≡ rename (number_at new.blanks) t) where
  with_last : LinesStand shared new (lines ++ statement_at place name t ∷ []) → PageStands shared place new (lines ++ statement_at place name t ∷ [])
  with_last stands = record { last = still_last place name t lines d.blanks new.blanks s.last stays grows; stands = stands }

  is_line : statement name u ≡ rename_line (place_in same_blank (blank_table (lines ++ statement_at place name t ∷ []))) (statement_at place name t)
  is_line = numbered_here place name t lines d.blanks new.blanks s.last stays grows u renamed

  as_before : has_blank u ≡ has_blank t
  as_before = ap has_blank renamed ∙ same_blanks (number_at new.blanks) t

  -- it is stated in a line before
  page_old : Among shared name → has_blank t ≡ false → contains same_line d.statements (statement name u) ≡ true → new.text.bytes ≡ d.text.bytes → new.statements ≡ d.statements
      → PageStands shared place new (lines ++ statement_at place name t ∷ [])
  page_old m n there e g = with_last (stands_old shared d new lines s.stands (statement_at place name t) name u is_line m (as_before ∙ n) there e g)

  -- it isn't
  page_new : Among shared name → has_blank t ≡ false → contains same_line d.statements (statement name u) ≡ false → new.text.bytes ≡ d.text.bytes ++ encode_utf8_all (dataset_line (statement name u))
      → new.statements ≡ with_one same_line d.statements (statement name u) → WritableTriple (Some name) u
      → PageStands shared place new (lines ++ statement_at place name t ∷ [])
  page_new m n lacks e g w = with_last (stands_new shared d new lines s.stands (statement_at place name t) name u is_line m (as_before ∙ n) lacks e g w)

  -- no other page states it
  pub own_statement : (Among shared name → has_blank t ≡ false → ⊥) → (Among lines (statement_at place name t) → ⊥) → new.text.bytes ≡ d.text.bytes ++ encode_utf8_all (dataset_line (statement name u))
      → new.statements ≡ d.statements → WritableTriple (Some name) u → PageStands shared place new (lines ++ statement_at place name t ∷ [])
  own_statement own fresh e g w =
      let lacks : contains same_line (numbered_lines lines) (statement name u) ≡ false = ap (contains same_line (numbered_lines lines)) is_line ∙ still_new lines (statement_at place name t) fresh in
      with_last (stands_own shared d new lines s.stands (statement_at place name t) name u is_line (λ m n. own m (sym as_before ∙ n)) lacks e g w)

-- the same of the first two where the name is at hand by another name
module _ (shared : List Chars) (place : ℕ) (d new : Document) (lines : List (QuadLine PageBlank)) (s : PageStands shared place d lines) (name named : Chars) (same : named ≡ name) (m : Among shared name) (t u : Triple ℕ) (n : has_blank t ≡ false)
    (stays : new.blanks.before ≡ d.blanks.before) (grows : new.blanks.here ≡ with_all nat_eq d.blanks.here (blanks_of t)) (renamed : u ≡ rename (number_at new.blanks) t) where
  pub old_statement : contains same_line d.statements (statement named u) ≡ true → new.text.bytes ≡ d.text.bytes → new.statements ≡ d.statements → PageStands shared place new (lines ++ statement_at place name t ∷ [])
  old_statement there e g = subst (λ (z : Chars). PageStands shared place new (lines ++ statement_at place z t ∷ [])) same
      (page_old shared place d new lines s named t u stays grows renamed (subst (λ (z : Chars). Among shared z) (sym same) m) n there e g)

  pub new_statement : contains same_line d.statements (statement named u) ≡ false → new.text.bytes ≡ d.text.bytes ++ encode_utf8_all (dataset_line (statement named u))
      → new.statements ≡ with_one same_line d.statements (statement named u) → WritableTriple (Some named) u
      → PageStands shared place new (lines ++ statement_at place name t ∷ [])
  new_statement lacks e g w = subst (λ (z : Chars). PageStands shared place new (lines ++ statement_at place z t ∷ [])) same
      (page_new shared place d new lines s named t u stays grows renamed (subst (λ (z : Chars). Among shared z) (sym same) m) n lacks e g w)

-- ---- a page begins and ends

pub turned : (shared : List Chars) (place : ℕ) (d new : Document) (lines : List (QuadLine PageBlank)) → DocumentStands shared d lines → AreBefore place (blank_table lines)
    → new.blanks.before ≡ d.blanks.before + length d.blanks.here → new.blanks.here ≡ [] → new.text.bytes ≡ d.text.bytes → new.statements ≡ d.statements → PageStands shared place new lines
turned shared place d new lines s before e f g h = record {
  last = record {
    front = blank_table lines;
    is = sym (append-nil (blank_table lines)) ∙ ap (λ z. blank_table lines ++ map (at_place place) z) (sym f);
    count = s.counted ∙ sym e;
    apart = before;
  };
  stands = record { spells = rw g s.stands.spells; holds = rw h s.stands.holds };
}

pub page_ends : (shared : List Chars) (place : ℕ) (d : Document) (lines : List (QuadLine PageBlank)) → PageStands shared place d lines → DocumentStands shared d lines
page_ends shared place d lines s = record {
  counted =
      ap length s.last.is ∙ length-append s.last.front (map (at_place place) d.blanks.here)
      ∙ ap₂ ◌+◌ s.last.count (length-map d.blanks.here (at_place place));
  stands = s.stands;
}

-- in the graph of the address without fragment
pub in_graph : (shared : List Chars) (place : ℕ) (d : Document) (lines : List (QuadLine PageBlank)) (address name : Chars) (triples : List (Triple ℕ)) → name ≡ without_fragment address
    → PageStands shared place d (lines ++ map (statement_at place name) triples) → DocumentStands shared d (lines ++ lines_of place (accepted_page address triples))
in_graph shared place d lines address name triples e s =
    subst (λ (n : Chars). DocumentStands shared d (lines ++ map (statement_at place n) triples)) e (page_ends shared place d (lines ++ map (statement_at place name) triples) s)

-- ---- the blank nodes of the pages before

line_place : (start : ℕ) (address : Chars) (judgement : Judgement) (l : QuadLine PageBlank) (x : PageBlank) → Among (lines_by start address judgement) l → Among (line_blanks l) x → x.0 ≡ start
line_place start address judgement (comment a f) x m n = absurd n
line_place start address judgement (statement name u) x m n =
    let g = line_here start address judgement name u m in
    let of : Among (blanks_of (rename (at_place start) g.triple)) x = subst (λ (z : Triple PageBlank). Among (blanks_of z) x) g.is n in
    let b = Among_of_map (at_place start) (blanks_of g.triple) x (subst (λ (z : List PageBlank). Among z x) (triple_blanks (at_place start) g.triple) of) in
    sym (ap (λ (p : PageBlank). p.0) b.2)

places_below : (start : ℕ) (pages : List CodePage) (x : PageBlank) → Among (flat_map line_blanks (lines_from start (map page_seen pages))) x → x.0 < start + length pages
places_below start [] x m = absurd m
places_below start (page ∷ pages) x m =
    let s = Among_of_flat_map line_blanks (lines_of start (page_seen page) ++ lines_from (suc start) (map page_seen pages)) x m in
    elim (Among_cases (lines_of start (page_seen page)) (lines_from (suc start) (map page_seen pages)) s.0 s.1) [
      | inl h ↦ (let here = line_place start page.address (page_seen page).judgement s.0 x h s.2 in omega (arith, here))
      | inr k ↦ (let later = places_below (suc start) pages x (Among_flat_map line_blanks (lines_from (suc start) (map page_seen pages)) s.0 x k s.2) in omega (arith, later))
    ]

pub pages_before : (pages : List CodePage) (i : ℕ) → AreBefore i (blank_table (lines_from 0 (map page_seen (take i pages))))
pages_before pages i b =
    let lines : List (QuadLine PageBlank) = lines_from 0 (map page_seen (take i pages)) in
    false_unless (contains same_blank (blank_table lines) (at_place i b))
    (λ h. let below = places_below 0 (take i pages) (at_place i b) (Among_of_distinct same_blank (flat_map line_blanks lines) (at_place i b) (Among_by_contains same_blank exact_blanks (blank_table lines) (at_place i b) h)) in
    let apart : i < i = omega (arith, below, length-take i pages) in omega (arith, apart))

-- what a page states is in no line of those before, where it has a blank node or its graph's name is of this page alone
pub page_is_new : (shared : List Chars) (pages : List CodePage) → AreApart shared pages → (i : ℕ) (page : CodePage) → slice_get pages i ≡ Some page
    → AreNew shared (lines_from 0 (map page_seen (take i pages))) (lines_of i (page_seen page))
page_is_new shared pages apart i page at name t own m k = go (has_blank t) refl
  where
    named : name_of page ≡ name
    named = sym (line_here i page.address (page_seen page).judgement name t m).named

    go : (b : Bool) → has_blank t ≡ b → ⊥
    go true e =
        let x = its_blank t e in
        let here = line_place i page.address (page_seen page).judgement (statement name t) x.0 m x.1 in
        let below = places_below 0 (take i pages) x.0 (Among_flat_map line_blanks (lines_from 0 (map page_seen (take i pages))) (statement name t) x.0 k x.1) in
        omega (arith, here, below, length-take i pages)
    go false e =
        apart i page at (λ h. own (subst (λ (z : Chars). Among shared z) named h) e)
        (subst (λ (z : Chars). Among (map name_of (take i pages)) z) (sym named) (lines_named 0 (take i pages) name t k))
