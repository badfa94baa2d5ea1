-- A document that grows by one line.
use Rattle.rx_many.proofs.Common.{◌≡◌, ℕ, suc, zero, ◌+◌, Bool, true, false, List, [], ◌∷◌, ◌++◌, map, flat_map, take, length, slice_get, Some, refl, sym, ap, ap₂, ◌∙◌, inl, inr, subst, append_assoc, append-nil, arith, ◌||◌, if◌then◌else◌, map-append, Chars, Among, contains, distinct, with_one, with_all, Triple, place_in, triple_seen, triples_seen, encode_utf8_all, Fault, seen_more, all_distinct, place_stays, same_triple_by, WritableTriple, has_blank, QuadLine, PageBlank, comment, statement, statement_at, lines_of, lines_from, line_blanks, same_blank, blank_table, rename_line, numbered_lines, same_line, kept_after, distinct_lines, page_seen, WritableComment, WritableLine, SpellsLines, HoldsShared, LinesStand, DocumentStands, PageStands, dataset_line, dataset_text}
use Rattle.std.proofs.lemmas.List.Concat.{flat_map-append}
use Rattle.rx_model.proofs.Common.{by_test, encodes-append, or-true, or-false, Among_cases, Among_left, Among_right, false_unless}
use Rattle.rx_terms.specs.declared.triples.Triple.{Triple as CodeTriple}
use Rattle.rx_many.specs.declared.documents.Document.{Document}
use Rattle.rx_many.specs.declared.pages.Page.{Page as CodePage}
use Rattle.rx_many.proofs.KeyLemmas.{exact_blanks, alike}

-- ---- tests of lists

pub contains_both : {A : Type 0} (same : A → A → Bool) (xs ys : List A) (a : A) → contains same (xs ++ ys) a ≡ (contains same xs a || contains same ys a)
contains_both same [] ys a = refl
contains_both same (x ∷ xs) ys a = by_test (same x a) (λ t. rw t refl) (λ t. rw t (contains_both same xs ys a))

flat_more : {A B : Type 0} (f : A → List B) (xs : List A) (x : A) → flat_map f (xs ++ x ∷ []) ≡ flat_map f xs ++ f x
flat_more f xs x = flat_map-append f xs (x ∷ []) ∙ ap (λ z. flat_map f xs ++ z) (append-nil (f x))

-- ---- what is kept of lines

-- a line, unless it states what an earlier one does
abbrev pub unless : Bool → QuadLine ℕ → List (QuadLine ℕ)
unless there line = if there then [] else line ∷ []

pub kept_more : (earlier lines : List (QuadLine ℕ)) (x : QuadLine ℕ) → kept_after earlier (lines ++ x ∷ []) ≡ kept_after earlier lines ++ unless (contains same_line (earlier ++ lines) x) x
kept_more earlier [] x = append-nil (unless (contains same_line earlier x) x) ∙ ap (λ z. unless (contains same_line z x) x) (sym (append-nil earlier))
kept_more earlier (y ∷ lines) x =
    ap (λ z. unless (contains same_line earlier y) y ++ z) (kept_more (earlier ++ y ∷ []) lines x)
    ∙ ap (λ z. unless (contains same_line earlier y) y ++ (kept_after (earlier ++ y ∷ []) lines ++ unless (contains same_line z x) x)) (append_assoc earlier (y ∷ []) lines)
    ∙ sym (append_assoc (unless (contains same_line earlier y) y) (kept_after (earlier ++ y ∷ []) lines) (unless (contains same_line (earlier ++ y ∷ lines) x) x))

module _ (text : List ℕ) (lines : List (QuadLine ℕ)) (k : SpellsLines text lines) (x : QuadLine ℕ) where
  -- the line states what an earlier one does
  spells_old : contains same_line lines x ≡ true → SpellsLines text (lines ++ x ∷ [])
  spells_old there =
      let same : distinct_lines (lines ++ x ∷ []) ≡ distinct_lines lines = kept_more [] lines x ∙ ap (λ b. distinct_lines lines ++ unless b x) there ∙ append-nil (distinct_lines lines) in
      record {
        spelled = k.spelled ∙ ap (λ z. encode_utf8_all (flat_map dataset_line z)) (sym same);
        writable = λ line m. k.writable line (subst (λ (z : List (QuadLine ℕ)). Among z line) same m);
      }

  -- it is written
  spells_new : (next : List ℕ) → contains same_line lines x ≡ false → next ≡ text ++ encode_utf8_all (dataset_line x) → WritableLine x → SpellsLines next (lines ++ x ∷ [])
  spells_new next new e w =
      let same : distinct_lines (lines ++ x ∷ []) ≡ distinct_lines lines ++ x ∷ [] = kept_more [] lines x ∙ ap (λ b. distinct_lines lines ++ unless b x) new in
      record {
        spelled =
            e ∙ ap (λ z. z ++ encode_utf8_all (dataset_line x)) k.spelled
            ∙ sym (encodes-append (dataset_text lines) (dataset_line x)) ∙ ap encode_utf8_all (sym (flat_more dataset_line (distinct_lines lines) x))
            ∙ ap (λ z. encode_utf8_all (flat_map dataset_line z)) (sym same);
        writable = λ line m. elim (Among_cases (distinct_lines lines) (x ∷ []) line (subst (λ (z : List (QuadLine ℕ)). Among z line) same m)) [
          | inl h ↦ k.writable line h
          | inr h ↦ elim h [ inl e ↦ subst WritableLine e w | inr n ↦ absurd n ]
        ];
      }

module _ (shared : List Chars) (statements lines : List (QuadLine ℕ)) (k : HoldsShared shared statements lines) (x : QuadLine ℕ) where
  holds_old : contains same_line statements x ≡ true → HoldsShared shared statements (lines ++ x ∷ [])
  holds_old there name t m n = go (same_line x (statement name t)) refl ∙ sym (contains_both same_line lines (x ∷ []) (statement name t))
    where
      go : (b : Bool) → same_line x (statement name t) ≡ b → contains same_line statements (statement name t) ≡ (contains same_line lines (statement name t) || (same_line x (statement name t) || false))
      go true e =
          let is : x ≡ statement name t = alike x (statement name t) e in
          ap (contains same_line statements) (sym is) ∙ there ∙ sym (ap (λ b. contains same_line lines (statement name t) || (b || false)) e ∙ or-true (contains same_line lines (statement name t)))
      go false e = k name t m n ∙ sym (ap (λ b. contains same_line lines (statement name t) || (b || false)) e ∙ or-false (contains same_line lines (statement name t)))

  holds_new : HoldsShared shared (statements ++ x ∷ []) (lines ++ x ∷ [])
  holds_new name t m n =
      contains_both same_line statements (x ∷ []) (statement name t) ∙ ap (λ b. b || (same_line x (statement name t) || false)) (k name t m n)
      ∙ sym (contains_both same_line lines (x ∷ []) (statement name t))

  -- it is in none of these graphs
  holds_other : ((name : Chars) (t : Triple ℕ) → Among shared name → has_blank t ≡ false → same_line x (statement name t) ≡ false) → HoldsShared shared statements (lines ++ x ∷ [])
  holds_other other name t m n =
      k name t m n
      ∙ sym (contains_both same_line lines (x ∷ []) (statement name t) ∙ ap (λ b. contains same_line lines (statement name t) || (b || false)) (other name t m n) ∙ or-false (contains same_line lines (statement name t)))

in_own : (shared : List Chars) (name : Chars) (u : Triple ℕ) → (Among shared name → has_blank u ≡ false → ⊥) → (other : Chars) (t : Triple ℕ) → Among shared other → has_blank t ≡ false
    → same_line (statement name u) (statement other t) ≡ false
in_own shared name u own other t m n = false_unless (same_line (statement name u) (statement other t))
    (λ h. let is : statement name u ≡ statement other t = alike (statement name u) (statement other t) h in
    let names : other ≡ name = cc in
    let triples : t ≡ u = cc in
    own (subst (λ (z : Chars). Among shared z) names m) (ap has_blank (sym triples) ∙ n))

-- no line is the same as a comment
no_comment : (lines : List (QuadLine ℕ)) (address : Chars) (fault : Fault) → contains same_line lines (comment address fault) ≡ false
no_comment [] address fault = refl
no_comment (statement n t ∷ lines) address fault = no_comment lines address fault
no_comment (comment a f ∷ lines) address fault = no_comment lines address fault

-- ---- numbers

pub table_more : (lines : List (QuadLine PageBlank)) (l : QuadLine PageBlank) → with_all same_blank (blank_table lines) (line_blanks l) ≡ blank_table (lines ++ l ∷ [])
table_more lines l = all_distinct same_blank exact_blanks (flat_map line_blanks lines) (line_blanks l) ∙ ap (distinct same_blank) (sym (flat_more line_blanks lines l))

line_stays : (p q : PageBlank → ℕ) (l : QuadLine PageBlank) → ((b : PageBlank) → Among (line_blanks l) b → p b ≡ q b) → rename_line p l ≡ rename_line q l
line_stays p q (comment a f) h = refl
line_stays p q (statement n t) h = ap (statement n) (same_triple_by p q t h)

lines_stay : (p q : PageBlank → ℕ) (lines : List (QuadLine PageBlank)) → ((b : PageBlank) → Among (flat_map line_blanks lines) b → p b ≡ q b) → map (rename_line p) lines ≡ map (rename_line q) lines
lines_stay p q [] h = refl
lines_stay p q (l ∷ lines) h =
    ap₂ ◌∷◌ (line_stays p q l (λ b m. h b (Among_left (line_blanks l) (flat_map line_blanks lines) b m)))
    (lines_stay p q lines (λ b m. h b (Among_right (line_blanks l) (flat_map line_blanks lines) b m)))

-- the lines by the numbers that there are with one more line
pub numbers_stay : (lines : List (QuadLine PageBlank)) (l : QuadLine PageBlank) → numbered_lines lines ≡ map (rename_line (place_in same_blank (blank_table (lines ++ l ∷ [])))) lines
numbers_stay lines l = lines_stay (place_in same_blank (blank_table lines)) (place_in same_blank (blank_table (lines ++ l ∷ []))) lines
    (λ b m. place_stays same_blank exact_blanks (flat_map line_blanks lines) (line_blanks l) b m ∙ ap (λ z. place_in same_blank (distinct same_blank z) b) (sym (flat_more line_blanks lines l)))

pub numbered_more : (lines : List (QuadLine PageBlank)) (l : QuadLine PageBlank) → numbered_lines lines ++ rename_line (place_in same_blank (blank_table (lines ++ l ∷ []))) l ∷ [] ≡ numbered_lines (lines ++ l ∷ [])
numbered_more lines l =
    let next : PageBlank → ℕ = place_in same_blank (blank_table (lines ++ l ∷ [])) in
    ap (λ z. z ++ rename_line next l ∷ []) (numbers_stay lines l)
    ∙ sym (map-append (rename_line next) lines (l ∷ []))

-- ---- one line more

module _ (shared : List Chars) (d new : Document) (lines : List (QuadLine PageBlank)) (s : LinesStand shared d lines) where
  -- a line whose blank nodes have the numbers that there are with it
  stands_with : (l : QuadLine PageBlank) (x : QuadLine ℕ) → x ≡ rename_line (place_in same_blank (blank_table (lines ++ l ∷ []))) l → (text : List ℕ) (statements : List (QuadLine ℕ))
      → SpellsLines text (numbered_lines lines ++ x ∷ []) → HoldsShared shared statements (numbered_lines lines ++ x ∷ []) → new.text.bytes ≡ text → new.statements ≡ statements → LinesStand shared new (lines ++ l ∷ [])
  stands_with l x is text statements spells holds e g =
      let now : numbered_lines lines ++ x ∷ [] ≡ numbered_lines (lines ++ l ∷ []) = ap (λ z. numbered_lines lines ++ z ∷ []) is ∙ numbered_more lines l in
      record {
        spells = subst (λ (z : List (QuadLine ℕ)). SpellsLines new.text.bytes z) now (subst (λ (z : List ℕ). SpellsLines z (numbered_lines lines ++ x ∷ [])) (sym e) spells);
        holds = subst (λ (z : List (QuadLine ℕ)). HoldsShared shared new.statements z) now (subst (λ (z : List (QuadLine ℕ)). HoldsShared shared z (numbered_lines lines ++ x ∷ [])) (sym g) holds);
      }

  comment_stands : (address : Chars) (fault : Fault) → new.text.bytes ≡ d.text.bytes ++ encode_utf8_all (dataset_line (comment address fault)) → new.statements ≡ d.statements → WritableComment address fault
      → LinesStand shared new (lines ++ comment address fault ∷ [])
  comment_stands address fault e g w =
      stands_with (comment address fault) (comment address fault) refl new.text.bytes d.statements
      (spells_new d.text.bytes (numbered_lines lines) s.spells (comment address fault) new.text.bytes (no_comment (numbered_lines lines) address fault) e w)
      (holds_other shared d.statements (numbered_lines lines) s.holds (comment address fault) (λ name t m n. refl)) refl g

  module _ (l : QuadLine PageBlank) (name : Chars) (u : Triple ℕ) (is : statement name u ≡ rename_line (place_in same_blank (blank_table (lines ++ l ∷ []))) l) where
    pub stands_old : Among shared name → has_blank u ≡ false → contains same_line d.statements (statement name u) ≡ true → new.text.bytes ≡ d.text.bytes → new.statements ≡ d.statements → LinesStand shared new (lines ++ l ∷ [])
    stands_old m n there e g =
        stands_with l (statement name u) is d.text.bytes d.statements
        (spells_old d.text.bytes (numbered_lines lines) s.spells (statement name u) (sym (s.holds name u m n) ∙ there))
        (holds_old shared d.statements (numbered_lines lines) s.holds (statement name u) there) e g

    pub stands_new : Among shared name → has_blank u ≡ false → contains same_line d.statements (statement name u) ≡ false → new.text.bytes ≡ d.text.bytes ++ encode_utf8_all (dataset_line (statement name u))
        → new.statements ≡ with_one same_line d.statements (statement name u) → WritableTriple (Some name) u
        → LinesStand shared new (lines ++ l ∷ [])
    stands_new m n lacks e g w =
        let added : new.statements ≡ d.statements ++ statement name u ∷ [] = g ∙ ap (λ b. if b then d.statements else d.statements ++ statement name u ∷ []) lacks in
        stands_with l (statement name u) is new.text.bytes (d.statements ++ statement name u ∷ [])
        (spells_new d.text.bytes (numbered_lines lines) s.spells (statement name u) new.text.bytes (sym (s.holds name u m n) ∙ lacks) e w)
        (holds_new shared d.statements (numbered_lines lines) s.holds (statement name u)) refl added

    -- in the graph of one page
    pub stands_own : (Among shared name → has_blank u ≡ false → ⊥) → contains same_line (numbered_lines lines) (statement name u) ≡ false → new.text.bytes ≡ d.text.bytes ++ encode_utf8_all (dataset_line (statement name u))
        → new.statements ≡ d.statements → WritableTriple (Some name) u → LinesStand shared new (lines ++ l ∷ [])
    stands_own own lacks e g w =
        stands_with l (statement name u) is new.text.bytes d.statements
        (spells_new d.text.bytes (numbered_lines lines) s.spells (statement name u) new.text.bytes lacks e w)
        (holds_other shared d.statements (numbered_lines lines) s.holds (statement name u) (in_own shared name u own)) refl g

pub stands_comment : (shared : List Chars) (d new : Document) (lines : List (QuadLine PageBlank)) → DocumentStands shared d lines → (address : Chars) (fault : Fault)
    → new.text.bytes ≡ d.text.bytes ++ encode_utf8_all (dataset_line (comment address fault)) → new.blanks ≡ d.blanks → new.statements ≡ d.statements → WritableComment address fault
    → DocumentStands shared new (lines ++ comment address fault ∷ [])
stands_comment shared d new lines s address fault e f g w = record {
  counted = sym (ap length (table_more lines (comment address fault))) ∙ s.counted ∙ sym (ap (λ n. n.before + length n.here) f);
  stands = comment_stands shared d new lines s.stands address fault e g w;
}

-- ---- the triples of a page, and the pages

pub page_begins : {shared : List Chars} {place : ℕ} {d : Document} {lines : List (QuadLine PageBlank)} → PageStands shared place d lines → PageStands shared place d (lines ++ [])
page_begins {shared = shared} {place = place} {d = d} {lines = lines} s = subst (λ (z : List (QuadLine PageBlank)). PageStands shared place d z) (sym (append-nil lines)) s

pub triples_more : (lines : List (QuadLine PageBlank)) (place : ℕ) (name : Chars) (list : List CodeTriple) (i : ℕ) (t : CodeTriple) → slice_get list i ≡ Some t
    → (lines ++ map (statement_at place name) (triples_seen (take i list))) ++ statement_at place name (triple_seen t) ∷ [] ≡ lines ++ map (statement_at place name) (triples_seen (take (i + 1) list))
triples_more lines place name list i t at =
    append_assoc lines (map (statement_at place name) (triples_seen (take i list))) (statement_at place name (triple_seen t) ∷ [])
    ∙ ap (λ z. lines ++ z) (sym (map-append (statement_at place name) (triples_seen (take i list)) (triple_seen t ∷ [])) ∙ ap (map (statement_at place name)) (sym (seen_more list i t at)))

pages_on : (start : ℕ) (pages : List CodePage) (i : ℕ) (page : CodePage) → slice_get pages i ≡ Some page
    → lines_from start (map page_seen (take i pages)) ++ lines_of (start + i) (page_seen page) ≡ lines_from start (map page_seen (take (suc i) pages))
pages_on start [] i page at = absurd (cc)
pages_on start (first ∷ pages) zero page at =
    let same : page ≡ first = cc in
    let here : start + 0 ≡ start = omega arith in
    ap₂ (λ n p. lines_of n (page_seen p)) here same ∙ sym (append-nil (lines_of start (page_seen first)))
pages_on start (first ∷ pages) (suc i) page at =
    let there : start + suc i ≡ suc start + i = omega arith in
    append_assoc (lines_of start (page_seen first)) (lines_from (suc start) (map page_seen (take i pages))) (lines_of (start + suc i) (page_seen page))
    ∙ ap (λ n. lines_of start (page_seen first) ++ (lines_from (suc start) (map page_seen (take i pages)) ++ lines_of n (page_seen page))) there
    ∙ ap (λ z. lines_of start (page_seen first) ++ z) (pages_on (suc start) pages i page at)

pub pages_more : (pages : List CodePage) (i : ℕ) (page : CodePage) → slice_get pages i ≡ Some page
    → lines_from 0 (map page_seen (take i pages)) ++ lines_of i (page_seen page) ≡ lines_from 0 (map page_seen (take (i + 1) pages))
pages_more pages i page at =
    let here : i ≡ 0 + i = omega arith in
    let up : suc i ≡ i + 1 = omega arith in
    ap (λ n. lines_from 0 (map page_seen (take i pages)) ++ lines_of n (page_seen page)) here ∙ pages_on 0 pages i page at ∙ ap (λ n. lines_from 0 (map page_seen (take n pages))) up
