-- What is written of triples that are cut where their key changes.
use Rattle.rx_turtle.proofs.Common.{chars, nat_tests, drop-map, Chars, ascii-chars, Node, Triple, Prefixes, separated, Delivery, Adds, adds_then, adds_nothing, adds_by, adds_failed, Keyed, group_key, has_key, all_in, put_before, runs, said_in}
use Rattle.std.proofs.Common.{◌≡◌, ◌∙◌, ℕ, zero, suc, ◌+◌, ◌<◌, ◌≤◌, Bool, true, false, List, [], ◌∷◌, ◌++◌, map, flat_map, length, length-append, take, drop, drop_of_length-le, Bor, refl, sym, ap, ap₂, arith, append_assoc, append-nil, codes, drop_at, ◌==◌, take-append-drop, if◌then◌else◌}
use Rattle.rx_terms.proofs.Bools.{by_test}
use Rattle.rx_terms.specs.declared.triples.Triple.{Triple as CodeTriple}
use Rattle.rx_turtle.specs.declared.keys.By.{By}
use Rattle.rx_turtle.specs.declared.keys.By.TheVariants as by
use Rattle.rx_turtle.proofs.GroupLemmas.{lent_seen}
use Rattle.rx_turtle.proofs.ArrangedLemmas.{first_key, seen_length}
use Rattle.rx_turtle.specs.Written.{group_text, first_line, said_text, statements_text, first_statement, later}

-- ---- a text by what is left of it

-- a front of the text is written, and this is left
pub record Remains (start now : Delivery) (whole rest : Chars) : Type 0 where
  pub front : Chars
  pub adds : Adds start now front
  pub both : whole ≡ front ++ rest

pub remains_start : (start : Delivery) (whole : Chars) → Remains start start whole whole
remains_start start whole = record { front = []; adds = adds_nothing start; both = refl }

pub remains_less : {start now next : Delivery} {whole rest : Chars} (text less : Chars) → Remains start now whole rest → rest ≡ text ++ less → Adds now next text → Remains start next whole less
remains_less text less h e k = record {
  front = h.front ++ text;
  adds = adds_then h.adds k;
  both = h.both ∙ ap (λ z. h.front ++ z) e ∙ sym (append_assoc h.front text less);
}

pub remains_none : {start now : Delivery} {whole rest : Chars} → Remains start now whole rest → rest ≡ [] → Adds start now whole
remains_none h e = adds_by (sym (h.both ∙ ap (λ z. h.front ++ z) e ∙ append-nil h.front)) h.adds

-- the sink failed, and no more is written
pub remains_failed : {start now : Delivery} {whole rest : Chars} → Remains start now whole rest → now.underway.failed ≡ true → Adds start now whole
remains_failed {rest = rest} h failed = adds_by (sym h.both) (adds_failed rest failed h.adds)

-- ---- a list that is cut where its key changes

front_put : (kind : By) (t : Triple ℕ) (groups : List Keyed) → all_in (put_before kind t groups) ≡ t ∷ all_in groups
front_put kind t [] = refl
front_put kind t (group ∷ groups) = by_test (has_key kind group.0 t) (λ e. rw e refl) (λ e. rw e refl)

-- the parts are the list
runs_all : (kind : By) (list : List (Triple ℕ)) → all_in (runs kind list) ≡ list
runs_all kind [] = refl
runs_all kind (t ∷ list) = front_put kind t (runs kind list) ∙ ap (λ z. t ∷ z) (runs_all kind list)

drop_back : {A : Type 0} (list front rest : List A) (n : ℕ) → list ≡ front ++ rest → n + length rest ≡ length list → drop n list ≡ rest
drop_back list front rest n e sizes =
    let whole : length list ≡ length (front ++ rest) = ap length e in
    let both : length (front ++ rest) ≡ length front + length rest = length-append front rest in
    let same : n ≡ length front = omega (arith, sizes, whole, both) in
    ap (λ m. drop m list) same ∙ ap (drop (length front)) e ∙ drop_at front rest (length front) refl

-- the list from the next part on
next_part : (kind : By) (list front rest : List (Triple ℕ)) (at n : ℕ) (key : Node ℕ) → runs kind (drop at list) ≡ (key, front) ∷ runs kind rest → n + length rest ≡ length list → drop n list ≡ rest
next_part kind list front rest at n key e sizes =
    let here : drop at list ≡ front ++ rest = sym (runs_all kind (drop at list)) ∙ ap all_in e ∙ ap (λ z. front ++ z) (runs_all kind rest) in
    drop_back list (take at list ++ front) rest n (sym (take-append-drop at list) ∙ ap (λ z. take at list ++ z) here ∙ sym (append_assoc (take at list) front rest)) sizes

module _ (kind : By) (list : List (Bor CodeTriple)) (at : ℕ) (rest run behind : List (Bor CodeTriple)) (key : Node ℕ) (is : rest ≡ drop at list)
    (cuts : runs kind (map lent_seen rest) ≡ (key, map lent_seen run) ∷ runs kind (map lent_seen behind)) where
  -- the runs from here on
  pub here_runs : runs kind (drop at (map lent_seen list)) ≡ (key, map lent_seen run) ∷ runs kind (map lent_seen behind)
  here_runs = ap (runs kind) (drop-map lent_seen at list ∙ ap (map lent_seen) (sym is)) ∙ cuts

  pub later_runs : (n : ℕ) → n + length behind ≡ length list → runs kind (drop n (map lent_seen list)) ≡ later (runs kind (drop at (map lent_seen list)))
  later_runs n sizes =
      let one : length (map lent_seen list) ≡ length list = seen_length list in
      let other : length (map lent_seen behind) ≡ length behind = seen_length behind in
      ap (runs kind) (next_part kind (map lent_seen list) (map lent_seen run) (map lent_seen behind) at n key here_runs (omega (arith, sizes, one, other))) ∙ ap later (sym here_runs)

pub none_left : (kind : By) (list : List (Triple ℕ)) (n : ℕ) → length list ≤ n → runs kind (drop n list) ≡ []
none_left kind list n past = ap (runs kind) (drop_of_length-le list past)

some_left : (kind : By) (list : List (Triple ℕ)) (at : ℕ) → at < length list → (group : Keyed) × (groups : List Keyed) × (runs kind (drop at list) ≡ group ∷ groups)
some_left kind [] at less = absurd (omega (arith, less))
some_left kind (t ∷ list) zero less = let first = first_key kind t (runs kind list) in ((group_key kind t, first.0), first.1, first.2)
some_left kind (t ∷ list) (suc at) less = some_left kind list at (omega (arith, less))

-- ---- statements

pub statements_next : (context : Prefixes) (parts more : List Keyed) → more ≡ later parts → statements_text context parts ≡ first_statement context parts ++ statements_text context more
statements_next context [] more e = sym (ap (statements_text context) e)
statements_next context (part ∷ parts) more e = ap (λ z. said_text context (said_in part) ++ statements_text context z) (sym e)

-- ---- lines

abbrev between : Chars
between = codes " ;\n    "

-- the lines from a place on
abbrev pub lines_from : Prefixes → ℕ → List Keyed → Chars
lines_from context zero parts = separated between (map (group_text context) parts)
lines_from context (suc at) parts = flat_map (λ next. between ++ next) (map (group_text context) parts)

pub lines_next : (context : Prefixes) (list : List (Triple ℕ)) (at next : ℕ) → at < length list → at < next → runs by.Predicate (drop next list) ≡ later (runs by.Predicate (drop at list))
    → lines_from context at (runs by.Predicate (drop at list))
    ≡ ((if at == 0 then [] else chars between) ++ first_line context (runs by.Predicate (drop at list))) ++ lines_from context next (runs by.Predicate (drop next list))
lines_next context list at next less more is =
    let parts = some_left by.Predicate list at less in
    ap (lines_from context at) parts.2 ∙ go at next more parts.0 parts.1
    ∙ ap₂ (λ (x y : List Keyed). ((if at == 0 then [] else chars between) ++ first_line context x) ++ lines_from context next y) (sym parts.2) (sym (is ∙ ap later parts.2))
  where
    go : (at next : ℕ) → at < next → (group : Keyed) → (groups : List Keyed)
        → lines_from context at (group ∷ groups) ≡ ((if at == 0 then [] else chars between) ++ group_text context group) ++ lines_from context next groups
    go at zero more group groups = absurd (omega (arith, more))
    go zero (suc next) more group groups = refl
    go (suc at) (suc next) more group groups =
        let some : (suc at == 0) ≡ false = grind (arith, nat_tests) in
        let gap : (if suc at == 0 then [] else chars between) ≡ between = ap (λ b. if b then [] else chars between) some ∙ ascii-chars between refl in
        ap (λ z. (z ++ group_text context group) ++ flat_map (λ n. between ++ n) (map (group_text context) groups)) (sym gap)

pub no_lines : (context : Prefixes) (at : ℕ) (parts : List Keyed) → parts ≡ [] → lines_from context at parts ≡ []
no_lines context zero parts e = ap (λ (z : List Keyed). separated between (map (group_text context) z)) e
no_lines context (suc at) parts e = ap (λ (z : List Keyed). flat_map (λ next. between ++ next) (map (group_text context) z)) e
