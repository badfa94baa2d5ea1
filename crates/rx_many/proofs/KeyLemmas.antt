-- The keys of the code's sets, and what they are in the model.
use Rattle.rx_many.proofs.Common.{length-map, ◌≡◌, ℕ, Bool, true, false, List, [], ◌∷◌, length, slice_get, Some, option_map, map, suc, refl, sym, ap, ap₂, ◌∙◌, rules, nat_eq, bytes_eq, arith, true≢false, not, slice_get_within, Chars, IsExact, contains, with_one, Triple, same_triple, triple_seen, exact_numbers, exact_triples, insert_key, any_seen, insert_seen, QuadLine, PageBlank, comment, statement, same_blank, same_line, statement_seen, IsAdded}
use Rattle.rx_model.proofs.Common.{list_any, slice_get-map, same_truth, untrue, and_from, and_left, and_right, exact_texts}
use Rattle.rx_model.proofs.Seen.{triple_tells}
use Rattle.rx_many.specs.declared.statements.Statement.{Statement}
use Rattle.rx_many.specs.contracts.statements.StatementPartialEq.TheImpl as statement_impl

-- ---- blank nodes of pages

pair_path : (a b : PageBlank) → a.0 ≡ b.0 → a.1 ≡ b.1 → a ≡ b
pair_path a b p q = λ i. (p i, q i)

pub exact_blanks : IsExact same_blank
exact_blanks a b = (
  λ h. pair_path a b ((exact_numbers a.0 b.0).0 (and_left (nat_eq a.0 b.0) (nat_eq a.1 b.1) h)) ((exact_numbers a.1 b.1).0 (and_right (nat_eq a.0 b.0) (nat_eq a.1 b.1) h)),
  λ e. and_from (nat_eq a.0 b.0) (nat_eq a.1 b.1) ((exact_numbers a.0 b.0).1 (ap (λ (p : PageBlank). p.0) e)) ((exact_numbers a.1 b.1).1 (ap (λ (p : PageBlank). p.1) e)),
)

-- ---- statements

-- lines that are the same are equal
pub alike : (a b : QuadLine ℕ) → same_line a b ≡ true → a ≡ b
alike (statement n t) (statement m u) h =
    let name : n ≡ m = (exact_texts n m).0 (and_left (bytes_eq n m) (same_triple nat_eq t u) h) in
    let triple : t ≡ u = (exact_triples nat_eq exact_numbers t u).0 (and_right (bytes_eq n m) (same_triple nat_eq t u) h) in
    ap₂ statement name triple
alike (statement n t) (comment a f) h = absurd (true≢false (sym h))
alike (comment a f) line h = absurd (true≢false (sym h))

-- a statement is the same as itself
pub same_as_itself : (n : Chars) (t : Triple ℕ) → same_line (statement n t) (statement n t) ≡ true
same_as_itself n t = and_from (bytes_eq n n) (same_triple nat_eq t t) ((exact_texts n n).1 refl) ((exact_triples nat_eq exact_numbers t t).1 refl)

abbrev pub statement_eq : Statement → Statement → Bool
statement_eq = (statement_impl.ghosts).eq

exact_statements : IsExact statement_eq
exact_statements a b = search rules

statement_tells : (a b : Statement) → same_line (statement_seen a) (statement_seen b) ≡ true → a ≡ b
statement_tells a b h =
    let name : a.name ≡ b.name = (exact_texts a.name b.name).0 (and_left (bytes_eq a.name b.name) (same_triple nat_eq (triple_seen a.triple) (triple_seen b.triple)) h) in
    let triple : a.triple ≡ b.triple = triple_tells a.triple b.triple ((exact_triples nat_eq exact_numbers (triple_seen a.triple) (triple_seen b.triple)).0 (and_right (bytes_eq a.name b.name) (same_triple nat_eq (triple_seen a.triple) (triple_seen b.triple)) h)) in
    λ i. record { name = name i; triple = triple i }

pub statements_agree : (a b : Statement) → statement_eq a b ≡ same_line (statement_seen b) (statement_seen a)
statements_agree a b = same_truth (statement_eq a b) (same_line (statement_seen b) (statement_seen a))
    (λ h. ap (λ z. same_line z (statement_seen a)) (ap statement_seen (sym ((exact_statements a b).0 h))) ∙ same_as_itself a.name (triple_seen a.triple))
    (λ h. (exact_statements a b).1 (sym (statement_tells b a h)))

pub statement_added : (list : List Statement) (s : Statement) → map statement_seen (insert_key statement_eq list s) ≡ with_one same_line (map statement_seen list) (statement_seen s)
statement_added list s = insert_seen statement_seen statement_eq same_line statements_agree list s

pub statement_among : (list : List Statement) (s : Statement) → list_any (statement_eq s) list ≡ contains same_line (map statement_seen list) (statement_seen s)
statement_among list s = any_seen statement_seen statement_eq same_line statements_agree list s

-- a statement that wasn't there is the last one
pub statement_new : (old new : List Statement) (s : Statement) (place : ℕ) (k : Statement) → not (list_any (statement_eq s) old) ≡ true → slice_get new place ≡ Some k → statement_eq s k ≡ true
    → IsAdded (map statement_seen old) (statement_seen s) (map statement_seen new) place
statement_new old new s place k fresh at same = record {
  lacks = sym (statement_among old s) ∙ untrue (list_any (statement_eq s) old) fresh;
  at = slice_get-map statement_seen new place ∙ ap (option_map statement_seen) at ∙ ap (λ z. Some (statement_seen z)) (sym ((exact_statements s k).0 same));
  within = omega (arith, slice_get_within new place k at, length-map new statement_seen);
}

pub statement_old : (old : List Statement) (s : Statement) → not (list_any (statement_eq s) old) ≡ false → contains same_line (map statement_seen old) (statement_seen s) ≡ true
statement_old old s known = sym (statement_among old s) ∙ not_false (list_any (statement_eq s) old) known
  where
    not_false : (b : Bool) → not b ≡ false → b ≡ true
    not_false true h = refl
    not_false false h = absurd (true≢false h)
