-- The triples of an owner's lists, list by list.
use Rattle.rx_rdfa.proofs.Common.{◌≡◌, ◌∙◌, ℕ, zero, suc, ◌+◌, ◌≤◌, ◌<◌, ◌^◌, List, [], ◌∷◌, ◌++◌, filter_map, length, drop, get_or, Option, Some, None, refl, sym, ap, ap₂, subst, arith, append_assoc, append-nil, add-one, slice_get, slice_set, Bool, true, false, ◌-◌, take, option_to_list, length-append, drop-cons, not, length-map, at_drop_all, Chars, take-append_seam, Node, Triple, term_seen, list_of}
use Rattle.rx_terms.specs.declared.triples.Term.{Term as CodeTerm}
use Rattle.rx_lists.specs.Owners.{Owned, Owners, Slots, itself, is_finished, trimmed_tail, trimmed_by}
use Rattle.rx_lists.specs.Cells.{cells_of, items_seen, size, terms_in}

-- what is written, and what is still to be written of the lists that are left, is the whole
pub record LeftOver (subject : Node ℕ) (out : List (Triple ℕ)) (next : ℕ) (left : Slots) (first : ℕ) (lists : Slots) : Type 0 where
  pub triples : out ++ cells_of next subject (items_seen left) ≡ cells_of first subject (items_seen lists)
  pub cells : next + size (items_seen left) ≡ first + size (items_seen lists)
  pub room : next + size left < 2 ^ 64

no_more : (slots : List (Option CodeTerm)) → length (terms_in slots) ≤ length slots
no_more slots = omega (arith, length-map (filter_map itself slots) term_seen, fewer slots) where
  fewer : (s : List (Option CodeTerm)) → length (filter_map itself s) ≤ length s
  fewer [] = omega arith
  fewer (Some x ∷ s) = omega (arith, fewer s)
  fewer (None ∷ s) = omega (arith, fewer s)

pub next_list : (subject given : Node ℕ) (out more : List (Triple ℕ)) (next after first i : ℕ) (p : Chars) (s : List (Option CodeTerm)) (lists : Slots) → i < length lists → given ≡ subject
    → p ≡ (get_or lists i ([], [])).0 → s ≡ (get_or lists i ([], [])).1
    → more ≡ out ++ list_of (λ j. next + j) given p (terms_in s) → after ≡ next + length (terms_in s)
    → LeftOver subject out next (drop i lists) first lists → LeftOver subject more after (drop (i + 1) lists) first lists
next_list subject given out more next after first i p s lists h g k t m a l =
    let rest = drop (suc i) lists in
    let cut : drop i lists ≡ (p, s) ∷ rest = drop-cons lists i ([], []) h ∙ ap₂ (λ (x : Chars) (y : List (Option CodeTerm)). (x, y) ∷ rest) (sym k) (sym t) in
    let e1 : out ++ cells_of next subject (items_seen ((p, s) ∷ rest)) ≡ cells_of first subject (items_seen lists) =
    ap (λ (x : Slots). out ++ cells_of next subject (items_seen x)) (sym cut) ∙ l.triples in
    let e2 : next + size (items_seen ((p, s) ∷ rest)) ≡ first + size (items_seen lists) = ap (λ (x : Slots). next + size (items_seen x)) (sym cut) ∙ l.cells in
    let e3 : next + size ((p, s) ∷ rest) < 2 ^ 64 = subst (λ (x : Slots). next + size x < 2 ^ 64) cut l.room in
    rw add-one (record {
      triples = rw (m, a, g) (append_assoc out _ _ ∙ e1);
      cells = omega (arith, a, e2);
      room = omega (arith, a, e3, no_more s);
    })

pub room_for : (subject : Node ℕ) (out : List (Triple ℕ)) (next first i : ℕ) (s : List (Option CodeTerm)) (lists : Slots) → i < length lists → s ≡ (get_or lists i ([], [])).1
    → LeftOver subject out next (drop i lists) first lists → next + length s < 2 ^ 64
room_for subject out next first i s lists h t l =
    let cut : size (drop i lists) ≡ length (get_or lists i ([], [])).1 + size (drop (suc i) lists) = ap size (drop-cons lists i ([], []) h) in
    omega (arith, cut, l.room, ap length t)

pub all_written : (subject : Node ℕ) (out : List (Triple ℕ)) (next first i : ℕ) (lists : Slots) → length lists ≤ i
    → LeftOver subject out next (drop i lists) first lists → (out ≡ cells_of first subject (items_seen lists)) × (next ≡ first + size (items_seen lists))
all_written subject out next first i lists h l =
    let none : drop i lists ≡ [] = at_drop_all (λ x. x) lists i h in
    let e1 : out ++ cells_of next subject (items_seen []) ≡ cells_of first subject (items_seen lists) = ap (λ (x : Slots). out ++ cells_of next subject (items_seen x)) (sym none) ∙ l.triples in
    let e2 : next + size (items_seen []) ≡ first + size (items_seen lists) = ap (λ (x : Slots). next + size (items_seen x)) (sym none) ∙ l.cells in
    (sym (append-nil out) ∙ e1, omega (arith, e2))

pub got : {A : Type 0} (xs : List A) (i : ℕ) (d x : A) → slice_get xs i ≡ Some x → x ≡ get_or xs i d
got [] i d x h = absurd (cc)
got (y ∷ xs) zero d x h = cc
got (y ∷ xs) (suc i) d x h = got xs i d x h

-- the finished owners at the end
pub trim_pop : (xs : Owners) (n : ℕ) → length xs ≡ suc n → is_finished (slice_get xs n) ≡ true → trimmed_tail (take n xs) ≡ trimmed_tail xs
trim_pop [] n e h = absurd (omega arith)
trim_pop (None ∷ []) zero e h = refl
trim_pop (Some o ∷ []) zero e h = absurd (cc)
trim_pop (o ∷ []) (suc n) e h = absurd (omega arith)
trim_pop (o ∷ p ∷ more) zero e h = absurd (omega arith)
trim_pop (o ∷ p ∷ more) (suc n) e h = ap (trimmed_by o) (trim_pop (p ∷ more) n (omega arith) h)

kept_last : (xs : Owners) (n : ℕ) → length xs ≡ suc n → is_finished (slice_get xs n) ≡ false → trimmed_tail xs ≡ xs
kept_last [] n e h = absurd (omega arith)
kept_last (None ∷ []) zero e h = absurd (cc)
kept_last (Some o ∷ []) zero e h = refl
kept_last (o ∷ []) (suc n) e h = absurd (omega arith)
kept_last (o ∷ p ∷ more) zero e h = absurd (omega arith)
kept_last (None ∷ p ∷ more) (suc n) e h = ap (trimmed_by None) (kept_last (p ∷ more) n (omega arith) h)
kept_last (Some o ∷ p ∷ more) (suc n) e h = ap (trimmed_by (Some o)) (kept_last (p ∷ more) n (omega arith) h)

pub trim_end : (xs : Owners) → is_finished (slice_get xs (length xs - 1)) ≡ false → trimmed_tail xs ≡ xs
trim_end [] h = refl
trim_end (o ∷ xs) h =
    let z : length (o ∷ xs) - 1 ≡ length xs = omega arith in
    kept_last (o ∷ xs) (length xs) refl (subst (λ (n : ℕ). is_finished (slice_get (o ∷ xs) n) ≡ false) z h)

pub trim_turn : (xs ys : Owners) → is_finished (slice_get xs (length xs - 1)) ≡ true → ys ≡ take (length xs - 1) xs → trimmed_tail ys ≡ trimmed_tail xs
trim_turn [] ys h e = absurd (cc)
trim_turn (o ∷ xs) ys h e =
    let z : length (o ∷ xs) - 1 ≡ length xs = omega arith in
    ap trimmed_tail e ∙ ap (λ (n : ℕ). trimmed_tail (take n (o ∷ xs))) z
    ∙ trim_pop (o ∷ xs) (length xs) refl (subst (λ (n : ℕ). is_finished (slice_get (o ∷ xs) n) ≡ true) z h)

pub trim_popped : (xs ys : Owners) (o : Option (Option Owned)) → is_finished (slice_get xs (length xs - 1)) ≡ true → xs ≡ ys ++ option_to_list o → trimmed_tail ys ≡ trimmed_tail xs
trim_popped xs ys None h e = ap trimmed_tail (sym (append-nil ys) ∙ sym e)
trim_popped xs ys (Some p) h e =
    let n : length xs - 1 ≡ length ys = omega (arith, ap length e, length-append ys (p ∷ [])) in
    trim_turn xs ys h (sym (take-append_seam ys (p ∷ [])) ∙ ap (take (length ys)) (sym e) ∙ ap (λ (k : ℕ). take k xs) (sym n))

-- the last owner, cut off or finished
last_gone : (xs : Owners) (n : ℕ) → suc n ≡ length xs → trimmed_tail (take n xs) ≡ trimmed_tail (slice_set xs n None)
last_gone [] n e = absurd (omega arith)
last_gone (o ∷ []) zero e = refl
last_gone (o ∷ []) (suc n) e = absurd (omega arith)
last_gone (o ∷ p ∷ more) zero e = absurd (omega arith)
last_gone (o ∷ p ∷ more) (suc n) e = ap (trimmed_by o) (last_gone (p ∷ more) n (omega arith))

pub cut_last : (xs ys : Owners) (n : ℕ) → n + 1 ≡ length xs → ys ≡ take n xs → trimmed_tail ys ≡ trimmed_tail (slice_set xs n None)
cut_last xs ys n e h = ap trimmed_tail h ∙ last_gone xs n (omega (arith, e))

-- as many numbers are left as the lists that are left may take
pub record Fitting (numbers next : ℕ) (left lists : Slots) : Type 0 where
  pub path : numbers + (next + size lists) + 1 ≡ 2 ^ 64 + size left

pub trim_unless : (xs : Owners) (b : Bool) → b ≡ is_finished (slice_get xs (length xs - 1)) → not b ≡ true → trimmed_tail xs ≡ xs
trim_unless xs true e h = absurd (cc)
trim_unless xs false e h = trim_end xs (sym e)
