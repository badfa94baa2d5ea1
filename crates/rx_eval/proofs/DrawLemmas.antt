-- Labels draw their numbers one after another.
use Rattle.std.proofs.lemmas.List.{take-append-drop}
use Rattle.std.proofs.lemmas.Grind.{flat_map-append}
use Rattle.rx_eval.proofs.Common.{◌≡◌, ◌∙◌, Result, Ok, Err, IfOk, ℕ, suc, Some, slice_get, ◌+◌, ◌<◌, ◌≤◌, ◌^◌, List, [], ◌∷◌, ◌++◌, length, drop, take, flat_map, refl, sym, ap, subst, arith, length-append, append-nil, append_assoc, add-one, OnErr, take_all, at_drop_all, slice_get_within, get_or_from_slice_get, is_some, IfOk-weaker, on_err_weaker, Chars, by_test, label_of, take-suc, ref_seen, refs_seen, Numbered, label_number, draw, Drawn, DrawnSome, map-append}
use Rattle.std.proofs.Math.Seq.{drop-cons}
use Rattle.rx_curie.specs.declared.refs.Ref.{Ref as CodeRef}

pub drop_at : {A : Type 0} (xs : List A) (i : ℕ) (x : A) → slice_get xs i ≡ Some x → drop i xs ≡ x ∷ drop (suc i) xs
drop_at xs i x h = drop-cons xs i x (slice_get_within xs i x h) ∙ ap (λ (y : _). y ∷ drop (suc i) xs) (get_or_from_slice_get xs i x x h)

pub nothing_left : {A : Type 0} (i : ℕ) (xs : List A) → length xs ≤ i → drop i xs ≡ []
nothing_left i xs h = at_drop_all (λ x. x) xs i h

draw_then : (old : Numbered) (next : ℕ) (xs ys : List Chars) → draw old next (xs ++ ys) ≡ draw (draw old next xs).0 (draw old next xs).1 ys
draw_then old next [] ys = refl
draw_then old next (x ∷ xs) ys =
    by_test (is_some (label_number old x)) (λ t. rw t (draw_then old next xs ys)) (λ f. rw f (draw_then (old ++ (x, next) ∷ []) (next + 1) xs ys))

pub drawn_then : (old mid new : Numbered) (next middle after : ℕ) (xs ys : List Chars) → Drawn old next xs mid middle → Drawn mid middle ys new after → Drawn old next (xs ++ ys) new after
drawn_then old mid new next middle after xs ys a b = record { path = draw_then old next xs ys ∙ ap (λ (p : Numbered × ℕ). draw p.0 p.1 ys) a.path ∙ b.path }

pub draw_most : (old : Numbered) (next : ℕ) (xs : List Chars) → (draw old next xs).1 ≤ next + length xs
draw_most old next [] = omega arith
draw_most old next (x ∷ xs) =
    by_test (is_some (label_number old x)) (λ t. rw t (omega (arith, draw_most old next xs))) (λ f. rw f (omega (arith, draw_most (old ++ (x, next) ∷ []) (next + 1) xs)))

pub drawn_most : (old new : Numbered) (next after : ℕ) (xs : List Chars) → Drawn old next xs new after → after ≤ next + length xs
drawn_most old new next after xs d = subst (λ (p : Numbered × ℕ). p.1 ≤ next + length xs) d.path (draw_most old next xs)

abbrev pub type_labels : List CodeRef → List Chars
type_labels types = flat_map label_of (refs_seen types)

type_more : (xs ys : List CodeRef) → type_labels (xs ++ ys) ≡ type_labels xs ++ type_labels ys
type_more xs ys = ap (flat_map label_of) (map-append ref_seen xs ys) ∙ flat_map-append label_of (refs_seen xs) (refs_seen ys)

-- they are counted one after another
pub one_counted : (xs : List CodeRef) (i count k whole : ℕ) (x : CodeRef) → slice_get xs i ≡ Some x → k ≡ length (label_of (ref_seen x))
    → count + length (type_labels (drop i xs)) ≡ whole → (count + k) + length (type_labels (drop (suc i) xs)) ≡ whole
one_counted xs i count k whole x g e h =
    let split : length (type_labels (drop i xs)) ≡ length (label_of (ref_seen x)) + length (type_labels (drop (suc i) xs)) =
    ap (λ (l : List CodeRef). length (type_labels l)) (drop_at xs i x g) ∙ length-append (label_of (ref_seen x)) (type_labels (drop (suc i) xs)) in
    omega (arith, split, e, h)

-- the first types have drawn theirs, and there are numbers for those that are left
pub record DrawnTypes (old : Numbered) (next : ℕ) (types : List CodeRef) (i : ℕ) (labels : Numbered) (after : ℕ) : Type 0 where
  pub drawn : Drawn old next (type_labels (take i types)) labels after
  pub room : after + length (type_labels (drop i types)) < 2 ^ 64

pub one_type : (labels more : Numbered) (after then_after i : ℕ) (x : CodeRef) (types : List CodeRef) (old : Numbered) (next : ℕ) → slice_get types i ≡ Some x
    → DrawnTypes old next types i labels after → Drawn labels after (label_of (ref_seen x)) more then_after → DrawnTypes old next types (i + 1) more then_after
one_type labels more after then_after i x types old next g s d =
    let r : after + length (label_of (ref_seen x) ++ type_labels (drop (suc i) types)) < 2 ^ 64 =
    subst (λ (l : List CodeRef). after + length (type_labels l) < 2 ^ 64) (drop_at types i x g) s.room in
    let m = drawn_most labels more after then_after (label_of (ref_seen x)) d in
    rw add-one (record {
      drawn =
          subst (λ (l : List Chars). Drawn old next l more then_after) (sym (type_more (take i types) (x ∷ []) ∙ ap (λ (l : List Chars). type_labels (take i types) ++ l) (append-nil (label_of (ref_seen x)))) ∙ ap type_labels (sym (take-suc types i x (slice_get_within types i x g) ∙ ap (λ (y : CodeRef). take i types ++ y ∷ []) (get_or_from_slice_get types i x x g))))
          (drawn_then old labels more next after then_after (type_labels (take i types)) (label_of (ref_seen x)) s.drawn d);
      room = omega (arith, m, r, length-append (label_of (ref_seen x)) (type_labels (drop (suc i) types)));
    })

pub type_room : (labels : Numbered) (after i : ℕ) (x : CodeRef) (types : List CodeRef) (old : Numbered) (next : ℕ) → slice_get types i ≡ Some x
    → DrawnTypes old next types i labels after → after + length (label_of (ref_seen x)) < 2 ^ 64
type_room labels after i x types old next g s =
    let r : after + length (label_of (ref_seen x) ++ type_labels (drop (suc i) types)) < 2 ^ 64 =
    subst (λ (l : List CodeRef). after + length (type_labels l) < 2 ^ 64) (drop_at types i x g) s.room in
    omega (arith, r, length-append (label_of (ref_seen x)) (type_labels (drop (suc i) types)))

pub all_drawn : (labels : Numbered) (after i : ℕ) (types : List CodeRef) (old : Numbered) (next : ℕ) → length types ≤ i
    → DrawnTypes old next types i labels after → Drawn old next (type_labels types) labels after
all_drawn labels after i types old next h s = subst (λ (l : List CodeRef). Drawn old next (type_labels l) labels after) (take_all i types h) s.drawn

-- ---- where there was no memory

pub on_err : {R E Q : Type 0} (r : Result R E) → Q → OnErr r Q
on_err (Ok x) q = tt
on_err (Err x) q = q

pub none_drawn : (old new : Numbered) (next : ℕ) (xs : List Chars) → new ≡ old → DrawnSome old next xs new
none_drawn old new next xs e = record { front = []; rest = xs; whole = refl; path = sym e }

pub all_of_them : (old new : Numbered) (next after : ℕ) (xs : List Chars) → Drawn old next xs new after → DrawnSome old next xs new
all_of_them old new next after xs d = record { front = xs; rest = []; whole = sym (append-nil xs); path = ap (λ (p : Numbered × ℕ). p.0) d.path }

pub after_drawn : (old mid new : Numbered) (next middle : ℕ) (xs ys : List Chars) → Drawn old next xs mid middle → DrawnSome mid middle ys new → DrawnSome old next (xs ++ ys) new
after_drawn old mid new next middle xs ys d s = record {
  front = xs ++ s.front;
  rest = s.rest;
  whole = ap (λ (l : List Chars). xs ++ l) s.whole ∙ sym (append_assoc xs s.front s.rest);
  path = ap (λ (p : Numbered × ℕ). p.0) (draw_then old next xs s.front ∙ ap (λ (p : Numbered × ℕ). draw p.0 p.1 s.front) d.path) ∙ s.path;
}

pub some_types : (old labels new : Numbered) (next after i : ℕ) (types : List CodeRef) → DrawnTypes old next types i labels after → new ≡ labels → DrawnSome old next (type_labels types) new
some_types old labels new next after i types s e = record {
  front = type_labels (take i types);
  rest = type_labels (drop i types);
  whole = ap type_labels (sym (take-append-drop i types)) ∙ type_more (take i types) (drop i types);
  path = ap (λ (p : Numbered × ℕ). p.0) s.drawn.path ∙ sym e;
}

-- five draws, one after another
module _ {l0 l1 l2 l3 l4 : Numbered} {n0 n1 n2 n3 n4 : ℕ} {a b c d : List Chars} (e : List Chars) (da : Drawn l0 n0 a l1 n1) (db : Drawn l1 n1 b l2 n2) (dc : Drawn l2 n2 c l3 n3) (dd : Drawn l3 n3 d l4 n4) where
  abbrev all : List Chars
  all = a ++ (b ++ (c ++ (d ++ e)))

  pub five_some : {R E : Type 0} (new : Numbered) (r : Result R E) → OnErr r (DrawnSome l4 n4 e new) → OnErr r (DrawnSome l0 n0 all new)
  five_some new r h =
      on_err_weaker r
      (λ s. after_drawn l0 l1 new n0 n1 a _ da (after_drawn l1 l2 new n1 n2 b _ db (after_drawn l2 l3 new n2 n3 c _ dc (after_drawn l3 l4 new n3 n4 d e dd s)))) h

  pub five_room : n0 + length all < 2 ^ 64 → n4 + length e < 2 ^ 64
  five_room h =
      omega (
        arith,
        h,
        drawn_most l0 l1 n0 n1 a da,
        drawn_most l1 l2 n1 n2 b db,
        drawn_most l2 l3 n2 n3 c dc,
        drawn_most l3 l4 n3 n4 d dd,
        length-append a (b ++ (c ++ (d ++ e))),
        length-append b (c ++ (d ++ e)),
        length-append c (d ++ e),
        length-append d e,
      )

  pub five_ok : {E : Type 0} (l5 : Numbered) (r : Result ℕ E) → IfOk r (λ n5. Drawn l4 n4 e l5 n5) → IfOk r (λ n5. Drawn l0 n0 all l5 n5)
  five_ok l5 r h =
      IfOk-weaker r _ _
      (λ n5 de. drawn_then l0 l1 l5 n0 n1 n5 a _ da
      (drawn_then l1 l2 l5 n1 n2 n5 b _ db (drawn_then l2 l3 l5 n2 n3 n5 c _ dc (drawn_then l3 l4 l5 n3 n4 n5 d e dd de)))) h
