-- Numbers that are reached.
use Rattle.rx_shapes.proofs.Common.{◌≡◌, ◌↔◌, ◌⊎◌, ℕ, suc, zero, ◌+◌, ◌<◌, Bool, true, false, nat_eq, List, [], ◌∷◌, ◌++◌, length, get_or, slice_set, replicate, refl, sym, ap, subst, ◌∙◌, inl, inr, true≢false, arith, append-nil, append_assoc, length-append, Decides-eqb, by_test, Among, Among_left, Among_right, Among_cases, length-set, get_or-set_other, get_or-set_same, get_or_default, length-replicate, Reach, unreached, reach_marked, reach_added, reach_all}

-- how many have no mark
pub unmarked : List Bool → ℕ
unmarked [] = 0
unmarked (true ∷ marks) = unmarked marks
unmarked (false ∷ marks) = suc (unmarked marks)

unmarked_set : (marks : List Bool) (a : ℕ) → get_or marks a true ≡ false → suc (unmarked (slice_set marks a true)) ≡ unmarked marks
unfolding unmarked
unmarked_set [] a h = absurd (true≢false h)
unmarked_set (true ∷ marks) zero h = absurd (true≢false h)
unmarked_set (false ∷ marks) zero h = refl
unmarked_set (true ∷ marks) (suc a) h = unmarked_set marks a h
unmarked_set (false ∷ marks) (suc a) h = ap suc (unmarked_set marks a h)

within : (marks : List Bool) (a : ℕ) (d : Bool) → ¬ (get_or marks a d ≡ d) → a < length marks
within [] a d n = absurd (n refl)
within (b ∷ marks) zero d n = omega arith
within (b ∷ marks) (suc a) d n = let less = within marks a d n in omega (arith, less)

pub marked_within : (marks : List Bool) (a : ℕ) → get_or marks a false ≡ true → a < length marks
marked_within marks a h = within marks a false (λ e. true≢false (sym h ∙ e))

set_true : (marks : List Bool) (a x : ℕ) → get_or marks a true ≡ false → (get_or (slice_set marks a true) x false ≡ true) ↔ ((a ≡ x) ⊎ (get_or marks x false ≡ true))
set_true marks a x h = by_test (nat_eq a x) (λ t.
    let same : a ≡ x = (Decides-eqb a x).0 t in
    (λ q. inl same, λ s. subst (λ (z : ℕ). get_or (slice_set marks a true) z false ≡ true) same (get_or-set_same marks a true false (within marks a true (λ e. true≢false (sym e ∙ h))))))
    (λ t.
    let apart : ¬ (x ≡ a) = λ q. true≢false (sym ((Decides-eqb a x).1 (sym q)) ∙ t) in
    let kept = get_or-set_other marks a x true false apart in
    (λ q. inr (sym kept ∙ q), λ s. elim s [ inl q ↦ absurd (apart (sym q)) | inr q ↦ kept ∙ q ]))

-- the marked ones are listed, each once
pub record IsReach (n : ℕ) (r : Reach) : Type 0 where
  pub size : length r.marks ≡ n
  pub count : unmarked r.marks + length r.list ≡ n
  pub listed : (a : ℕ) → (get_or r.marks a false ≡ true) ↔ Among r.list a

all_start : (n : ℕ) → unmarked (replicate n false) ≡ n
unfolding unmarked
all_start zero = refl
all_start (suc n) = ap suc (all_start n)

pub none_start : (n a : ℕ) → get_or (replicate n false) a false ≡ false
none_start zero a = refl
none_start (suc n) zero = refl
none_start (suc n) (suc a) = none_start n a

pub is_reach_start : (n : ℕ) → IsReach n (unreached n)
is_reach_start n = record {
  size = length-replicate n false;
  count = let each = all_start n in omega (arith, each);
  listed = λ a. (λ h. absurd (true≢false (sym h ∙ none_start n a)), λ m. absurd m);
}

mark_one : (n : ℕ) (r : Reach) (a : ℕ) → get_or r.marks a true ≡ false → IsReach n r → IsReach n (reach_marked r a)
mark_one n r a e h = record {
  size = length-set r.marks a true ∙ h.size;
  count =
      let less = unmarked_set r.marks a e in
      let longer = length-append r.list (a ∷ []) in
      let before = h.count in
      omega (arith, less, longer, before);
  listed = λ x. (
    λ q. elim ((set_true r.marks a x e).0 q) [ inl s ↦ Among_right r.list (a ∷ []) x (inl s) | inr s ↦ Among_left r.list (a ∷ []) x ((h.listed x).0 s) ],
    λ m. (set_true r.marks a x e).1 (elim (Among_cases r.list (a ∷ []) x m) [ inl k ↦ inr ((h.listed x).1 k) | inr k ↦ elim k [ inl s ↦ inl s | inr z ↦ absurd z ] ]),
  );
}

-- some numbers are added
pub record Grown (n : ℕ) (r : Reach) (row : List ℕ) (new : Reach) : Type 0 where
  pub reach : IsReach n new
  pub more : List ℕ
  pub longer : new.list ≡ r.list ++ more
  pub sound : (x : ℕ) → Among more x → Among row x
  pub all : (x : ℕ) → Among row x → x < n → Among new.list x

grown_one : (n : ℕ) (r : Reach) (a : ℕ) → IsReach n r → Grown n r (a ∷ []) (reach_added r a)
grown_one n r a h = by_test (get_or r.marks a true)
    (λ e. rw e (record { reach = h; more = []; longer = sym (append-nil r.list); sound = λ x m. absurd m; all = there e }))
    (λ e. rw e (record { reach = mark_one n r a e h; more = a ∷ []; longer = refl; sound = λ x m. m; all = λ x m less. Among_right r.list (a ∷ []) x m }))
  where
    there : get_or r.marks a true ≡ true → (x : ℕ) → (a ≡ x) ⊎ ⊥ → x < n → Among r.list x
    there e x (inl q) less =
        let inside : a < length r.marks = let size = h.size in omega (arith, size, q, less) in
        subst (Among r.list) q ((h.listed a).0 (sym (get_or_default r.marks a true false inside) ∙ e))
    there e x (inr z) less = absurd z

pub grown_all : (n : ℕ) (row : List ℕ) (r : Reach) → IsReach n r → Grown n r row (reach_all r row)
grown_all n [] r h = record { reach = h; more = []; longer = sym (append-nil r.list); sound = λ x m. m; all = λ x m less. absurd m }
grown_all n (a ∷ row) r h =
    let one = grown_one n r a h in
    let rest = grown_all n row (reach_added r a) one.reach in
    record {
      reach = rest.reach;
      more = one.more ++ rest.more;
      longer = rest.longer ∙ ap (λ z. z ++ rest.more) one.longer ∙ append_assoc r.list one.more rest.more;
      sound = λ x m. elim (Among_cases one.more rest.more x m) [ inl k ↦ elim (one.sound x k) [ inl e ↦ inl e | inr z ↦ absurd z ] | inr k ↦ inr (rest.sound x k) ];
      all = λ x m less. elim m [
        | inl e ↦ subst (λ (z : List ℕ). Among z x) (sym rest.longer) (Among_left (reach_added r a).list rest.more x (one.all x (inl e) less))
        | inr k ↦ rest.all x k less
      ];
    }
