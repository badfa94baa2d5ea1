-- The law of names.
use Rattle.rx_model.proofs.Common.{◌≡◌, ◌⊎◌, ℕ, Bool, true, false, cond, nat_eq, List, map, refl, sym, ap, ◌∙◌, inl, inr, true≢false, Decides-eqb, same_truth, Among, IsExact, contains, Triple, rename, blanks, numbered, copied, Among-contains, Among_by_contains, false_unless}
use Rattle.rx_model.specs.Renaming.{NamesDoNotMatter}
use Rattle.rx_model.proofs.Renamings.{all_twice}
use Rattle.rx_model.proofs.Renaming.{numbers_forget_names, copying_keeps_names}

-- a number, or a blank node that has none
abbrev same_sum : {A : Type 0} → (A → A → Bool) → ℕ ⊎ A → ℕ ⊎ A → Bool
same_sum same (inl n) (inl m) = nat_eq n m
same_sum same (inr a) (inr b) = same a b
same_sum same (inl n) (inr b) = false
same_sum same (inr a) (inl m) = false

module _ {A : Type 0} (same : A → A → Bool) (exact : IsExact same) (table : List A) (to : A → ℕ) (one_to_one : (a b : A) → Among table a → Among table b → to a ≡ to b → a ≡ b) where
  number : A → ℕ ⊎ A
  number b = cond (contains same table b) (inl (to b)) (inr b)

  number_keeps : (a b : A) → same a b ≡ same_sum same (number a) (number b)
  unfolding number
  number_keeps a b = go (contains same table a) refl (contains same table b) refl
    where
      apart : contains same table a ≡ true → contains same table b ≡ false → same a b ≡ false
      apart p q = false_unless (same a b) (λ h. true≢false (sym p ∙ ap (contains same table) ((exact a b).0 h) ∙ q))

      apart' : contains same table a ≡ false → contains same table b ≡ true → same a b ≡ false
      apart' p q = false_unless (same a b) (λ h. true≢false (sym q ∙ ap (contains same table) (sym ((exact a b).0 h)) ∙ p))

      go : (s : Bool) → contains same table a ≡ s → (t : Bool) → contains same table b ≡ t
          → same a b ≡ same_sum same (cond (contains same table a) (inl (to a)) (inr a)) (cond (contains same table b) (inl (to b)) (inr b))
      go true p true q = rw (p, q) (same_truth (same a b) (nat_eq (to a) (to b))
          (λ h. (Decides-eqb (to a) (to b)).1 (ap to ((exact a b).0 h)))
          (λ h. (exact a b).1 (one_to_one a b (Among_by_contains same exact table a p) (Among_by_contains same exact table b q) ((Decides-eqb (to a) (to b)).0 h))))
      go true p false q = rw (p, q) (apart p q)
      go false p true q = rw (p, q) (apart' p q)
      go false p false q = rw (p, q) refl

  agree : (list : List (Triple A)) → ((b : A) → Among (blanks list) b → Among table b) → map (rename {B = ℕ ⊎ A} inl) (map (rename to) list) ≡ map (rename number) list
  unfolding number
  agree list h = all_twice to inl number list (λ b m. rw (Among-contains same exact table b (h b m)) refl)

  drawn : (list : List (Triple A)) → ((b : A) → Among (blanks list) b → Among table b)
      → numbered nat_eq (copied nat_eq (map (rename to) list)) ≡ numbered same (copied same list)
  drawn list h =
      let L : List (Triple ℕ) = map (rename to) list in
      sym (numbers_forget_names nat_eq (same_sum same) inl (λ a b. refl) (copied nat_eq L))
      ∙ ap (numbered (same_sum same)) (sym (copying_keeps_names nat_eq (same_sum same) inl (λ a b. refl) L) ∙ ap (copied (same_sum same)) (agree list h) ∙ copying_keeps_names same (same_sum same) number number_keeps list)
      ∙ numbers_forget_names same (same_sum same) number number_keeps (copied same list)

pub names_do_not_matter : {A : Type 0} (same : A → A → Bool) → IsExact same → NamesDoNotMatter same
names_do_not_matter same exact list to one_to_one = drawn same exact (blanks list) to one_to_one list (λ b m. m)
