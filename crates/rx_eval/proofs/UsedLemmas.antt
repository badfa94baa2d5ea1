-- The number of a new node, and the owners that an element begins.
use Rattle.rx_eval.proofs.EnterLemmas.{below_as}
use Rattle.rx_eval.proofs.Common.{untrue, by_test, IfSome, if◌then◌else◌, option_or, Decides-eqb, Chars, then_some, Node, Blank, Term, same_node, or_cases, and_left, and_right, Path, Naming, Owner, same_owner, Facts, of_owner, entries_by, ◌≡◌, ◌∙◌, ℕ, suc, ◌+◌, ◌≤◌, ◌⊎◌, inl, inr, Bool, true, false, List, [], ◌∷◌, ◌++◌, length, Option, Some, None, is_none, nat_eq, refl, sym, ap, subst, arith, append-nil, length-append, not, ◌&&◌, ◌||◌, ◌==◌, unwrap_or, or-true, Inherited, Standing, Resources, new_blank, hangs, object_below, handed, Numbered, moment, level_at, path_at, standing_by, Owning, owning, put_entries, drawn_after, next_number, owner_begun, owner_for, begun_for, owners_begun, OwnedSlots, OpenOwners, Waiter, FillUp, Within, begun_by}
use Rattle.rx_rdfa.specs.Resources.{resources}
use Rattle.rx_rdfa.specs.Inherited.{below}
use Rattle.rx_eval.specs.Blanks.{is_blank}
use Rattle.rx_eval.proofs.OtherLemmas.{level_is, MadeIn, made_in, makes_resource, makes_new}
use Rattle.rx_eval.proofs.FillLemmas.{fill_up_both}

-- ---- the number of a new node

makes_level : (facts : Facts) (d : ℕ) (path : Path) → length path ≡ suc d → makes_resource facts path ≡ makes_resource facts (path_at (level_at d))
makes_level facts d path e = let l = level_is d path e in rw (l.0, l.1) refl

module _ (M : Naming ℕ ℕ) (base : Chars) (at : Standing ℕ ℕ) (here : Resources ℕ) where
  -- what an element that isn't skipped hands on
  pub handed_new : here.skipped ≡ false → ((handed M at here).subject ≡ here.subject) × ((handed M at here).object ≡ unwrap_or (object_below M at here) here.subject)
  handed_new e = (rw e refl, rw e refl)

  object_hangs : hangs at.facts here ≡ true → unwrap_or (object_below M at here) here.subject ≡ new_blank M at
  object_hangs h = go here.object (and_left (is_none here.object) _ h) ∙ ap (λ (b : Bool). unwrap_or (then_some b (new_blank M at)) here.subject) h
    where
      go : (o : Option (Node ℕ)) → is_none o ≡ true → unwrap_or (option_or o (then_some (hangs at.facts here) (new_blank M at))) here.subject ≡ unwrap_or (then_some (hangs at.facts here) (new_blank M at)) here.subject
      go None e = refl
      go (Some x) e = absurd (cc)

  pub used : (makes_resource at.facts at.path ≡ true → MadeIn M base at here) → makes_new at.facts at.path here ≡ true
      → ((handed M at here).subject ≡ new_blank M at) ⊎ ((handed M at here).object ≡ new_blank M at)
  used k h = go (or_cases (makes_resource at.facts at.path) (not here.skipped && hangs at.facts here) h)
    where
      made : (m : MadeIn M base at here) → (here.subject ≡ new_blank M at) ⊎ (here.object ≡ Some (new_blank M at)) → ((handed M at here).subject ≡ new_blank M at) ⊎ ((handed M at here).object ≡ new_blank M at)
      made m (inl e) = inl ((handed_new m.speaks).0 ∙ e)
      made m (inr e) = inr ((handed_new m.speaks).1 ∙ ap (λ (o : Option (Node ℕ)). unwrap_or (option_or o (then_some (hangs at.facts here) (new_blank M at))) here.subject) e)

      go : (makes_resource at.facts at.path ≡ true) ⊎ ((not here.skipped && hangs at.facts here) ≡ true) → ((handed M at here).subject ≡ new_blank M at) ⊎ ((handed M at here).object ≡ new_blank M at)
      go (inl e) = let m = k e in made m m.is
      go (inr e) = inr ((handed_new (untrue here.skipped (and_left (not here.skipped) (hangs at.facts here) e))).1 ∙ object_hangs (and_right (not here.skipped) (hangs at.facts here) e))

same_number : (n : ℕ) → (n == n) ≡ true
same_number n = (Decides-eqb n n).1 refl

pub drawn_used : (context : Inherited ℕ ℕ) (fresh : ℕ) → (context.subject ≡ Blank fresh) ⊎ (context.object ≡ Blank fresh) → drawn_after context fresh ≡ fresh + 1
drawn_used context fresh (inl e) = rw (e, same_number fresh) refl
drawn_used context fresh (inr e) = rw (e, same_number fresh, or-true (is_blank context.subject fresh)) refl

pub drawn_least : (context : Inherited ℕ ℕ) (fresh : ℕ) → (fresh ≤ drawn_after context fresh) × (drawn_after context fresh ≤ fresh + 1)
drawn_least context fresh = by_test (is_blank context.subject fresh || is_blank context.object fresh) (λ t. rw t (omega arith, omega arith)) (λ f. rw f (omega arith, omega arith))

-- ---- the owners that begin

abbrev Many : Type 0
Many = List (Option Owning)

abbrev pub with_owner : Option ℕ → Node ℕ → Many → Many
with_owner None subject owners = owners
with_owner (Some n) subject owners = owners ++ Some (owning subject []) ∷ []

seen_as : (t : Bool) (n : ℕ) (s : Node ℕ) (os : Many) → (if t then os else os ++ Some (owning s []) ∷ []) ≡ with_owner (if t then None else Some n) s os
seen_as true n s os = refl
seen_as false n s os = refl

begun_as : (M : Naming ℕ ℕ) (at : Standing ℕ ℕ) (here : Resources ℕ) (n m : ℕ) (owners : Many)
    → owners_begun M at here owners ≡ with_owner (owner_for (object_below M at here) here.subject m) (unwrap_or (object_below M at here) here.subject) (with_owner (owner_begun here.subject at.around.object n) here.subject owners)
begun_as M at here n m owners = ap (begun_for (object_below M at here) here.subject) (seen_as (same_node nat_eq here.subject at.around.object) n here.subject owners) ∙ under (object_below M at here) (with_owner (owner_begun here.subject at.around.object n) here.subject owners)
  where
    under : (o : Option (Node ℕ)) (os : Many) → begun_for o here.subject os ≡ with_owner (owner_for o here.subject m) (unwrap_or o here.subject) os
    under None os = refl
    under (Some object) os = seen_as (same_node nat_eq object here.subject) m object os

module _ (M : Naming ℕ ℕ) (at : Standing ℕ ℕ) (here : Resources ℕ) (n m : ℕ) (owners : Many) (own under : Option ℕ) (context : Inherited ℕ ℕ)
    (o : own ≡ (if here.skipped then None else owner_begun here.subject at.around.object n)) (u : under ≡ (if here.skipped then None else owner_for (object_below M at here) here.subject m)) (c : context ≡ handed M at here) where
  pub begun_now : here.skipped ≡ false → owners_begun M at here owners ≡ with_owner under context.object (with_owner own context.subject owners)
  begun_now e = rw (o, u, c, e) (begun_as M at here n m owners)

  -- what an element puts, with the owners that it begins; one that is skipped puts nothing
  pub lists_as : (v : Option (Term ℕ)) → (if here.skipped then owners else put_entries (entries_by M Some v at here) (owners_begun M at here owners))
      ≡ put_entries (entries_by M Some v at here) (with_owner under context.object (with_owner own context.subject owners))
  lists_as v = by_test here.skipped (λ t. rw (o, u, t) refl)
      (λ f. ap (λ (b : Bool). if b then owners else put_entries (entries_by M Some v at here) (owners_begun M at here owners)) f ∙ ap (put_entries (entries_by M Some v at here)) (begun_now f))

pub with_fill_up : (open_owners : OpenOwners) (own : Option ℕ) (o : Owner) (s : Node ℕ) (waiters : List Waiter) (owners : Many) (slots : OwnedSlots) → of_owner same_owner o slots ≡ [] → Within (length owners) waiters → FillUp open_owners waiters owners slots
    → FillUp (open_owners ++ begun_by own o s) waiters (with_owner own s owners) slots
with_fill_up open_owners None o s waiters owners slots e b h = subst (λ (x : OpenOwners). FillUp x waiters owners slots) (sym (append-nil open_owners)) h
with_fill_up open_owners (Some n) o s waiters owners slots e b h = (fill_up_both open_owners o s [] tt waiters owners slots e b).0 h

pub with_length : (open_owners : OpenOwners) (own : Option ℕ) (o : Owner) (s t : Node ℕ) (owners : Many) → length owners ≡ length open_owners → length (with_owner own s owners) ≡ length (open_owners ++ begun_by own o t)
with_length open_owners None o s t owners e = e ∙ ap length (sym (append-nil open_owners))
with_length open_owners (Some n) o s t owners e =
    let a = length-append owners (Some (owning s []) ∷ []) in let b = length-append open_owners ((o, t) ∷ []) in omega (arith, a, b, e)

-- ---- the numbers of these owners

pub own_number_is : (s t : Bool) (n : ℕ) (own : Option ℕ) → own ≡ (if s then None else (if t then None else Some n)) → IfSome own (λ k. k ≡ n)
own_number_is false false n own e = rw e refl
own_number_is _ _ n own e = rw e tt

pub under_number_is : (s t : Bool) (n : ℕ) (open_owners : OpenOwners) (o : Owner) (x subject : Node ℕ) (own under : Option ℕ) (object : Option (Node ℕ)) → n ≡ length open_owners
    → own ≡ (if s then None else (if t then None else Some n)) → under ≡ (if s then None else owner_for object subject (if t then n else suc n)) → IfSome under (λ k. k ≡ length (open_owners ++ begun_by own o x))
under_number_is false true n open_owners o x subject own under (Some y) q e u =
    rw (u, e) (by_test (same_node nat_eq y subject) (λ b. rw b tt) (λ b. rw b (q ∙ ap length (sym (append-nil open_owners)))))
under_number_is false false n open_owners o x subject own under (Some y) q e u =
    rw (u, e) (by_test (same_node nat_eq y subject) (λ b. rw b tt) (λ b. rw b (let a = length-append open_owners ((o, x) ∷ []) in omega (arith, a, q))))
under_number_is false t n open_owners o x subject own under None q e u = rw u tt
under_number_is true t n open_owners o x subject own under object q e u = rw u tt

-- what the number of a new node comes to
module _ (facts : Facts) (base : Chars) (depth : ℕ) (path : Path) (list : Numbered) (fresh n : ℕ) (seen : Inherited ℕ ℕ) where
  abbrev at_now : Standing ℕ ℕ
  at_now = standing_by (level_at depth) seen facts

  abbrev here_now : Resources ℕ
  here_now = resources (moment list fresh 0 0) base at_now

  abbrev moment_now : Naming ℕ ℕ
  moment_now = moment list fresh n (next_number at_now here_now n)

  made_now : makes_resource facts (path_at (level_at depth)) ≡ true → MadeIn moment_now base at_now here_now
  unfolding resources
  made_now k = made_in moment_now base at_now k

  pub new_drawn : length path ≡ suc depth → makes_new facts path here_now ≡ true → drawn_after (below moment_now base at_now) fresh ≡ fresh + 1
  new_drawn d k = ap (λ (x : Inherited ℕ ℕ). drawn_after x fresh) (below_as list fresh base at_now here_now n)
      ∙ drawn_used (handed moment_now at_now here_now) fresh
      (used moment_now base at_now here_now made_now (ap (λ (b : Bool). b || (not here_now.skipped && hangs facts here_now)) (sym (makes_level facts depth path d)) ∙ k))
