-- Places in lists: one that is there stays where it is when lists grow.
use Rattle.rx_eval.proofs.Common.{◌≡◌, ◌∙◌, ℕ, zero, suc, List, [], ◌∷◌, ◌++◌, map, Option, Some, None, option_to_list, bytes_eq, refl, sym, ap, ap₂, arith, length-append, length-set, set-append_left, Chars, by_test, set-append_seam, Term, entry, PredicateTable, put, SlotId, Entries, Owning, owning, lists_in, open_seen, list_place, item_count, next_slot, places_for, put_at, put_entries, with_item, fill_seen, fill_all, HasItem, HasPlace}
use Rattle.rx_eval.specs.Reserving.{ReservedAreFilled}

abbrev Items : Type 0
Items = PredicateTable (Option (Term ℕ))

-- ---- in one table

-- an item that is reserved and filled is the item
put_filled : (p : Chars) (v : Term ℕ) (t : Items) → with_item (list_place p t) (item_count p t) v (put p (Some None) t) ≡ put p (Some (Some v)) t
put_filled p v [] = refl
put_filled p v (row ∷ t) =
    by_test (bytes_eq row.0 p) (λ e. rw e (ap (λ (l : List (Option (Term ℕ))). (row.0, l) ∷ t) (set-append_seam row.1 None [] (Some v))))
    (λ e. rw e (ap (λ (l : Items). row ∷ l) (put_filled p v t)))

-- what was put is there
has_put : (p : Chars) (x : Option (Term ℕ)) (t : Items) → HasItem (list_place p t) (item_count p t) (put p (Some x) t)
has_put p x [] = omega arith
has_put p x (row ∷ t) =
    by_test (bytes_eq row.0 p) (λ e. rw e (let n = length-append row.1 (x ∷ []) in omega (arith, n))) (λ e. rw e (has_put p x t))

-- what is there stays
has_still : (p : Chars) (item : Option (Option (Term ℕ))) (l i : ℕ) (t : Items) → HasItem l i t → HasItem l i (put p item t)
has_still p item l i [] h = absurd h
has_still p item zero i (row ∷ t) h =
    by_test (bytes_eq row.0 p) (λ e. rw e (let n = length-append row.1 (option_to_list item) in omega (arith, n, h))) (λ e. rw e h)
has_still p item (suc l) i (row ∷ t) h = by_test (bytes_eq row.0 p) (λ e. rw e h) (λ e. rw e (has_still p item l i t h))

fill_put : (p : Chars) (item : Option (Option (Term ℕ))) (v : Term ℕ) (l i : ℕ) (t : Items) → HasItem l i t → with_item l i v (put p item t) ≡ put p item (with_item l i v t)
fill_put p item v l i [] h = absurd h
fill_put p item v zero i (row ∷ t) h =
    by_test (bytes_eq row.0 p) (λ e. rw e (ap (λ (s : List (Option (Term ℕ))). (row.0, s) ∷ t) (set-append_left row.1 (option_to_list item) i (Some v) h))) (λ e. rw e refl)
fill_put p item v (suc l) i (row ∷ t) h = by_test (bytes_eq row.0 p) (λ e. rw e refl) (λ e. rw e (ap (λ (s : Items). row ∷ s) (fill_put p item v l i t h)))

-- filling doesn't move the next place
same_next : (p : Chars) (l i : ℕ) (v : Term ℕ) (t : Items) → (list_place p (with_item l i v t) ≡ list_place p t) × (item_count p (with_item l i v t) ≡ item_count p t)
same_next p l i v [] = (refl, refl)
same_next p zero i v (row ∷ t) = (refl, by_test (bytes_eq row.0 p) (λ e. rw e (length-set row.1 i (Some v))) (λ e. rw e refl))
same_next p (suc l) i v (row ∷ t) = let k = same_next p l i v t in by_test (bytes_eq row.0 p) (λ e. rw e (refl, refl)) (λ e. rw e (ap suc k.0, k.1))

-- ---- among the owners

abbrev Many : Type 0
Many = List (Option Owning)

abbrev fill_in : ℕ → ℕ → ℕ → Term ℕ → Many → Many
fill_in n l i v os = fill_seen l i v os n

-- the place that an owner's next item takes, as numbers
abbrev list_at : ℕ → Chars → Many → ℕ
list_at n p os = list_place p (lists_in (open_seen os n))

abbrev count_at : ℕ → Chars → Many → ℕ
count_at n p os = item_count p (lists_in (open_seen os n))

filled_at : (n : ℕ) (p : Chars) (v : Term ℕ) (os : Many) → fill_in n (list_at n p os) (count_at n p os) v (put_at n p (Some None) os) ≡ put_at n p (Some (Some v)) os
filled_at n p v [] = refl
filled_at zero p v (None ∷ os) = refl
filled_at zero p v (Some o ∷ os) = ap (λ (t : Items). Some (owning o.subject t) ∷ os) (put_filled p v o.lists)
filled_at (suc n) p v (o ∷ os) = ap (λ (l : Many). o ∷ l) (filled_at n p v os)

pub has_at : (n : ℕ) (p : Chars) (x : Option (Term ℕ)) (os : Many) → HasPlace n (list_at n p os) (count_at n p os) (put_at n p (Some x) os)
has_at n p x [] = tt
has_at zero p x (None ∷ os) = tt
has_at zero p x (Some o ∷ os) = has_put p x o.lists
has_at (suc n) p x (o ∷ os) = has_at n p x os

pub still_at : (m : ℕ) (p : Chars) (item : Option (Option (Term ℕ))) (n l i : ℕ) (os : Many) → HasPlace n l i os → HasPlace n l i (put_at m p item os)
still_at m p item n l i [] h = tt
still_at zero p item zero l i (None ∷ os) h = tt
still_at zero p item zero l i (Some o ∷ os) h = has_still p item l i o.lists h
still_at (suc m) p item zero l i (None ∷ os) h = tt
still_at (suc m) p item (suc n) l i (o ∷ os) h = still_at m p item n l i os h
still_at _ p item _ l i _ h = h

fill_past : (m : ℕ) (p : Chars) (item : Option (Option (Term ℕ))) (n l i : ℕ) (v : Term ℕ) (os : Many) → HasPlace n l i os → fill_in n l i v (put_at m p item os) ≡ put_at m p item (fill_in n l i v os)
fill_past m p item n l i v [] h = refl
fill_past zero p item zero l i v (None ∷ os) h = refl
fill_past zero p item zero l i v (Some o ∷ os) h = ap (λ (t : Items). Some (owning o.subject t) ∷ os) (fill_put p item v l i o.lists h)
fill_past zero p item (suc n) l i v (o ∷ os) h = refl
fill_past (suc m) p item (suc n) l i v (o ∷ os) h = ap (λ (x : Many). o ∷ x) (fill_past m p item n l i v os h)
fill_past (suc m) p item zero l i v _ h = refl

same_in : (k : Items → ℕ) → ((l i : ℕ) (v : Term ℕ) (t : Items) → k (with_item l i v t) ≡ k t) → (m n l i : ℕ) (v : Term ℕ) (os : Many) → k (lists_in (open_seen (fill_in n l i v os) m)) ≡ k (lists_in (open_seen os m))
same_in k same m n l i v [] = refl
same_in k same m zero l i v (None ∷ os) = refl
same_in k same zero zero l i v (Some o ∷ os) = same l i v o.lists
same_in k same (suc m) zero l i v (Some o ∷ os) = refl
same_in k same zero (suc n) l i v (o ∷ os) = refl
same_in k same (suc m) (suc n) l i v (o ∷ os) = same_in k same m n l i v os

pub places_same : (m : ℕ) (ps : List Chars) (n l i : ℕ) (v : Term ℕ) (os : Many) → HasPlace n l i os → places_for m ps (fill_in n l i v os) ≡ places_for m ps os
places_same m [] n l i v os h = refl
places_same m (p ∷ ps) n l i v os h =
    ap₂ (λ (a b : ℕ). record { owner = record { 0 = m }; list = a; place = b } ∷ places_for m ps (put_at m p (Some None) (fill_in n l i v os)))
    (same_in (list_place p) (λ l i v t. (same_next p l i v t).0) m n l i v os) (same_in (item_count p) (λ l i v t. (same_next p l i v t).1) m n l i v os)
    ∙ ap (λ (x : List SlotId). next_slot m p os ∷ x)
    (ap (places_for m ps) (sym (fill_past m p (Some None) n l i v os h)) ∙ places_same m ps n l i v (put_at m p (Some None) os) (still_at m p (Some None) n l i os h))

pub fill_past_all : (entries : Entries) (n l i : ℕ) (v : Term ℕ) (os : Many) → HasPlace n l i os → fill_in n l i v (put_entries entries os) ≡ put_entries entries (fill_in n l i v os)
fill_past_all [] n l i v os h = refl
fill_past_all (e ∷ entries) n l i v os h =
    fill_past_all entries n l i v (put_at e.owner e.predicate e.item os) (still_at e.owner e.predicate e.item n l i os h)
    ∙ ap (put_entries entries) (fill_past e.owner e.predicate e.item n l i v os h)

pub reserved_are_filled : ReservedAreFilled
reserved_are_filled n [] more os v = refl
reserved_are_filled n (p ∷ ps) more os v =
    let reserved : Many = put_at n p (Some None) os in
    let has = has_at n p None os in
    let filled = filled_at n p v os in
    ap (fill_all (places_for n ps reserved) v)
    (fill_past_all (map (entry n (Some None)) ps ++ more) n (list_at n p os) (count_at n p os) v reserved has
    ∙ ap (put_entries (map (entry n (Some None)) ps ++ more)) filled)
    ∙ ap (λ (s : List SlotId). fill_all s v (put_entries (map (entry n (Some None)) ps ++ more) (put_at n p (Some (Some v)) os)))
    (sym (places_same n ps n (list_at n p os) (count_at n p os) v reserved has) ∙ ap (places_for n ps) filled)
    ∙ reserved_are_filled n ps more (put_at n p (Some (Some v)) os) v
