-- The entries of an element that is opened: which of them are empty, and how they are filled at its end.
use Rattle.rx_eval.proofs.Common.{◌≡◌, ◌∙◌, ℕ, ◌<◌, ◌≤◌, inl, inr, Bool, true, false, List, [], ◌∷◌, ◌++◌, map, filter_map, length, Option, Some, None, option_map, bytes_eq, refl, sym, ap, ap₂, subst, arith, append_assoc, ◌||◌, if◌then◌else◌, map-append, Chars, by_test, Among, Node, Term, Resource, false_unless, exact_texts, Path, Naming, Owner, same_owner, Hanging, Forward, Reverse, InList, Standing, Resources, listed, hangs, own_owner, ListEntry, entry, linked, touched, valued, awaited, entries_by, Slot, Full, Waiting, fill, fill_slot, slot_of, exact_owners, Owning, put_at, put_entries, places_for, fill_all, OwnedSlots, OpenOwners, owner_place, slot_term, slot_waits, is_awaited, HasPlaces, WithinPlaces, owner_depth, WaitsFor, AllWaitFor, AllItems, AllWait, ItemWaits}
use Rattle.rx_eval.proofs.PlaceLemmas.{has_at, reserved_are_filled}
use Rattle.rx_eval.proofs.FillLemmas.{place_put}
use Rattle.rx_eval.proofs.SeenLemmas.{entries_then}
use Rattle.rx_eval.proofs.ListLemmas.{suc_is, Puts, Match, all_matched, matched}

-- ---- what holds of each item

module _ {O T : Type 0} (P : O → Option T → Type 0) where
  pub all_append : (xs ys : List (ListEntry O T)) → AllItems P xs → AllItems P ys → AllItems P (xs ++ ys)
  all_append [] ys h k = k
  all_append (x ∷ xs) ys h k = (h.0, all_append xs ys h.1 k)

  all_map : (o : O) (item : Option T) (ps : List Chars) → ((p : Chars) → Among ps p → P o item) → AllItems P (map (entry o item) ps)
  all_map o item [] h = tt
  all_map o item (p ∷ ps) h = (h p (inl refl), all_map o item ps (λ q a. h q (inr a)))

module _ {B O T : Type 0} (n : Naming B O) (full : Term B → T) (v : T) (at : Standing B O) (here : Resources B) (P : Option T → Type 0) (none : P None) (filled : (t : Term B) → P (Some (full t))) where
  linked_all : (object : Option (Node B)) → AllItems (λ o. P) (linked n full v at here object)
  linked_all None = tt
  linked_all (Some object) = all_map (λ o. P) (own_owner n at here) (Some (full (Resource object))) (listed at.facts.rel) (λ p a. filled (Resource object))

  touched_all : (b : Bool) → AllItems (λ o. P) (if b then map (entry (own_owner n at here) None) (listed at.facts.rel) else [])
  touched_all true = all_map (λ o. P) (own_owner n at here) None (listed at.facts.rel) (λ p a. none)
  touched_all false = tt

  pub front_all : AllItems (λ o. P) (linked n full v at here here.object ++ touched n full v at here)
  front_all = all_append (λ o. P) (linked n full v at here here.object) (touched n full v at here) (linked_all here.object) (touched_all (hangs at.facts here))

  pub awaited_all : (hanging : List (Hanging O)) → AllItems (λ o. P) (filter_map (awaited n full v at here) hanging)
  awaited_all [] = tt
  awaited_all (Forward p ∷ hanging) = awaited_all hanging
  awaited_all (Reverse p ∷ hanging) = awaited_all hanging
  awaited_all (InList owner p ∷ hanging) = (filled (Resource here.subject), awaited_all hanging)

  pub entries_all : (here.skipped ≡ false → at.facts.inlist ≡ true → (p : Chars) → Among (listed at.facts.property) p → P (Some v)) → AllItems (λ o. P) (entries_by n full v at here)
  entries_all k = go here.skipped at.facts.inlist k
    where
      go : (s b : Bool) → (s ≡ false → b ≡ true → (p : Chars) → Among (listed at.facts.property) p → P (Some v))
          → AllItems (λ o. P) (if s then [] else (if b then linked n full v at here here.object ++ touched n full v at here ++ valued n full v at here else []) ++ filter_map (awaited n full v at here) at.around.hanging)
      go true b k = tt
      go false true k =
          all_append (λ o. P) (linked n full v at here here.object ++ touched n full v at here ++ valued n full v at here) (filter_map (awaited n full v at here) at.around.hanging)
          (all_append (λ o. P) (linked n full v at here here.object ++ touched n full v at here) (valued n full v at here) front_all (all_map (λ o. P) (own_owner n at here) (Some v) (listed at.facts.property) (k refl refl)))
          (awaited_all at.around.hanging)
      go false false k = awaited_all at.around.hanging

-- ---- items that wait, and empty ones

-- a slot that waits does so for the element at the path
abbrev pub Only : {B O : Type 0} → Path → List (ListEntry O (Slot B)) → Type 0
Only path slots = AllWait (λ o r. r ≡ path) slots

pub only_of : {B : Type 0} (path : Path) (w : Option (Term B)) → ItemWaits (λ r. r ≡ path) (Some (slot_of path w))
only_of path None = refl
only_of path (Some v) = tt

-- the item isn't an empty one
abbrev pub Filled : Option (Option (Term ℕ)) → Type 0
Filled (Some None) = ⊥
Filled _ = Unit {0}

pub match_quiet : (own : Owner → Option ℕ) (r : Path) (xs : Puts) (ys : OwnedSlots) → Match own xs ys → AllItems (λ o. Filled) xs → is_awaited r ys ≡ false
match_quiet own r _ _ all_matched h = refl
match_quiet own r _ _ (matched x y xs ys o p i m) h = ap₂ (λ (a b : Bool). a || b) (item x.item y.item i h.0) (match_quiet own r xs ys m h.1)
  where
    item : (i : Option (Option (Term ℕ))) (j : Option (Slot ℕ)) → i ≡ option_map slot_term j → Filled i → slot_waits r j ≡ false
    item i None e k = refl
    item i (Some (Full v)) e k = refl
    item i (Some (Waiting q)) e k = absurd (subst Filled e k)

-- the owners of entries by numbers are open
pub place_bound : (xs : OpenOwners) (o : Owner) (n : ℕ) → owner_place xs o ≡ Some n → n < length xs
place_bound [] o n h = absurd (cc)
place_bound (x ∷ xs) o n h =
    by_test (same_owner x.0 o) (λ t. let e : Some 0 ≡ Some n = rw t at h in let q : 0 ≡ n = cc e in omega (arith, q))
    (λ f. let m = suc_is (owner_place xs o) n (rw f at h) in let b = place_bound xs o m.0 m.1 in let q = m.2 in omega (arith, q, b))

pub match_bound : (open_owners : OpenOwners) (xs : Puts) (ys : OwnedSlots) → Match (owner_place open_owners) xs ys → (x : ListEntry ℕ (Option (Term ℕ))) → Among xs x → x.owner < length open_owners
match_bound open_owners _ _ all_matched x a = absurd a
match_bound open_owners _ _ (matched z y xs ys o p i m) x (inl e) = subst (λ (w : ListEntry ℕ (Option (Term ℕ))). w.owner < length open_owners) e (place_bound open_owners y.owner z.owner o)
match_bound open_owners _ _ (matched z y xs ys o p i m) x (inr b) = match_bound open_owners xs ys m x b

-- each slot's owner is open, and waits are for the path
pub match_waits : (open_owners : OpenOwners) (path : Path) (paths : List Path) → ((o : Owner) (n : ℕ) → owner_place open_owners o ≡ Some n → owner_depth o ≤ length path)
    → (xs : Puts) (ys : OwnedSlots) → Match (owner_place open_owners) xs ys → Only path ys → AllWaitFor (path ∷ paths) ys
match_waits open_owners path paths d _ _ all_matched h = tt
match_waits open_owners path paths d _ _ (matched x y xs ys o p i m) h = (item y.item h.0 (d y.owner x.owner o), match_waits open_owners path paths d xs ys m h.1)
  where
    item : (i : Option (Slot ℕ)) → ItemWaits (λ r. r ≡ path) i → owner_depth y.owner ≤ length path → ItemWaits (WaitsFor (path ∷ paths) y.owner) i
    item None k b = tt
    item (Some (Full v)) k b = tt
    item (Some (Waiting r)) k b = (inl (sym k), subst (λ (z : Path). owner_depth y.owner ≤ length z) (sym k) b)

-- an owner that isn't open has none of the slots
pub match_none : (open_owners : OpenOwners) (o : Owner) → owner_place open_owners o ≡ None → (xs : Puts) (ys : OwnedSlots) → Match (owner_place open_owners) xs ys → ((y : ListEntry Owner (Slot ℕ)) → Among ys y → same_owner y.owner o ≡ false)
match_none open_owners o n _ _ all_matched y a = absurd a
match_none open_owners o n _ _ (matched x z xs ys q p i m) y (inl e) =
    subst (λ (w : ListEntry Owner (Slot ℕ)). same_owner w.owner o ≡ false) e
    (false_unless (same_owner z.owner o) (λ t. absurd (cc (ap (owner_place open_owners) ((exact_owners z.owner o).0 t), n, q))))
match_none open_owners o n _ _ (matched x z xs ys q p i m) y (inr b) = match_none open_owners o n xs ys m y b

-- ---- a value for the empty ones

abbrev pub value_item : Term ℕ → Option (Option (Term ℕ)) → Option (Option (Term ℕ))
value_item u None = None
value_item u (Some None) = Some (Some u)
value_item u (Some (Some v)) = Some (Some v)

abbrev pub valued_entry : {O : Type 0} → Term ℕ → ListEntry O (Option (Term ℕ)) → ListEntry O (Option (Term ℕ))
valued_entry u x = record { owner = x.owner; predicate = x.predicate; item = value_item u x.item }

pub valued_same : {O : Type 0} (u : Term ℕ) (xs : List (ListEntry O (Option (Term ℕ)))) → AllItems (λ o. Filled) xs → map (valued_entry u) xs ≡ xs
valued_same u [] h = refl
valued_same u (x ∷ xs) h = λ i. record { owner = x.owner; predicate = x.predicate; item = item x.item h.0 i } ∷ valued_same u xs h.1 i
  where
    item : (i : Option (Option (Term ℕ))) → Filled i → value_item u i ≡ i
    item (Some None) k = absurd k
    item _ k = refl

valued_reserved : (u : Term ℕ) (o : ℕ) (ps : List Chars) → map (valued_entry u) (map (entry o (Some None)) ps) ≡ map (entry o (Some (Some u))) ps
valued_reserved u o [] = refl
valued_reserved u o (p ∷ ps) = ap (λ (l : Puts). entry o (Some (Some u)) p ∷ l) (valued_reserved u o ps)

pub valued_parts : (u : Term ℕ) (o : ℕ) (ps : List Chars) (front back : Puts) → AllItems (λ o. Filled) front → AllItems (λ o. Filled) back
    → map (valued_entry u) ((front ++ map (entry o (Some None)) ps) ++ back) ≡ (front ++ map (entry o (Some (Some u))) ps) ++ back
valued_parts u o ps front back h k =
    map-append (valued_entry u) (front ++ map (entry o (Some None)) ps) back
    ∙ ap₂ ◌++◌ (map-append (valued_entry u) front (map (entry o (Some None)) ps) ∙ ap₂ ◌++◌ (valued_same u front h) (valued_reserved u o ps)) (valued_same u back k)

pub match_valued : (own : Owner → Option ℕ) (path : Path) (u : Term ℕ) (xs : Puts) (ys : OwnedSlots) → Match own xs ys → Only path ys → Match own (map (valued_entry u) xs) (fill path u ys)
match_valued own path u _ _ all_matched h = all_matched
match_valued own path u _ _ (matched x y xs ys o p i m) h = matched _ _ _ _ o p (item x.item y.item i h.0) (match_valued own path u xs ys m h.1)
  where
    item : (i : Option (Option (Term ℕ))) (s : Option (Slot ℕ)) → i ≡ option_map slot_term s → ItemWaits (λ r. r ≡ path) s → value_item u i ≡ option_map slot_term (option_map (fill_slot path u) s)
    item i None e k = ap (value_item u) e
    item i (Some (Full v)) e k = ap (value_item u) e
    item i (Some (Waiting r)) e k = ap (value_item u) e ∙ (let t : bytes_eq r path ≡ true = (exact_texts r path).1 k in rw t refl)

-- ---- places that are reserved

has_places : (o : ℕ) (ps : List Chars) (back : Puts) (os : List (Option Owning)) → HasPlaces (places_for o ps os) (put_entries (map (entry o (Some None)) ps ++ back) os)
has_places o [] back os = tt
has_places o (p ∷ ps) back os =
    (place_put (map (entry o (Some None)) ps ++ back) o _ _ (put_at o p (Some None) os) (has_at o p None os), has_places o ps back (put_at o p (Some None) os))

module _ (o : ℕ) (ps : List Chars) (front back : Puts) (owners : List (Option Owning)) where
  abbrev reserved_all : Puts
  reserved_all = (front ++ map (entry o (Some None)) ps) ++ back

  all_then : (middle : Puts) → put_entries ((front ++ middle) ++ back) owners ≡ put_entries (middle ++ back) (put_entries front owners)
  all_then middle = ap (λ (l : Puts). put_entries l owners) (append_assoc front middle back) ∙ entries_then front (middle ++ back) owners

  pub places_had : HasPlaces (places_for o ps (put_entries front owners)) (put_entries reserved_all owners)
  places_had = subst (HasPlaces (places_for o ps (put_entries front owners))) (sym (all_then (map (entry o (Some None)) ps))) (has_places o ps back (put_entries front owners))

  pub places_filled_in : (u : Term ℕ) → fill_all (places_for o ps (put_entries front owners)) u (put_entries reserved_all owners) ≡ put_entries ((front ++ map (entry o (Some (Some u))) ps) ++ back) owners
  places_filled_in u =
      ap (fill_all (places_for o ps (put_entries front owners)) u) (all_then (map (entry o (Some None)) ps))
      ∙ reserved_are_filled o ps back (put_entries front owners) u
      ∙ sym (all_then (map (entry o (Some (Some u))) ps))

pub places_within : (k o : ℕ) (ps : List Chars) (os : List (Option Owning)) → ((p : Chars) → Among ps p → o < k) → WithinPlaces k (places_for o ps os)
places_within k o [] os h = tt
places_within k o (p ∷ ps) os h = (h p (inl refl), places_within k o ps (put_at o p (Some None) os) (λ q a. h q (inr a)))
