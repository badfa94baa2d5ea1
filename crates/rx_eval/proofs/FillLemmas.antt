-- Places are filled at the ends of elements: what becomes of that when slots are put, and owners begin and end.
use Rattle.std.proofs.Common.{◌↔◌}
use Rattle.rx_eval.proofs.Common.{◌≡◌, ◌∙◌, ℕ, zero, suc, ◌<◌, ◌≤◌, Bool, false, List, [], ◌∷◌, ◌++◌, map, length, Option, Some, None, option_map, refl, sym, ap, ap₂, subst, subst₂, arith, ◌||◌, length-set, map-append, or_parts, by_test, Node, Term, Path, Owner, same_owner, ListEntry, map_entry, of_owner, Slot, Full, Waiting, fill, fill_slot, PredicateTable, table_from, SlotId, Owning, owning, put_entries, with_item, fill_seen, fill_all, OwnedSlots, OpenOwners, owner_place, slot_term, table_in, owners_of, slot_waits, is_awaited, HasItem, HasPlace, HasPlaces, Waiter, FillsAtEnd, FillUp, OwnersDiffer, WithinPlaces, WithinOption, Within, AllWait, ItemWaits, exact_owners, exact_texts, bytes_eq, rename_slot, false_unless}
use Rattle.rx_eval.proofs.PlaceLemmas.{still_at, fill_past_all}
use Rattle.rx_eval.proofs.ListLemmas.{Puts, Match, put_all}
use Rattle.std.proofs.lemmas.List.{same_from_push}

abbrev Many : Type 0
Many = List (Option Owning)

-- ---- slots that wait, and are filled

pub waits_weaker : {B O : Type 0} (P Q : O → Path → Type 0) → ((o : O) (r : Path) → P o r → Q o r) → (xs : List (ListEntry O (Slot B))) → AllWait P xs → AllWait Q xs
waits_weaker P Q k [] h = tt
waits_weaker {B} P Q k (x ∷ xs) h = (item x.item h.0, waits_weaker P Q k xs h.1)
  where
    item : (i : Option (Slot B)) → ItemWaits (P x.owner) i → ItemWaits (Q x.owner) i
    item (Some (Waiting r)) p = k x.owner r p
    item None p = tt
    item (Some (Full v)) p = tt

-- those of one owner
pub of_owner_waits : (P : Owner → Path → Type 0) (o : Owner) (xs : OwnedSlots) → AllWait P xs → AllWait (λ w. P o) (of_owner same_owner o xs)
of_owner_waits P o [] h = tt
of_owner_waits P o (x ∷ xs) h =
    by_test (same_owner x.owner o) (λ t. rw t (subst (λ (w : Owner). ItemWaits (P w) x.item) ((exact_owners x.owner o).0 t) h.0, of_owner_waits P o xs h.1)) (λ f. rw f (of_owner_waits P o xs h.1))

-- none waits for an element, or what waits for it is filled: then what waits does so for others
pub none_waiting : {B O : Type 0} (r : Path) (xs : List (ListEntry O (Slot B))) → AllWait (λ o q. ¬ (q ≡ r)) xs → is_awaited r xs ≡ false
none_waiting r [] h = refl
none_waiting {B} r (x ∷ xs) h = ap₂ (λ (a b : Bool). a || b) (item x.item h.0) (none_waiting r xs h.1)
  where
    item : (i : Option (Slot B)) → ItemWaits (λ q. ¬ (q ≡ r)) i → slot_waits r i ≡ false
    item (Some (Waiting q)) n = false_unless (bytes_eq q r) (λ t. n ((exact_texts q r).0 t))
    item None n = refl
    item (Some (Full v)) n = refl

pub others_wait : {B O : Type 0} (P : O → Path → Type 0) (r : Path) (xs : List (ListEntry O (Slot B))) → is_awaited r xs ≡ false → AllWait P xs → AllWait (λ o q. P o q × ¬ (q ≡ r)) xs
others_wait P r [] h k = tt
others_wait {B} P r (x ∷ xs) h k =
    let q = or_parts (slot_waits r x.item) (is_awaited r xs) h in
    (item x.item q.0 k.0, others_wait P r xs q.1 k.1)
  where
    item : (i : Option (Slot B)) → slot_waits r i ≡ false → ItemWaits (P x.owner) i → ItemWaits (λ q. P x.owner q × ¬ (q ≡ r)) i
    item (Some (Waiting q)) e p = (p, λ s. absurd (cc (e, (exact_texts q r).1 s)))
    item None e p = tt
    item (Some (Full v)) e p = tt

pub filled_wait : {B O : Type 0} (P : O → Path → Type 0) (r : Path) (v : Term B) (xs : List (ListEntry O (Slot B))) → AllWait P xs → AllWait (λ o q. P o q × ¬ (q ≡ r)) (fill r v xs)
filled_wait P r v [] h = tt
filled_wait {B} P r v (x ∷ xs) h = (item x.item h.0, filled_wait P r v xs h.1)
  where
    item : (i : Option (Slot B)) → ItemWaits (P x.owner) i → ItemWaits (λ q. P x.owner q × ¬ (q ≡ r)) (option_map (fill_slot r v) i)
    item (Some (Waiting q)) p = by_test (bytes_eq q r) (λ t. rw t tt) (λ f. rw f (p, λ s. absurd (cc (f, (exact_texts q r).1 s))))
    item None p = tt
    item (Some (Full u)) p = tt

-- the same slots by other names
pub renamed_wait : {B C D O : Type 0} (f : B → D) (g : C → D) (P : Path → Type 0) (ys : List (ListEntry O (Slot B))) (zs : List (ListEntry O (Slot C))) → map (map_entry (rename_slot f)) ys ≡ map (map_entry (rename_slot g)) zs
    → AllWait (λ o. P) zs → AllWait (λ o. P) ys
renamed_wait f g P [] zs e h = tt
renamed_wait f g P (y ∷ ys) [] e h = absurd (cc)
renamed_wait {B} {C} f g P (y ∷ ys) (z ∷ zs) e h =
    let first : map_entry (rename_slot f) y ≡ map_entry (rename_slot g) z = cc in
    let rest : map (map_entry (rename_slot f)) ys ≡ map (map_entry (rename_slot g)) zs = cc in
    (item y.item z.item (λ i. (first i).item) h.0, renamed_wait f g P ys zs rest h.1)
  where
    item : (i : Option (Slot B)) (j : Option (Slot C)) → option_map (rename_slot f) i ≡ option_map (rename_slot g) j → ItemWaits P j → ItemWaits P i
    item None j e h = tt
    item (Some (Full v)) j e h = tt
    item (Some (Waiting r)) (Some (Waiting q)) e h = let k : q ≡ r = cc in subst P k h
    item _ _ e h = absurd (cc)

pub waits_both : {B O : Type 0} (r : Path) (xs ys : List (ListEntry O (Slot B))) → is_awaited r xs ≡ false → is_awaited r ys ≡ false → is_awaited r (xs ++ ys) ≡ false
waits_both r [] ys h k = k
waits_both r (x ∷ xs) ys h k =
    let q = or_parts (slot_waits r x.item) (is_awaited r xs) h in
    ap₂ (λ (a b : Bool). a || b) q.0 (waits_both r xs ys q.1 k)

item_quiet : {B : Type 0} (r : Path) (v : Term B) (item : Option (Slot B)) → slot_waits r item ≡ false → option_map (fill_slot r v) item ≡ item
item_quiet r v None h = refl
item_quiet r v (Some (Full u)) h = refl
item_quiet r v (Some (Waiting q)) h = rw h refl

pub fill_quiet : {B O : Type 0} (r : Path) (v : Term B) (xs : List (ListEntry O (Slot B))) → is_awaited r xs ≡ false → fill r v xs ≡ xs
fill_quiet r v [] h = refl
fill_quiet r v (x ∷ xs) h =
    let q = or_parts (slot_waits r x.item) (is_awaited r xs) h in
    λ i. record { owner = x.owner; predicate = x.predicate; item = item_quiet r v x.item q.0 i } ∷ fill_quiet r v xs q.1 i

pub of_filled : {B : Type 0} (o : Owner) (r : Path) (v : Term B) (xs : List (ListEntry Owner (Slot B))) → of_owner same_owner o (fill r v xs) ≡ fill r v (of_owner same_owner o xs)
of_filled o r v [] = refl
of_filled o r v (x ∷ xs) =
    by_test (same_owner x.owner o)
    (λ t. rw t (ap (λ (l : List (ListEntry Owner (Slot _))). map_entry (fill_slot r v) x ∷ l) (of_filled o r v xs)))
    (λ f. rw f (of_filled o r v xs))

-- ---- places

item_filled : (m j : ℕ) (v : Term ℕ) (l i : ℕ) (t : PredicateTable (Option (Term ℕ))) → HasItem l i t → HasItem l i (with_item m j v t)
item_filled m j v l i [] h = absurd h
item_filled zero j v zero i (row ∷ t) h = let n = length-set row.1 j (Some v) in omega (arith, n, h)
item_filled (suc m) j v (suc l) i (row ∷ t) h = item_filled m j v l i t h
item_filled _ j v _ i (row ∷ t) h = h

place_filled : (w m j : ℕ) (v : Term ℕ) (n l i : ℕ) (os : Many) → HasPlace n l i os → HasPlace n l i (fill_seen m j v os w)
place_filled w m j v n l i [] h = tt
place_filled zero m j v zero l i (None ∷ os) h = tt
place_filled zero m j v zero l i (Some o ∷ os) h = item_filled m j v l i o.lists h
place_filled (suc w) m j v zero l i (None ∷ os) h = tt
place_filled (suc w) m j v (suc n) l i (o ∷ os) h = place_filled w m j v n l i os h
place_filled _ m j v _ l i _ h = h

places_filled : (w m j : ℕ) (v : Term ℕ) (slots : List SlotId) (os : Many) → HasPlaces slots os → HasPlaces slots (fill_seen m j v os w)
places_filled w m j v [] os h = tt
places_filled w m j v (s ∷ slots) os h = (place_filled w m j v s.owner.0 s.list s.place os h.0, places_filled w m j v slots os h.1)

pub place_put : (xs : Puts) (n l i : ℕ) (os : Many) → HasPlace n l i os → HasPlace n l i (put_entries xs os)
place_put [] n l i os h = h
place_put (x ∷ xs) n l i os h = place_put xs n l i _ (still_at x.owner x.predicate x.item n l i os h)

pub places_put : (xs : Puts) (slots : List SlotId) (os : Many) → HasPlaces slots os → HasPlaces slots (put_entries xs os)
places_put xs [] os h = tt
places_put xs (s ∷ slots) os h = (place_put xs s.owner.0 s.list s.place os h.0, places_put xs slots os h.1)

pub fill_put : (slots : List SlotId) (v : Term ℕ) (xs : Puts) (os : Many) → HasPlaces slots os → fill_all slots v (put_entries xs os) ≡ put_entries xs (fill_all slots v os)
fill_put [] v xs os h = refl
fill_put (s ∷ slots) v xs os h =
    ap (fill_all slots v) (fill_past_all xs s.owner.0 s.list s.place v os h.0)
    ∙ fill_put slots v xs (fill_seen s.list s.place v os s.owner.0) (places_filled s.owner.0 s.list s.place v slots os h.1)

-- ---- slots are put

abbrev pub NoneWaits : List Waiter → OwnedSlots → Type 0
NoneWaits [] ys = Unit {0}
NoneWaits (w ∷ waiters) ys = (is_awaited w.path ys ≡ false) × NoneWaits waiters ys

pub put_fill_up : (open_owners : OpenOwners) → OwnersDiffer open_owners → (xs : Puts) (ys : OwnedSlots) → Match (owner_place open_owners) xs ys → (waiters : List Waiter) → NoneWaits waiters ys
    → (owners : Many) (slots : OwnedSlots) → FillUp open_owners waiters owners slots → FillUp open_owners waiters (put_entries xs owners) (slots ++ ys)
put_fill_up open_owners a xs ys m [] n owners slots h = ap (put_entries xs) h ∙ put_all open_owners a xs ys slots m
put_fill_up open_owners a xs ys m (w ∷ waiters) n owners slots h =
    (ap (put_entries xs) h.0 ∙ put_all open_owners a xs ys slots m, fills w.places h.1 (λ os ss k. put_fill_up open_owners a xs ys m waiters n.1 os ss k))
  where
    fills : (places : Option (List SlotId)) → FillsAtEnd w.path places (λ o s. FillUp open_owners waiters o s) owners slots
        → ((os : Many) (ss : OwnedSlots) → FillUp open_owners waiters os ss → FillUp open_owners waiters (put_entries xs os) (ss ++ ys))
        → FillsAtEnd w.path places (λ o s. FillUp open_owners waiters o s) (put_entries xs owners) (slots ++ ys)
    fills None k more = (waits_both w.path slots ys k.0 n.0, more owners slots k.1)
    fills (Some places) k more = (
      places_put xs places owners k.0,
      λ v. subst₂ (λ (o : Many) (s : OwnedSlots). FillUp open_owners waiters o s) (sym (fill_put places v xs owners k.0))
          (sym (map-append (map_entry (fill_slot w.path v)) slots ys ∙ ap (λ (l : OwnedSlots). fill w.path v slots ++ l) (fill_quiet w.path v ys n.0)))
          (more (fill_all places v owners) (fill w.path v slots) (k.1 v)),
    )

-- ---- an owner begins, or the last one ends

pub owners_more : (slots : OwnedSlots) (open_owners : OpenOwners) (o : Owner) (s : Node ℕ) → owners_of slots (open_owners ++ (o, s) ∷ []) ≡ owners_of slots open_owners ++ Some (owning s (table_in slots o)) ∷ []
owners_more slots [] o s = refl
owners_more slots (one ∷ more) o s = ap (λ (l : Many). Some (owning one.1 (table_in slots one.0)) ∷ l) (owners_more slots more o s)

pub fill_all_length : (slots : List SlotId) (v : Term ℕ) (os : Many) → length (fill_all slots v os) ≡ length os
fill_all_length [] v os = refl
fill_all_length (s ∷ slots) v os = fill_all_length slots v (fill_seen s.list s.place v os s.owner.0) ∙ length-set os s.owner.0 _

fill_front : (n l i : ℕ) (v : Term ℕ) (os : Many) (x : Option Owning) → n < length os → fill_seen l i v (os ++ x ∷ []) n ≡ fill_seen l i v os n ++ x ∷ []
fill_front n l i v [] x h = absurd (omega arith)
fill_front zero l i v (o ∷ os) x h = refl
fill_front (suc n) l i v (o ∷ os) x h = ap (λ (m : Many). o ∷ m) (fill_front n l i v os x (omega arith))

within_length : (k m : ℕ) (slots : List SlotId) → k ≤ m → WithinPlaces k slots → WithinPlaces m slots
within_length k m [] e h = tt
within_length k m (s ∷ slots) e h = (omega (arith, e, h.0), within_length k m slots e h.1)

pub within_more : (k m : ℕ) (waiters : List Waiter) → k ≤ m → Within k waiters → Within m waiters
within_more k m [] e h = tt
within_more k m (w ∷ waiters) e h = (option w.places h.0, within_more k m waiters e h.1)
  where
    option : (places : Option (List SlotId)) → WithinOption k places → WithinOption m places
    option None g = tt
    option (Some places) g = within_length k m places e g

fills_front : (slots : List SlotId) (v : Term ℕ) (os : Many) (x : Option Owning) → WithinPlaces (length os) slots → fill_all slots v (os ++ x ∷ []) ≡ fill_all slots v os ++ x ∷ []
fills_front [] v os x h = refl
fills_front (s ∷ slots) v os x h =
    ap (fill_all slots v) (fill_front s.owner.0 s.list s.place v os x h.0)
    ∙ fills_front slots v (fill_seen s.list s.place v os s.owner.0) x
    (within_length (length os) (length (fill_seen s.list s.place v os s.owner.0)) slots (omega (arith, fill_all_length (s ∷ []) v os)) h.1)

-- an owner more at the end takes no place and gives none
place_both : (n l i : ℕ) (os : Many) (x : Option Owning) → n < length os → HasPlace n l i os ↔ HasPlace n l i (os ++ x ∷ [])
place_both n l i [] x b = absurd (omega arith)
place_both zero l i (None ∷ os) x b = (λ h. h, λ h. h)
place_both zero l i (Some o ∷ os) x b = (λ h. h, λ h. h)
place_both (suc n) l i (o ∷ os) x b = place_both n l i os x (omega arith)

places_both : (slots : List SlotId) (os : Many) (x : Option Owning) → WithinPlaces (length os) slots → HasPlaces slots os ↔ HasPlaces slots (os ++ x ∷ [])
places_both [] os x b = (λ h. h, λ h. h)
places_both (s ∷ slots) os x b =
    let one = place_both s.owner.0 s.list s.place os x b.0 in
    let more = places_both slots os x b.1 in
    (λ h. (one.0 h.0, more.0 h.1), λ h. (one.1 h.0, more.1 h.1))

-- the last owner has these slots, of which none waits
module _ (open_owners : OpenOwners) (o : Owner) (s : Node ℕ) (own : OwnedSlots) (full : AllWait (λ o r. ⊥) own) where
  abbrev last : Option Owning
  last = Some (owning s (table_from [] (map (map_entry slot_term) own)))

  abbrev more_owners : OpenOwners
  more_owners = open_owners ++ (o, s) ∷ []

  table_both : (owners : Many) (slots : OwnedSlots) → of_owner same_owner o slots ≡ own → (owners ≡ owners_of slots open_owners) ↔ (owners ++ last ∷ [] ≡ owners_of slots more_owners)
  table_both owners slots e = (
    λ h. ap₂ (λ (l : Many) (t : OwnedSlots). l ++ Some (owning s (table_from [] (map (map_entry slot_term) t))) ∷ []) h (sym e) ∙ sym (owners_more slots open_owners o s),
    λ h. (same_from_push owners (owners_of slots open_owners) last _ (h ∙ owners_more slots open_owners o s)).0,
  )

  pub fill_up_both : (waiters : List Waiter) (owners : Many) (slots : OwnedSlots) → of_owner same_owner o slots ≡ own → Within (length owners) waiters
      → FillUp open_owners waiters owners slots ↔ FillUp more_owners waiters (owners ++ last ∷ []) slots
  fill_up_both [] owners slots e b = table_both owners slots e
  fill_up_both (w ∷ waiters) owners slots e b =
      let t = table_both owners slots e in
      let f = fills w.places b.0 (λ os ss q k. fill_up_both waiters os ss q (within_more (length owners) (length os) waiters (omega (arith, k)) b.1)) in
      (λ h. (t.0 h.0, f.0 h.1), λ h. (t.1 h.0, f.1 h.1))
    where
      still : (v : Term ℕ) → of_owner same_owner o (fill w.path v slots) ≡ own
      still v = of_filled o w.path v slots ∙ ap (fill w.path v) e ∙ fill_quiet w.path v own (none_waiting w.path own (waits_weaker (λ o r. ⊥) (λ o r. ¬ (r ≡ w.path)) (λ o r h. absurd h) own full))

      fills : (places : Option (List SlotId)) → WithinOption (length owners) places
          → ((os : Many) (ss : OwnedSlots) → of_owner same_owner o ss ≡ own → length owners ≡ length os → FillUp open_owners waiters os ss ↔ FillUp more_owners waiters (os ++ last ∷ []) ss)
          → FillsAtEnd w.path places (λ os ss. FillUp open_owners waiters os ss) owners slots ↔ FillsAtEnd w.path places (λ os ss. FillUp more_owners waiters os ss) (owners ++ last ∷ []) slots
      fills None c more = let m = more owners slots e refl in (λ k. (k.0, m.0 k.1), λ k. (k.0, m.1 k.1))
      fills (Some places) c more =
          let p = places_both places owners last c in
          let m = λ (v : Term ℕ). more (fill_all places v owners) (fill w.path v slots) (still v) (sym (fill_all_length places v owners)) in
          let front = λ (v : Term ℕ). fills_front places v owners last c in (
            λ k. (p.0 k.0, λ v. subst (λ (l : Many). FillUp more_owners waiters l (fill w.path v slots)) (sym (front v)) ((m v).0 (k.1 v))),
            λ k. (p.1 k.0, λ v. (m v).1 (subst (λ (l : Many). FillUp more_owners waiters l (fill w.path v slots)) (front v) (k.1 v))),
          )
