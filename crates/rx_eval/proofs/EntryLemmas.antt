-- Entries that are put one after another.
use Rattle.rx_eval.proofs.Common.{◌≡◌, ◌∙◌, ℕ, zero, suc, ◌+◌, ◌≤◌, List, [], ◌∷◌, ◌++◌, length, drop, Option, Some, None, slice_get, bytes_eq, refl, sym, ap, add-one, append_assoc, append-nil, Chars, by_test, put, SlotId, put_each, slots_for, put_awaited, set-append_seam, owned, Owners, changed, with_term, place_of, slots_of, lists_of, open_at}
use Rattle.rx_terms.specs.declared.triples.Term.{Term}
use Rattle.rx_lists.specs.Owners.{Slots}
use Rattle.rx_lists.specs.SlotIds.{slot_in}
use Rattle.rx_lists.specs.declared.lists.Owner.{Owner}
use Rattle.rx_eval.specs.declared.contexts.IncompleteTriple.{IncompleteTriple}
use Rattle.rx_eval.proofs.DrawLemmas.{drop_at, nothing_left}

-- a slot that is reserved and filled is an item
put_filled : (p : Chars) (t : Term) (lists : Slots) → with_term (place_of p lists) (length (slots_of p lists)) t (put p (Some None) lists) ≡ put p (Some (Some t)) lists
put_filled p t [] = refl
put_filled p t (row ∷ lists) =
    by_test (bytes_eq row.0 p) (λ e. rw e (ap (λ (s : List (Option Term)). (row.0, s) ∷ lists) (set-append_seam row.1 None [] (Some t))))
    (λ e. rw e (ap (λ (l : Slots). row ∷ l) (put_filled p t lists)))

pub filled_item : (p : Chars) (t : Term) (owners : Owners) (n : ℕ)
    → changed (with_term (place_of p (lists_of (open_at owners n))) (length (slots_of p (lists_of (open_at owners n)))) t) (changed (put p (Some None)) owners n) n
    ≡ changed (put p (Some (Some t))) owners n
filled_item p t [] n = refl
filled_item p t (None ∷ owners) zero = refl
filled_item p t (Some o ∷ owners) zero = ap (λ (l : Slots). Some (owned o.subject l) ∷ owners) (put_filled p t o.lists)
filled_item p t (o ∷ owners) (suc n) = ap (λ (l : Owners). o ∷ l) (filled_item p t owners n)

pub item_added : (owners mid new : Owners) (n : ℕ) (p : Chars) (t u : Term) (slot : SlotId) (owner : Owner) → owner.0 ≡ n → mid ≡ changed (put p (Some None)) owners n
    → slot ≡ slot_in owner p (lists_of (open_at owners n)) → u ≡ t → new ≡ changed (with_term slot.list slot.place u) mid slot.owner.0 → new ≡ changed (put p (Some (Some t))) owners n
item_added owners mid new n p t u slot owner o m s e w = rw (w, s, o, m, e) (filled_item p t owners n)

-- what is put, and what is still to be put, is the whole
pub record ToPut (owner : ℕ) (item : Option (Option Term)) (left : List Chars) (now whole : Owners) : Type 0 where
  pub path : put_each owner item left now ≡ whole

pub one_put : (owner : ℕ) (item : Option (Option Term)) (ps : List Chars) (i : ℕ) (p : Chars) (now more whole : Owners) → slice_get ps i ≡ Some p → more ≡ changed (put p item) now owner
    → ToPut owner item (drop i ps) now whole → ToPut owner item (drop (i + 1) ps) more whole
one_put owner item ps i p now more whole g m w = rw add-one (record { path = rw m (rw (drop_at ps i p g) at w.path) })

pub all_put : (owner : ℕ) (item : Option (Option Term)) (ps : List Chars) (i : ℕ) (now whole : Owners) → length ps ≤ i → ToPut owner item (drop i ps) now whole → now ≡ whole
all_put owner item ps i now whole h w = ap (λ (l : List Chars). put_each owner item l now) (sym (nothing_left i ps h)) ∙ w.path

-- the places that are reserved
pub record ToReserve (owner : Owner) (left : List Chars) (now : Owners) (slots whole : List SlotId) : Type 0 where
  pub path : slots ++ slots_for owner left now ≡ whole

pub one_reserved : (owner : Owner) (ps : List Chars) (i : ℕ) (p : Chars) (now more : Owners) (slots more_slots whole : List SlotId) (slot : SlotId) → slice_get ps i ≡ Some p
    → more ≡ changed (put p (Some None)) now owner.0 → slot ≡ slot_in owner p (lists_of (open_at now owner.0)) → more_slots ≡ slots ++ slot ∷ []
    → ToReserve owner (drop i ps) now slots whole → ToReserve owner (drop (i + 1) ps) more more_slots whole
one_reserved owner ps i p now more slots more_slots whole slot g m s e w =
    rw add-one (record { path = rw (e, m, s) (append_assoc slots (slot_in owner p (lists_of (open_at now owner.0)) ∷ []) _ ∙ (rw (drop_at ps i p g) at w.path)) })

pub all_reserved : (owner : Owner) (ps : List Chars) (i : ℕ) (now : Owners) (slots whole : List SlotId) → length ps ≤ i → ToReserve owner (drop i ps) now slots whole → slots ≡ whole
all_reserved owner ps i now slots whole h w = sym (append-nil slots) ∙ ap (λ (l : List Chars). slots ++ slots_for owner l now) (sym (nothing_left i ps h)) ∙ w.path

pub record ToAwait (item : Term) (left : List IncompleteTriple) (now whole : Owners) : Type 0 where
  pub path : put_awaited item left now ≡ whole
