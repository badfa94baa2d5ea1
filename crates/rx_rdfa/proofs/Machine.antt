-- The law of reading.
use Rattle.rx_rdfa.proofs.Common.{cons_option, map-append, filter_map-append, Chars, Among, Term, Resource, Among_of_filter_map, false_unless, exact_texts, flat_map-append, ◌≡◌, ◌≢◌, ℕ, suc, cond, List, [], ◌∷◌, ◌++◌, length, map, flat_map, filter_map, Option, Some, None, option_map, refl, sym, ap, ap₂, ◌∙◌, subst, arith, append_assoc, append-nil, bytes_eq, unwrap_or, Nodes, element_text, Path, Owner, Bnode, ModelNode, ModelTriple, model, Facts, Hanging, Forward, Reverse, InList, Inherited, Resources, Standing, resources, listed, hangs, own_owner, up, inherited, value_now, value_of_text, TreePlace, places_from, start, end_of, standing, in_order_from, in_order, map_entry, ListEntry, entry, linked, touched, valued, awaited, entries_by, entries_of, entries, lists_of, lists_below, page_lists, Slot, Full, Machine, inherit, slot_of, rule_at, fill_slot, fill, settled_item, settled_with, settled, settle, entered, number, leave, finished, ReadingMakes}
use Rattle.rx_grammar.specs.Trees.{end, element, text}
use Rattle.rx_rdfa.specs.Lists.{entries_at}
use Rattle.rx_rdfa.specs.Local.{local_end}
use Rattle.rx_rdfa.specs.Machine.{value_at, reserved, run}
use Rattle.rx_rdfa.proofs.Local.{ModelEntry, of_model_owner, Under, itself, OwnerUnder, InheritedUnder, inherited_up, inherited_under, by_under, Inside, inside_at, inside_less, inside_under, free_append, free_fewer, free_of, under_length, entries_under, own_free_after, inner_free_after, lists_alike, of_owner_append, lists_are_local, Free}
use Rattle.rx_rdfa.proofs.Sent.{map_cond_nil, map_unless, map_both, map_each}

-- ---- slots

abbrev full_entry : ModelEntry → ListEntry Owner (Slot Bnode)
full_entry = map_entry Full

fill-append : (r : Path) (v : Term Bnode) (xs ys : List (ListEntry Owner (Slot Bnode))) → fill r v (xs ++ ys) ≡ fill r v xs ++ fill r v ys
fill-append r v xs ys = map-append (map_entry (fill_slot r v)) xs ys

full_stays : (r : Path) (v : Term Bnode) (o : Owner) (p : Chars) (item : Option (Term Bnode)) → map_entry (fill_slot r v) (map_entry Full (entry o item p)) ≡ map_entry Full (entry o item p)
full_stays r v o p None = refl
full_stays r v o p (Some x) = refl

fill_full : (r : Path) (v : Term Bnode) (xs : List ModelEntry) → fill r v (map full_entry xs) ≡ map full_entry xs
fill_full r v xs = map_each (map_entry (fill_slot r v)) full_entry full_entry xs (λ x. full_stays r v x.owner x.predicate x.item)

settled_full : (o : Owner) (p : Chars) (item : Option (Term Bnode)) → settled (map_entry Full (entry o item p)) ≡ Some (entry o item p)
settled_full o p None = refl
settled_full o p (Some x) = refl

settle_full : (xs : List ModelEntry) → settle (map full_entry xs) ≡ xs
settle_full [] = refl
settle_full (x ∷ xs) = ap₂ cons_option (settled_full x.owner x.predicate x.item) (settle_full xs)

settle-append : (xs ys : List (ListEntry Owner (Slot Bnode))) → settle (xs ++ ys) ≡ settle xs ++ settle ys
settle-append xs ys = filter_map-append settled xs ys

owner_of_settled : (x : ListEntry Owner (Slot Bnode)) (o : Option (Option (Term Bnode))) (e : ModelEntry) → settled_with x o ≡ Some e → x.owner ≡ e.owner
owner_of_settled x None e q = cc
owner_of_settled x (Some item) e q = let k : entry x.owner item x.predicate ≡ e = cc in ap (λ (e : ModelEntry). e.owner) k

-- ---- entries under a function of their items

module _ {T U : Type 0} (h : T → U) where
  map_items : (o : Owner) (item : Option T) (ps : List Chars) → map (map_entry h) (map (entry o item) ps) ≡ map (entry o (option_map h item)) ps
  map_items o item ps = map_each (map_entry h) (entry o item) (entry o (option_map h item)) ps (λ p. refl)

  module _ (full : Term Bnode → T) (v : T) (at : Standing Bnode Owner) (here : Resources Bnode) where
    map_linked : (o : Option ModelNode) → map (map_entry h) (linked model full v at here o) ≡ linked model (λ x. h (full x)) (h v) at here o
    map_linked None = refl
    map_linked (Some object) = map_items (own_owner model at here) (Some (full (Resource object))) (listed at.facts.rel)

    map_awaited : (hs : List (Hanging Owner)) → map (map_entry h) (filter_map (awaited model full v at here) hs) ≡ filter_map (awaited model (λ x. h (full x)) (h v) at here) hs
    map_awaited [] = refl
    map_awaited (Forward p ∷ hs) = map_awaited hs
    map_awaited (Reverse p ∷ hs) = map_awaited hs
    map_awaited (InList o p ∷ hs) = ap (λ z. entry o (Some (h (full (Resource here.subject)))) p ∷ z) (map_awaited hs)

    map_entries : map (map_entry h) (entries_by model full v at here) ≡ entries_by model (λ x. h (full x)) (h v) at here
    map_entries = map_unless (map_entry h) here.skipped _ _
        (map_both (map_entry h) (cond at.facts.inlist (linked model full v at here here.object ++ touched model full v at here ++ valued model full v at here) []) (filter_map (awaited model full v at here) at.around.hanging) _ _
        (map_cond_nil (map_entry h) at.facts.inlist _ _
        (map_both (map_entry h) (linked model full v at here here.object ++ touched model full v at here) (valued model full v at here) _ _
        (map_both (map_entry h) (linked model full v at here here.object) (touched model full v at here) _ _
        (map_linked here.object)
        (map_cond_nil (map_entry h) (hangs at.facts here) _ _ (map_items (own_owner model at here) None (listed at.facts.rel))))
        (map_items (own_owner model at here) (Some v) (listed at.facts.property))))
        (map_awaited at.around.hanging))

-- ---- what an element reserves

filled_slot : (path : Path) (w : Option (Term Bnode)) (tv : Term Bnode) → fill_slot path (unwrap_or w tv) (slot_of path w) ≡ Full (unwrap_or w tv)
filled_slot path None tv = rw ((exact_texts path path).1 refl) refl
filled_slot path (Some x) tv = refl

other_slot : (path r : Path) (v : Term Bnode) (w : Option (Term Bnode)) → path ≢ r → fill_slot r v (slot_of path w) ≡ slot_of path w
other_slot path r v None n = rw (false_unless (bytes_eq path r) (λ h. n ((exact_texts path r).0 h))) refl
other_slot path r v (Some x) n = refl

fill_reserved : (base : Chars) (at : Standing Bnode Owner) (chars : Chars) → fill at.path (value_at model base at chars) (reserved model base at) ≡ map full_entry (entries_at model base at chars)
unfolding reserved value_at entries_at
fill_reserved base at chars =
    let w : Option (Term Bnode) = value_now (rule_at model base at) at.facts in
    let tv : Term Bnode = value_of_text (rule_at model base at) at.facts chars in
    map_entries (fill_slot at.path (unwrap_or w tv)) Full (slot_of at.path w) at (resources model base at)
    ∙ ap (λ z. entries_by model Full z at (resources model base at)) (filled_slot at.path w tv)
    ∙ sym (map_entries Full (λ v. v) (unwrap_or w tv) at (resources model base at))

reserved_stays : (base : Chars) (at : Standing Bnode Owner) (r : Path) (v : Term Bnode) → at.path ≢ r → fill r v (reserved model base at) ≡ reserved model base at
unfolding reserved
reserved_stays base at r v n =
    let w : Option (Term Bnode) = value_now (rule_at model base at) at.facts in
    map_entries (fill_slot r v) Full (slot_of at.path w) at (resources model base at)
    ∙ ap (λ z. entries_by model Full z at (resources model base at)) (other_slot at.path r v w n)

reserved_under : (base : Chars) (at : Standing Bnode Owner) → InheritedUnder at.path at.around → (e : ModelEntry) → Among (settle (reserved model base at)) e → OwnerUnder at.path e.owner
unfolding reserved
reserved_under base at k e m =
    let q = Among_of_filter_map settled (reserved model base at) e m in
    subst (OwnerUnder at.path) (owner_of_settled q.0 (settled_item q.0.item) e q.2)
    (by_under Full (slot_of at.path (value_now (rule_at model base at) at.facts)) at (resources model base at) k q.0 q.1)

reserved_free : (base : Chars) (at : Standing Bnode Owner) → InheritedUnder at.path at.around → Free (Inside at.path 0) (settle (reserved model base at))
reserved_free base at k = free_of (Inside at.path 0) (settle (reserved model base at)) (λ e m. (at.path, reserved_under base at k e m, λ s k u. absurd (omega (arith, under_length k.at, under_length u))))

-- ---- texts

read_read : (t u : Chars) (texts : List Chars) → map (λ x. x ++ u) (map (λ x. x ++ t) texts) ≡ map (λ x. x ++ (t ++ u)) texts
read_read t u texts = map_each (λ x. x ++ u) (λ x. x ++ t) (λ x. x ++ (t ++ u)) texts (λ x. append_assoc x t u)

read_nothing : (texts : List Chars) → texts ≡ map (λ x. x ++ []) texts
read_nothing [] = refl
read_nothing (x ∷ texts) = ap₂ ◌∷◌ (sym (append-nil x)) (read_nothing texts)

-- ---- the whole

abbrev next_after : ℕ → Nodes Facts → ℕ
next_after i end = i
next_after i (element facts inside rest) = next_after (suc i) rest
next_after i (text chars rest) = next_after i rest

abbrev state : List (Standing Bnode Owner) → Path → ℕ → List Chars → List (ListEntry Owner (Slot Bnode)) → List ModelTriple → Machine Bnode Owner
state standings path next texts slots out = record { standings = standings; path = path; next = next; texts = texts; slots = slots; out = out }

-- where P holds no owner stands that has an entry, and no slot waits for the element there
record Ready (P : Path → Type 0) (slots : List (ListEntry Owner (Slot Bnode))) : Type 0 where
  free : Free P (settle slots)
  still : (r : Path) → P r → (v : Term Bnode) → fill r v slots ≡ slots

ready_fewer : (P Q : Path → Type 0) → ((s : Path) → P s → Q s) → (slots : List (ListEntry Owner (Slot Bnode))) → Ready Q slots → Ready P slots
ready_fewer P Q f slots h = record { free = free_fewer P Q f (settle slots) h.free; still = λ r w v. h.still r (f r w) v }

in_row : {A : Type 0} (a b c d e : List A) → (((a ++ b) ++ c) ++ d) ++ e ≡ a ++ (b ++ (c ++ (d ++ e)))
in_row a b c d e = simp append_assoc

module _ (base : Chars) where
  f : TreePlace → List ModelEntry
  f = entries_of model base

  ents : List Facts → Path → ℕ → Nodes Facts → List ModelEntry
  ents above path i nodes = flat_map f (places_from above path i nodes)

  gives : List Facts → Path → ℕ → Nodes Facts → List ModelTriple
  gives above path i nodes = in_order_from (start model base) (local_end model base) above path i nodes

  only_new : (o : Owner) (L M : List ModelEntry) → of_model_owner o L ≡ [] → of_model_owner o (L ++ M) ≡ of_model_owner o M
  only_new o L M e = of_owner_append o L M ∙ ap (λ z. z ++ of_model_owner o M) e

  -- the slots of an element that is left
  slots_left : (at : Standing Bnode Owner) (chars : Chars) (slots : List (ListEntry Owner (Slot Bnode))) (I : List ModelEntry) → fill at.path (value_at model base at chars) slots ≡ slots
      → fill at.path (value_at model base at chars) ((slots ++ reserved model base at) ++ map full_entry I) ≡ slots ++ map full_entry (entries_at model base at chars ++ I)
  slots_left at chars slots I e =
      let v : Term Bnode = value_at model base at chars in
      fill-append at.path v (slots ++ reserved model base at) (map full_entry I)
      ∙ ap₂ ◌++◌ (fill-append at.path v slots (reserved model base at) ∙ ap₂ ◌++◌ e (fill_reserved base at chars)) (fill_full at.path v I)
      ∙ append_assoc slots (map full_entry (entries_at model base at chars)) (map full_entry I)
      ∙ ap (λ z. slots ++ z) (sym (map-append full_entry (entries_at model base at chars) I))

  settle_left : (slots : List (ListEntry Owner (Slot Bnode))) (M : List ModelEntry) → settle (slots ++ map full_entry M) ≡ settle slots ++ M
  settle_left slots M = settle-append slots (map full_entry M) ∙ ap (λ z. settle slots ++ z) (settle_full M)

  leave_is : (at : Standing Bnode Owner) (chars : Chars) (n : ℕ) (standings : List (Standing Bnode Owner)) (texts : List Chars) (slots : List (ListEntry Owner (Slot Bnode))) (out : List ModelTriple) (I : List ModelEntry)
      → Ready (Under at.path) slots
      → leave model base (state (at ∷ standings) at.path n (chars ∷ texts) ((slots ++ reserved model base at) ++ map full_entry I) out)
      ≡ state standings (up at.path) (suc (number at.path)) texts (slots ++ map full_entry (entries_at model base at chars ++ I)) (out ++ (end_of model base at chars ++ (lists_below model base (entries_at model base at chars ++ I) at ++ lists_of model base (entries_at model base at chars ++ I) at)))
  unfolding Free
  leave_is at chars n standings texts slots out I h =
      let M : List ModelEntry = entries_at model base at chars ++ I in
      let s : settle (slots ++ map full_entry M) ≡ settle slots ++ M = settle_left slots M in
      ap (λ z. state standings (up at.path) (suc (number at.path)) texts z (out ++ (end_of model base at chars ++ (lists_below model base (settle z) at ++ lists_of model base (settle z) at)))) (slots_left at chars slots I (h.still at.path itself (value_at model base at chars)))
      ∙ ap (λ z. state standings (up at.path) (suc (number at.path)) texts (slots ++ map full_entry M) (out ++ (end_of model base at chars ++ z)))
      (lists_alike base at (settle (slots ++ map full_entry M)) M (λ o w. ap (of_model_owner o) s ∙ only_new o (settle slots) M (h.free o w)))

  -- the slots while the inside of an element is read, and after it is left
  ready_in : (at : Standing Bnode Owner) (slots : List (ListEntry Owner (Slot Bnode))) → InheritedUnder at.path at.around → Ready (Under at.path) slots → Ready (Inside at.path 0) (slots ++ reserved model base at)
  ready_in at slots k h = let g = ready_fewer (Inside at.path 0) (Under at.path) (inside_under at.path) slots h in record {
    free = subst (Free (Inside at.path 0)) (sym (settle-append slots (reserved model base at))) (free_append (Inside at.path 0) (settle slots) (settle (reserved model base at)) g.free (reserved_free base at k));
    still = λ r w v. fill-append r v slots (reserved model base at) ∙ ap₂ ◌++◌ (g.still r w v) (reserved_stays base at r v (λ e. absurd (omega (arith, under_length w.at, ap length e))));
  }

  ready_after : (path : Path) (i : ℕ) (slots : List (ListEntry Owner (Slot Bnode))) (M : List ModelEntry) → Free (Inside path (suc i)) M → Ready (Inside path i) slots → Ready (Inside path (suc i)) (slots ++ map full_entry M)
  ready_after path i slots M m h = let g = ready_fewer (Inside path (suc i)) (Inside path i) (inside_less path i) slots h in record {
    free = subst (Free (Inside path (suc i))) (sym (settle_left slots M)) (free_append (Inside path (suc i)) (settle slots) M g.free m);
    still = λ r w v. fill-append r v slots (map full_entry M) ∙ ap₂ ◌++◌ (g.still r w v) (fill_full r v M);
  }

  slots_in_row : (ps qs : List TreePlace) (p : TreePlace) (slots : List (ListEntry Owner (Slot Bnode))) → (slots ++ map full_entry (f p ++ flat_map f ps)) ++ map full_entry (flat_map f qs) ≡ slots ++ map full_entry (flat_map f (p ∷ (ps ++ qs)))
  slots_in_row ps qs p slots = append_assoc slots (map full_entry (f p ++ flat_map f ps)) (map full_entry (flat_map f qs))
      ∙ ap (λ z. slots ++ z) (sym (map-append full_entry (f p ++ flat_map f ps) (flat_map f qs)) ∙ ap (map full_entry) (append_assoc (f p) (flat_map f ps) (flat_map f qs) ∙ ap (λ z. f p ++ z) (sym (flat_map-append f ps qs))))

  run_is : (above : List Facts) (path : Path) (i : ℕ) (nodes : Nodes Facts) (standings : List (Standing Bnode Owner)) (texts : List Chars) (slots : List (ListEntry Owner (Slot Bnode))) (out : List ModelTriple)
      → inherit model base standings ≡ inherited model base above path → Ready (Inside path i) slots
      → run model base nodes (state standings path i texts slots out)
      ≡ state standings path (next_after i nodes) (map (λ t. t ++ element_text nodes) texts) (slots ++ map full_entry (ents above path i nodes)) (out ++ gives above path i nodes)
  unfolding run ents gives f
  run_is above path i end standings texts slots out h ready = λ k. state standings path i (read_nothing texts k) (sym (append-nil slots) k) (sym (append-nil out) k)
  run_is above path i (text chars rest) standings texts slots out h ready =
      run_is above path i rest standings (map (λ t. t ++ chars) texts) slots out h ready
      ∙ ap (λ z. state standings path (next_after i rest) z (slots ++ map full_entry (ents above path i rest)) (out ++ gives above path i rest)) (read_read chars (element_text rest) texts)
  run_is above path i (element facts inside rest) standings texts slots out h ready =
      let p : TreePlace = record { above = above; facts = facts; path = i ∷ path; inside = inside } in
      let at : Standing Bnode Owner = standing model base p in
      let T : Chars = element_text inside in
      let I : List ModelEntry = ents (facts ∷ above) (i ∷ path) 0 inside in
      let N : List ModelEntry = ents above path (suc i) rest in
      let texts' : List Chars = map (λ t. t ++ T) texts in
      let out' : List ModelTriple = (out ++ start model base p) ++ gives (facts ∷ above) (i ∷ path) 0 inside in
      let slots' : List (ListEntry Owner (Slot Bnode)) = slots ++ map full_entry (f p ++ I) in
      let ready' : Ready (Under (i ∷ path)) slots = ready_fewer (Under (i ∷ path)) (Inside path i) (inside_at path i) slots ready in
      -- what is inherited
      ap (λ (z : Inherited Bnode Owner). run model base rest (leave model base (run model base inside (entered model base (record { facts = facts; path = i ∷ path; around = z }) (state standings path i texts slots out))))) h
      -- what is inside
      ∙ ap (λ z. run model base rest (leave model base z))
      (run_is (facts ∷ above) (i ∷ path) 0 inside (at ∷ standings) ([] ∷ texts) (slots ++ reserved model base at) (out ++ start model base p) refl
      (ready_in at slots (inherited_up (i ∷ path) (inherited model base above path) (inherited_under base above path)) ready'))
      -- its end
      ∙ ap (λ z. run model base rest z)
      (leave_is at T (next_after 0 inside) standings texts' slots out' I ready')
      -- what follows
      ∙ run_is above path (suc i) rest standings texts' slots' (out' ++ local_end model base p) h (ready_after path i slots (f p ++ I)
      (free_append (Inside path (suc i)) (f p) I (own_free_after f (entries_under base) p i path refl) (inner_free_after f (entries_under base) (facts ∷ above) path i inside)) ready)
      ∙ (λ k. state standings path (next_after (suc i) rest) (read_read T (element_text rest) texts k) (slots_in_row (places_from (facts ∷ above) (i ∷ path) 0 inside) (places_from above path (suc i) rest) p slots k) (in_row out (start model base p) (gives (facts ∷ above) (i ∷ path) 0 inside) (local_end model base p) (gives above path (suc i) rest) k))

pub reading_makes : ReadingMakes
unfolding ents gives f Free
reading_makes base tree =
    ap (finished model base) (run_is base [] [] 0 tree [] [] [] [] refl (record { free = λ o s. refl; still = λ r w v. refl }))
    ∙ ap (λ z. in_order (start model base) (local_end model base) tree ++ page_lists model base z) (settle_full (entries model base tree))
    ∙ sym (lists_are_local base tree)
