-- What is put into the code's lists, as the rules see it.
use Rattle.rx_eval.proofs.Common.{◌≡◌, ◌∙◌, ℕ, Bool, zero, suc, List, [], ◌∷◌, ◌++◌, map, filter_map, Option, Some, None, option_map, option_to_list, slice_set, bytes_eq, refl, sym, ap, ap₂, length, drop, ◌≤◌, slice_index_or, if◌then◌else◌, map-append, length-map, map-set, Chars, by_test, Term, node_seen, term_seen, put, entry, Owned, Owners, changed, with_term, itself, open_at, place_of, slots_of, trimmed_tail, trimmed_by, forgotten, lists_of, cells_count, SlotId, waiting_seen, term_of, resource_term, put_each, put_awaited, slots_for, Owning, owning, slots_seen, owning_seen, owners_seen, put_at, put_entries, with_item, open_seen, lists_in, list_place, item_count, next_slot, places_for, fill_seen, fill_all, cells_seen, ended_by, trimmed_owners, forgotten_seen, Entries, awaited_entry}
use Rattle.rx_terms.specs.declared.triples.Node.{Node as CodeNode}
use Rattle.rx_terms.specs.declared.triples.Term.{Term as CodeTerm}
use Rattle.rx_lists.specs.Owners.{Slots}
use Rattle.rx_lists.specs.SlotIds.{slot_in}
use Rattle.rx_lists.specs.declared.lists.Owner.{Owner}
use Rattle.rx_lists.specs.Cells.{cells_of, items_seen, finished_cells, size}
use Rattle.rx_eval.specs.Closing.{filled_in}
use Rattle.rx_eval.specs.declared.contexts.IncompleteTriple.{IncompleteTriple}
use Rattle.rx_eval.specs.declared.contexts.IncompleteTriple.TheVariants.{Forward, Reverse, InList}
use Rattle.rx_eval.proofs.DrawLemmas.{nothing_left}
use Rattle.rx_terms.specs.declared.triples.Node.TheVariants as code_node

abbrev pub item_seen : Option (Option CodeTerm) → Option (Option (Term ℕ))
item_seen item = option_map (option_map term_seen) item

one_more : (item : Option (Option CodeTerm)) (slots : List (Option CodeTerm)) → map (option_map term_seen) (slots ++ option_to_list item) ≡ map (option_map term_seen) slots ++ option_to_list (item_seen item)
one_more None slots = map-append (option_map term_seen) slots []
one_more (Some x) slots = map-append (option_map term_seen) slots (x ∷ [])

abbrev row_seen : List ℕ × List (Option CodeTerm) → List ℕ × List (Option (Term ℕ))
row_seen row = (row.0, map (option_map term_seen) row.1)

put_seen : (p : Chars) (item : Option (Option CodeTerm)) (lists : Slots) → slots_seen (put p item lists) ≡ put p (item_seen item) (slots_seen lists)
put_seen p None [] = refl
put_seen p (Some x) [] = refl
put_seen p item (row ∷ lists) =
    by_test (bytes_eq row.0 p)
    (λ e. rw e (ap (λ (s : List (Option (Term ℕ))). (row.0, s) ∷ slots_seen lists) (one_more item row.1)))
    (λ e. rw e (ap (λ (l : List (List ℕ × List (Option (Term ℕ)))). (row.0, map (option_map term_seen) row.1) ∷ l) (put_seen p item lists)))

pub changed_seen : (p : Chars) (item : Option (Option CodeTerm)) (owners : Owners) (n : ℕ) → owners_seen (changed (put p item) owners n) ≡ put_at n p (item_seen item) (owners_seen owners)
changed_seen p item [] n = refl
changed_seen p item (None ∷ owners) zero = refl
changed_seen p item (Some o ∷ owners) zero = ap (λ (l : List (List ℕ × List (Option (Term ℕ)))). Some (owning (node_seen o.subject) l) ∷ owners_seen owners) (put_seen p item o.lists)
changed_seen p item (o ∷ owners) (suc n) = ap (λ (l : List (Option Owning)). option_map owning_seen o ∷ l) (changed_seen p item owners n)

pub each_seen : (n : ℕ) (item : Option (Option CodeTerm)) (ps : List Chars) (owners : Owners)
    → owners_seen (put_each n item ps owners) ≡ put_entries (map (entry n (item_seen item)) ps) (owners_seen owners)
each_seen n item [] owners = refl
each_seen n item (p ∷ ps) owners =
    each_seen n item ps (changed (put p item) owners n) ∙ ap (put_entries (map (entry n (item_seen item)) ps)) (changed_seen p item owners n)

pub awaited_seen : (subject : CodeNode) (waiting : List IncompleteTriple) (owners : Owners)
    → owners_seen (put_awaited (term_of subject) waiting owners) ≡ put_entries (filter_map (awaited_entry (node_seen subject)) (map waiting_seen waiting)) (owners_seen owners)
awaited_seen subject [] owners = refl
awaited_seen subject (Forward p ∷ waiting) owners = awaited_seen subject waiting owners
awaited_seen subject (Reverse p ∷ waiting) owners = awaited_seen subject waiting owners
awaited_seen subject (InList owner p ∷ waiting) owners =
    awaited_seen subject waiting (changed (put p (Some (Some (term_of subject)))) owners owner.0)
    ∙ ap (put_entries (filter_map (awaited_entry (node_seen subject)) (map waiting_seen waiting)))
    (changed_seen p (Some (Some (term_of subject))) owners owner.0 ∙ ap (λ (t : Term ℕ). put_at owner.0 p (Some (Some t)) (owners_seen owners)) (term_is subject))
  where
    term_is : (node : CodeNode) → term_seen (term_of node) ≡ resource_term (node_seen node)
    term_is (code_node.Iri iri) = refl
    term_is (code_node.Blank b) = refl

pub entries_then : (xs ys : Entries) (owners : List (Option Owning)) → put_entries (xs ++ ys) owners ≡ put_entries ys (put_entries xs owners)
entries_then [] ys owners = refl
entries_then (e ∷ xs) ys owners = entries_then xs ys (put_at e.owner e.predicate e.item owners)

pub two_put : (xs ys : Entries) (a b c : List (Option Owning)) → b ≡ put_entries xs a → c ≡ put_entries ys b → c ≡ put_entries (xs ++ ys) a
two_put xs ys a b c e f = f ∙ ap (put_entries ys) e ∙ sym (entries_then xs ys a)

pub seen_each : (old new : Owners) (n : ℕ) (item : Option (Option CodeTerm)) (ps : List Chars) (entries : Entries) → map (entry n (item_seen item)) ps ≡ entries
    → new ≡ put_each n item ps old → owners_seen new ≡ put_entries entries (owners_seen old)
seen_each old new n item ps entries e h = ap owners_seen h ∙ each_seen n item ps old ∙ ap (λ (x : Entries). put_entries x (owners_seen old)) e

-- ---- places

open_is : (owners : Owners) (n : ℕ) → option_map owning_seen (open_at owners n) ≡ open_seen (owners_seen owners) n
open_is (o ∷ owners) (suc n) = open_is owners n
open_is _ _ = refl

place_is : (p : Chars) (lists : Slots) → place_of p lists ≡ list_place p (slots_seen lists)
place_is p [] = refl
place_is p (row ∷ lists) = by_test (bytes_eq row.0 p) (λ t. rw t refl) (λ f. rw f (ap suc (place_is p lists)))

count_in : (p : Chars) (lists : Slots) → length (slots_of p lists) ≡ item_count p (slots_seen lists)
count_in p [] = refl
count_in p (row ∷ lists) = by_test (bytes_eq row.0 p) (λ t. rw t (sym (length-map row.1 (option_map term_seen)))) (λ f. rw f (count_in p lists))

lists_are : (o : Option Owned) → slots_seen (lists_of o) ≡ lists_in (option_map owning_seen o)
lists_are None = refl
lists_are (Some o) = refl

next_is : (owner : Owner) (p : Chars) (owners : Owners) → slot_in owner p (lists_of (open_at owners owner.0)) ≡ next_slot owner.0 p (owners_seen owners)
next_is owner p owners =
    let l : slots_seen (lists_of (open_at owners owner.0)) ≡ lists_in (open_seen (owners_seen owners) owner.0) =
    lists_are (open_at owners owner.0) ∙ ap lists_in (open_is owners owner.0) in
    let a = place_is p (lists_of (open_at owners owner.0)) ∙ ap (list_place p) l in
    let b = count_in p (lists_of (open_at owners owner.0)) ∙ ap (item_count p) l in
    λ i. record { owner = owner; list = a i; place = b i }

pub places_are : (owner : Owner) (ps : List Chars) (owners : Owners) → slots_for owner ps owners ≡ places_for owner.0 ps (owners_seen owners)
places_are owner [] owners = refl
places_are owner (p ∷ ps) owners =
    ap₂ (λ (s : SlotId) (l : List SlotId). s ∷ l) (next_is owner p owners)
    (places_are owner ps (changed (put p (Some None)) owners owner.0) ∙ ap (places_for owner.0 ps) (changed_seen p (Some None) owners owner.0))

pub seen_awaited : (old new : Owners) (subject : CodeNode) (t : CodeTerm) (waiting : List IncompleteTriple) → t ≡ term_of subject → new ≡ put_awaited t waiting old
    → owners_seen new ≡ put_entries (filter_map (awaited_entry (node_seen subject)) (map waiting_seen waiting)) (owners_seen old)
seen_awaited old new subject t waiting e h = ap owners_seen h ∙ ap (λ (x : CodeTerm). owners_seen (put_awaited x waiting old)) e ∙ awaited_seen subject waiting old

pub three_put : (xs ys zs : Entries) (a b c d : List (Option Owning)) → b ≡ put_entries xs a → c ≡ put_entries ys b → d ≡ put_entries zs c → d ≡ put_entries (xs ++ (ys ++ zs)) a
three_put xs ys zs a b c d e f g = two_put xs (ys ++ zs) a b d e (two_put ys zs b c d f g)

-- ---- what is filled and finished

row_at : (lists : Slots) (i : ℕ) → row_seen (slice_index_or lists i ([], [])) ≡ slice_index_or (slots_seen lists) i ([], [])
row_at (row ∷ lists) (suc i) = row_at lists i
row_at _ _ = refl

term_filled : (l p : ℕ) (t : CodeTerm) (lists : Slots) → slots_seen (with_term l p t lists) ≡ with_item l p (term_seen t) (slots_seen lists)
term_filled l p t lists =
    map-set row_seen lists l ((slice_index_or lists l ([], [])).0, slice_set (slice_index_or lists l ([], [])).1 p (Some t))
    ∙ ap (λ (s : List (Option (Term ℕ))). slice_set (slots_seen lists) l ((slice_index_or lists l ([], [])).0, s)) (map-set (option_map term_seen) (slice_index_or lists l ([], [])).1 p (Some t))
    ∙ ap (λ (r : List ℕ × List (Option (Term ℕ))). slice_set (slots_seen lists) l (r.0, slice_set r.1 p (Some (term_seen t)))) (row_at lists l)

fill_is : (l p : ℕ) (t : CodeTerm) (owners : Owners) (n : ℕ) → owners_seen (changed (with_term l p t) owners n) ≡ fill_seen l p (term_seen t) (owners_seen owners) n
fill_is l p t [] n = refl
fill_is l p t (None ∷ owners) zero = refl
fill_is l p t (Some o ∷ owners) zero = ap (λ (x : List (List ℕ × List (Option (Term ℕ)))). Some (owning (node_seen o.subject) x) ∷ owners_seen owners) (term_filled l p t o.lists)
fill_is l p t (o ∷ owners) (suc n) = ap (λ (x : List (Option Owning)). option_map owning_seen o ∷ x) (fill_is l p t owners n)

filled_are : (slots : List SlotId) (t : CodeTerm) (owners : Owners) → owners_seen (filled_in slots t owners) ≡ fill_all slots (term_seen t) (owners_seen owners)
filled_are [] t owners = refl
filled_are (slot ∷ slots) t owners =
    filled_are slots t (changed (with_term slot.list slot.place t) owners slot.owner.0) ∙ ap (fill_all slots (term_seen t)) (fill_is slot.list slot.place t owners slot.owner.0)

pub seen_filled : (old new : Owners) (slots : List SlotId) (t : CodeTerm) → new ≡ filled_in slots t old → owners_seen new ≡ fill_all slots (term_seen t) (owners_seen old)
seen_filled old new slots t h = ap owners_seen h ∙ filled_are slots t old

items_are : (row : List (Option CodeTerm)) → map term_seen (filter_map itself row) ≡ filter_map itself (map (option_map term_seen) row)
items_are [] = refl
items_are (None ∷ row) = items_are row
items_are (Some t ∷ row) = ap (λ (l : List (Term ℕ)). term_seen t ∷ l) (items_are row)

all_items : (lists : Slots) → items_seen lists ≡ map (λ row. (row.0, filter_map itself row.1)) (slots_seen lists)
all_items [] = refl
all_items (row ∷ lists) =
    ap₂ (λ (a : List (Term ℕ)) (b : List (List ℕ × List (Term ℕ))). (row.0, a) ∷ b) (items_are row.1) (all_items lists)

cells_are : (next : ℕ) (o : Option Owned) → finished_cells next o ≡ cells_seen next (option_map owning_seen o)
cells_are next None = refl
cells_are next (Some o) = ap (cells_of next (node_seen o.subject)) (all_items o.lists)

pub seen_cells : (next : ℕ) (owners : Owners) (n : ℕ) → finished_cells next (open_at owners n) ≡ cells_seen next (open_seen (owners_seen owners) n)
seen_cells next owners n = cells_are next (open_at owners n) ∙ ap (cells_seen next) (open_is owners n)

ended_one : (o : Option Owned) (owners : Owners) → owners_seen (trimmed_by o owners) ≡ ended_by (option_map owning_seen o) (owners_seen owners)
ended_one None (o ∷ more) = refl
ended_one _ _ = refl

pub ended_are : (owners : Owners) → owners_seen (trimmed_tail owners) ≡ trimmed_owners (owners_seen owners)
ended_are [] = refl
ended_are (o ∷ owners) = ended_one o (trimmed_tail owners) ∙ ap (ended_by (option_map owning_seen o)) (ended_are owners)

pub seen_forgotten : (old new : Owners) (n : ℕ) → new ≡ forgotten old n → owners_seen new ≡ forgotten_seen (owners_seen old) n
seen_forgotten old new n h = ap owners_seen h ∙ ended_are (slice_set old n None) ∙ ap trimmed_owners (map-set (option_map owning_seen) old n None)

pub all_filled : (slots : List SlotId) (i : ℕ) (t : CodeTerm) (now whole : Owners) → length slots ≤ i → filled_in (drop i slots) t now ≡ whole → now ≡ whole
all_filled slots i t now whole h e = ap (λ (l : List SlotId). filled_in l t now) (sym (nothing_left i slots h)) ∙ e

count_is : (o : Option Owned) → size (items_seen (lists_of o)) ≡ cells_count (option_map owning_seen o)
count_is None = refl
count_is (Some o) = ap size (all_items o.lists)

pub seen_count : (owners : Owners) (n : ℕ) → size (items_seen (lists_of (open_at owners n))) ≡ cells_count (open_seen (owners_seen owners) n)
seen_count owners n = count_is (open_at owners n) ∙ ap cells_count (open_is owners n)

-- ---- two and three steps, where places are reserved at the last

pub places_then : (waits : Bool) (owner : ℕ) (xs ys : Entries) (ps : List Chars) (slots : List SlotId) (a b c : List (Option Owning)) → b ≡ put_entries xs a → c ≡ put_entries ys b
    → slots ≡ (if waits then places_for owner ps c else []) → slots ≡ (if waits then places_for owner ps (put_entries (xs ++ ys) a) else [])
places_then waits owner xs ys ps slots a b c e f h = h ∙ ap (λ (l : List (Option Owning)). if waits then places_for owner ps l else []) (two_put xs ys a b c e f)
