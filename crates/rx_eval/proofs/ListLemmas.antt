-- The owners' tables while slots are put into lists, owners begin and end, and places are filled.
use Rattle.rx_eval.proofs.Common.{◌≡◌, ◌∙◌, ℕ, suc, Bool, true, false, List, [], ◌∷◌, ◌++◌, map, Option, Some, None, option_map, refl, sym, ap, ap₂, append-nil, append_assoc, if◌then◌else◌, map-append, filter-append, by_test, Term, rename_term, Bnode, Owner, same_owner, ListEntry, map_entry, of_owner, Slot, Full, Waiting, rename_slot, rename_entry, exact_owners, PredicateTable, put, table_from, Owning, owning, put_at, put_entries, Name, Number, name_by, numbered_name, OwnedSlots, OpenOwners, owner_place, slot_term, table_in, owners_of, OwnersDiffer, zero}
use Rattle.rx_lists.proofs.RowLemmas.{turned}
use Rattle.rx_eval.proofs.ElementLemmas.{slot_value}

pub owner_turned : (a b : Owner) → same_owner a b ≡ same_owner b a
owner_turned = turned same_owner same_owner exact_owners exact_owners

-- ---- one more slot

table_more : {O T : Type 0} (t : PredicateTable T) (xs : List (ListEntry O T)) (e : ListEntry O T) → table_from t (xs ++ e ∷ []) ≡ put e.predicate e.item (table_from t xs)
table_more t [] e = refl
table_more t (x ∷ xs) e = table_more (put x.predicate x.item t) xs e

of_more : (slots : OwnedSlots) (y : ListEntry Owner (Slot ℕ)) (o : Owner) → of_owner same_owner o (slots ++ y ∷ []) ≡ of_owner same_owner o slots ++ of_owner same_owner o (y ∷ [])
of_more slots y o = filter-append (λ (e : ListEntry Owner (Slot ℕ)). same_owner e.owner o) slots (y ∷ [])

in_table : (slots : OwnedSlots) (y : ListEntry Owner (Slot ℕ)) (o : Owner) → same_owner y.owner o ≡ true → table_in (slots ++ y ∷ []) o ≡ put y.predicate (option_map slot_term y.item) (table_in slots o)
in_table slots y o t =
    ap (λ (l : OwnedSlots). table_from [] (map (map_entry slot_term) l)) (of_more slots y o ∙ ap (λ (b : Bool). of_owner same_owner o slots ++ (if b then y ∷ [] else [])) t)
    ∙ ap (table_from []) (map-append (map_entry slot_term) (of_owner same_owner o slots) (y ∷ []))
    ∙ table_more [] (map (map_entry slot_term) (of_owner same_owner o slots)) (map_entry slot_term y)

out_table : (slots : OwnedSlots) (y : ListEntry Owner (Slot ℕ)) (o : Owner) → same_owner y.owner o ≡ false → table_in (slots ++ y ∷ []) o ≡ table_in slots o
out_table slots y o t =
    ap (λ (l : OwnedSlots). table_from [] (map (map_entry slot_term) l)) (of_more slots y o ∙ ap (λ (b : Bool). of_owner same_owner o slots ++ (if b then y ∷ [] else [])) t ∙ append-nil (of_owner same_owner o slots))

pub no_suc : (o : Option ℕ) → option_map suc o ≡ None → o ≡ None
no_suc None h = refl
no_suc (Some n) h = absurd (cc)

pub suc_is : (o : Option ℕ) (n : ℕ) → option_map suc o ≡ Some n → (m : ℕ) × (o ≡ Some m) × (n ≡ suc m)
suc_is None n h = absurd (cc)
suc_is (Some m) n h = (m, refl, let e : suc m ≡ n = cc in sym e)

others_same : (slots : OwnedSlots) (y : ListEntry Owner (Slot ℕ)) (open_owners : OpenOwners) → owner_place open_owners y.owner ≡ None → owners_of (slots ++ y ∷ []) open_owners ≡ owners_of slots open_owners
others_same slots y [] h = refl
others_same slots y (one ∷ more) h =
    by_test (same_owner one.0 y.owner) (λ t. absurd (cc (rw t at h)))
    (λ f.
    ap₂ (λ (t : PredicateTable (Option (Term ℕ))) (l : List (Option Owning)). Some (owning one.1 t) ∷ l) (out_table slots y one.0 (owner_turned y.owner one.0 ∙ f))
    (others_same slots y more (no_suc (owner_place more y.owner) (rw f at h))))

put_one : (open_owners : OpenOwners) (slots : OwnedSlots) (y : ListEntry Owner (Slot ℕ)) (n : ℕ) → OwnersDiffer open_owners → owner_place open_owners y.owner ≡ Some n
    → put_at n y.predicate (option_map slot_term y.item) (owners_of slots open_owners) ≡ owners_of (slots ++ y ∷ []) open_owners
put_one [] slots y n a h = absurd (cc)
put_one (one ∷ more) slots y zero a h =
    by_test (same_owner one.0 y.owner)
    (λ t. ap₂ (λ (t : PredicateTable (Option (Term ℕ))) (l : List (Option Owning)). Some (owning one.1 t) ∷ l) (sym (in_table slots y one.0 (owner_turned y.owner one.0 ∙ t)))
    (sym (others_same slots y more (ap (owner_place more) (sym ((exact_owners one.0 y.owner).0 t)) ∙ a.0))))
    (λ f. absurd (let m = suc_is (owner_place more y.owner) zero (rw f at h) in cc m.2))
put_one (one ∷ more) slots y (suc n) a h =
    by_test (same_owner one.0 y.owner) (λ t. absurd (cc (rw t at h)))
    (λ f. let m = suc_is (owner_place more y.owner) (suc n) (rw f at h) in let q : m.0 ≡ n = cc m.2 in
    ap₂ (λ (t : PredicateTable (Option (Term ℕ))) (l : List (Option Owning)). Some (owning one.1 t) ∷ l) (sym (out_table slots y one.0 (owner_turned y.owner one.0 ∙ f))) (put_one more slots y n a.1 (m.1 ∙ ap Some q)))

-- ---- entries by the owners' numbers are the slots by their names

abbrev pub Puts : Type 0
Puts = List (ListEntry ℕ (Option (Term ℕ)))

-- one by one
pub data Match (own : Owner → Option ℕ) : Puts → OwnedSlots → Type 0 where
  all_matched : Match own [] []
  matched : (x : ListEntry ℕ (Option (Term ℕ))) (y : ListEntry Owner (Slot ℕ)) (xs : Puts) (ys : OwnedSlots) → own y.owner ≡ Some x.owner → x.predicate ≡ y.predicate → x.item ≡ option_map slot_term y.item → Match own xs ys → Match own (x ∷ xs) (y ∷ ys)

number_is : {A : Type 0} (a : A) (o : Option ℕ) (n : ℕ) → Number n ≡ name_by a o → o ≡ Some n
number_is a None n e = absurd (cc)
number_is a (Some m) n e = let q : n ≡ m = cc in ap Some (sym q)

pub put_all : (open_owners : OpenOwners) → OwnersDiffer open_owners → (xs : Puts) (ys slots : OwnedSlots) → Match (owner_place open_owners) xs ys → put_entries xs (owners_of slots open_owners) ≡ owners_of (slots ++ ys) open_owners
put_all open_owners a _ _ slots all_matched = ap (λ (s : OwnedSlots). owners_of s open_owners) (sym (append-nil slots))
put_all open_owners a _ _ slots (matched x y xs ys o p i m) =
    ap (put_entries xs) ((λ j. put_at x.owner (p j) (i j) (owners_of slots open_owners)) ∙ put_one open_owners slots y x.owner a o)
    ∙ put_all open_owners a xs ys (slots ++ y ∷ []) m
    ∙ ap (λ (s : OwnedSlots). owners_of s open_owners) (append_assoc slots (y ∷ []) ys)

-- slots by numbers, from entries by numbers and slots by the rules' names
pub record Merged (own : Owner → Option ℕ) (f : Bnode → Name Bnode) (xs : Puts) (zs : List (ListEntry Owner (Slot Bnode))) : Type 0 where
  pub slots : OwnedSlots
  pub match : Match own xs slots
  pub renamed : map (map_entry (rename_slot Number)) slots ≡ map (map_entry (rename_slot f)) zs

record OneItem (f : Bnode → Name Bnode) (x : Option (Option (Term ℕ))) (z : Option (Slot Bnode)) : Type 0 where
  slot : Option (Slot ℕ)
  is_item : x ≡ option_map slot_term slot
  is_slot : option_map (rename_slot Number) slot ≡ option_map (rename_slot f) z

one_item : (f : Bnode → Name Bnode) (x : Option (Option (Term ℕ))) (z : Option (Slot Bnode)) → option_map (option_map (rename_term Number)) x ≡ option_map (slot_value f) z → OneItem f x z
one_item f None None e = record { slot = None; is_item = refl; is_slot = refl }
one_item f (Some None) (Some (Waiting r)) e = record { slot = Some (Waiting r); is_item = refl; is_slot = refl }
one_item f (Some (Some u)) (Some (Full v)) e =
    let q : rename_term Number u ≡ rename_term f v = cc in
    record { slot = Some (Full u); is_item = refl; is_slot = ap (λ (t : Term (Name Bnode)). Some (Full t)) q }
one_item f _ _ e = absurd (cc)

pub merged : (own : Owner → Option ℕ) (f : Bnode → Name Bnode) (xs : Puts) (zs : List (ListEntry Owner (Slot Bnode)))
    → map (rename_entry Number (option_map (rename_term Number))) xs ≡ map (rename_entry (numbered_name own) (slot_value f)) zs → Merged own f xs zs
merged own f [] [] e = record { slots = []; match = all_matched; renamed = refl }
merged own f (x ∷ xs) (z ∷ zs) e =
    let first : rename_entry Number (option_map (rename_term Number)) x ≡ rename_entry (numbered_name own) (slot_value f) z = cc in
    let rest : map (rename_entry Number (option_map (rename_term Number))) xs ≡ map (rename_entry (numbered_name own) (slot_value f)) zs = cc in
    let m = merged own f xs zs rest in
    let i = one_item f x.item z.item (ap (λ (e : ListEntry (Name Owner) (Option (Term (Name Bnode)))). e.item) first) in
    let y : ListEntry Owner (Slot ℕ) = record { owner = z.owner; predicate = z.predicate; item = i.slot } in
    record {
      slots = y ∷ m.slots;
      match = matched x y xs m.slots (number_is z.owner (own z.owner) x.owner (λ j. (first j).owner)) (λ j. (first j).predicate) i.is_item m.match;
      renamed = λ j. record { owner = z.owner; predicate = z.predicate; item = i.is_slot j } ∷ m.renamed j;
    }
merged own f _ _ e = absurd (cc)
