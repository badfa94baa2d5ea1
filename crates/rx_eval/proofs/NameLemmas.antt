-- What is renamed by numbers stays so when more have numbers.
use Rattle.rx_eval.proofs.Common.{◌≡◌, ◌∙◌, ℕ, Bool, List, map, Option, Some, None, option_map, nat_eq, refl, sym, ap, ap₂, same_truth, IsExact, Node, Term, Triple, rename_node, rename_term, rename, false_unless, exact_numbers, Inherited, ListEntry, map_entry, Slot, Full, Waiting, rename_slot, rename_inherited, map_then, node_then, term_then, triple_then, inherited_then, Name, Number, Itself, name_by, numbered_name, same_name, KeepsNumbers}

pub grown_same : {A : Type 0} (to : A → Option ℕ) → KeepsNumbers to to
grown_same to = record { keeps = λ a n e. e }

pub grown_then : {A : Type 0} (x y z : A → Option ℕ) → KeepsNumbers x y → KeepsNumbers y z → KeepsNumbers x z
grown_then x y z g h = record { keeps = λ a n e. h.keeps a n (g.keeps a n e) }

-- ---- from the old names to the new ones

module _ {A : Type 0} (old new : A → Option ℕ) (grown : KeepsNumbers old new) where
  abbrev pub later : Name A → Name A
  later (Number n) = Number n
  later (Itself a) = numbered_name new a

  later_by : (a : A) (o : Option ℕ) → old a ≡ o → numbered_name new a ≡ later (name_by a o)
  later_by a None e = refl
  later_by a (Some n) e = ap (name_by a) (grown.keeps a n e)

  pub later_is : numbered_name new ≡ (λ a. later (numbered_name old a))
  later_is = λ i a. later_by a (old a) refl i

module _ {A : Type 0} (old new : A → Option ℕ) (grown : KeepsNumbers old new) where
  abbrev later_name : Name A → Name A
  later_name = later old new grown

  -- of whatever is renamed by numbers and by names, if it is renamed in two steps too
  pub named_later : {X Y Z : Type 0} (number : X → Z) (moved : Z → Z) (name : (A → Name A) → Y → Z) → ((x : X) → number x ≡ moved (number x)) → ((y : Y) → name (λ a. later_name (numbered_name old a)) y ≡ moved (name (numbered_name old) y))
      → (x : X) (y : Y) → number x ≡ name (numbered_name old) y → number x ≡ name (numbered_name new) y
  named_later number moved name n m x y e = n x ∙ ap moved e ∙ sym (m y) ∙ ap (λ (f : A → Name A). name f y) (sym (later_is old new grown))

  pub node_later : (x : Node ℕ) (y : Node A) → rename_node Number x ≡ rename_node (numbered_name old) y → rename_node Number x ≡ rename_node (numbered_name new) y
  node_later = named_later (rename_node Number) (rename_node later_name) rename_node (node_then later_name Number) (node_then later_name (numbered_name old))

  pub term_later : (x : Term ℕ) (y : Term A) → rename_term Number x ≡ rename_term (numbered_name old) y → rename_term Number x ≡ rename_term (numbered_name new) y
  term_later = named_later (rename_term Number) (rename_term later_name) rename_term (term_then later_name Number) (term_then later_name (numbered_name old))

  pub triples_later : (xs : List (Triple ℕ)) (ys : List (Triple A)) → map (rename Number) xs ≡ map (rename (numbered_name old)) ys → map (rename Number) xs ≡ map (rename (numbered_name new)) ys
  triples_later =
      named_later (map (rename Number)) (map (rename later_name)) (λ f. map (rename f)) (map_then (rename Number) (rename later_name) (rename Number) (triple_then later_name Number))
      (map_then (rename (λ a. later_name (numbered_name old a))) (rename later_name) (rename (numbered_name old)) (triple_then later_name (numbered_name old)))

  slot_then : {X Y Z : Type 0} (h : Y → Z) (f : X → Y) (s : Slot X) → rename_slot (λ a. h (f a)) s ≡ rename_slot h (rename_slot f s)
  slot_then h f (Full t) = ap Full (term_then h f t)
  slot_then h f (Waiting r) = refl

  -- of entries, whatever their items are
  pub entries_later : {O S T U : Type 0} (number : S → U) (moved : U → U) (name : (A → Name A) → T → U) → ((x : S) → number x ≡ moved (number x)) → ((y : T) → name (λ a. later_name (numbered_name old a)) y ≡ moved (name (numbered_name old) y))
      → (xs : List (ListEntry O S)) (ys : List (ListEntry O T)) → map (map_entry number) xs ≡ map (map_entry (name (numbered_name old))) ys → map (map_entry number) xs ≡ map (map_entry (name (numbered_name new))) ys
  entries_later {O} number moved name n m =
      named_later (map (map_entry number)) (map (map_entry moved)) (λ f. map (map_entry (name f))) (map_then (map_entry number) (map_entry moved) (map_entry number) (entry_then number moved number n))
      (map_then (map_entry (name (λ a. later_name (numbered_name old a)))) (map_entry moved) (map_entry (name (numbered_name old))) (entry_then (name (λ a. later_name (numbered_name old a))) moved (name (numbered_name old)) m))
    where
      item_then : {X Y Z : Type 0} (k : X → Z) (h : Y → Z) (f : X → Y) → ((x : X) → k x ≡ h (f x)) → (item : Option X) → option_map k item ≡ option_map h (option_map f item)
      item_then k h f q None = refl
      item_then k h f q (Some x) = ap Some (q x)

      entry_then : {X Y Z : Type 0} (k : X → Z) (h : Y → Z) (f : X → Y) → ((x : X) → k x ≡ h (f x)) → (e : ListEntry O X) → map_entry k e ≡ map_entry h (map_entry f e)
      entry_then k h f q e = λ i. record { owner = e.owner; predicate = e.predicate; item = item_then k h f q e.item i }

  pub slots_later : {O : Type 0} (xs : List (ListEntry O (Slot ℕ))) (ys : List (ListEntry O (Slot A))) → map (map_entry (rename_slot Number)) xs ≡ map (map_entry (rename_slot (numbered_name old))) ys
      → map (map_entry (rename_slot Number)) xs ≡ map (map_entry (rename_slot (numbered_name new))) ys
  slots_later = entries_later (rename_slot Number) (rename_slot later_name) rename_slot (slot_then later_name Number) (slot_then later_name (numbered_name old))

-- ---- the same for what has two kinds of names

module _ {A O : Type 0} (old new : A → Option ℕ) (grown : KeepsNumbers old new) (old' new' : O → Option ℕ) (grown' : KeepsNumbers old' new') where
  pub inherited_later : (x : Inherited ℕ ℕ) (y : Inherited A O) → rename_inherited Number Number x ≡ rename_inherited (numbered_name old) (numbered_name old') y
      → rename_inherited Number Number x ≡ rename_inherited (numbered_name new) (numbered_name new') y
  inherited_later x y e =
      let h : Name A → Name A = later old new grown in
      let h' : Name O → Name O = later old' new' grown' in
      inherited_then h Number h' Number x ∙ ap (rename_inherited h h') e ∙ sym (inherited_then h (numbered_name old) h' (numbered_name old') y)
      ∙ ap₂ (λ (f : A → Name A) (g : O → Name O). rename_inherited f g y) (sym (later_is old new grown)) (sym (later_is old' new' grown'))

-- ---- names are one where what they name is one

module _ {A : Type 0} (same : A → A → Bool) (exact : IsExact same) (to : A → Option ℕ) (one_to_one : (a b : A) (n : ℕ) → to a ≡ Some n → to b ≡ Some n → a ≡ b) where
  same_by : (a b : A) (o p : Option ℕ) → to a ≡ o → to b ≡ p → same a b ≡ same_name same (name_by a o) (name_by b p)
  same_by a b None None e f = refl
  same_by a b None (Some m) e f = false_unless (same a b) (λ h. absurd (cc (ap to ((exact a b).0 h), e, f)))
  same_by a b (Some n) None e f = false_unless (same a b) (λ h. absurd (cc (ap to ((exact a b).0 h), e, f)))
  same_by a b (Some n) (Some m) e f = same_truth (same a b) (nat_eq n m)
      (λ h. (exact_numbers n m).1 (numbers (ap to ((exact a b).0 h))))
      (λ h. (exact a b).1 (one_to_one a b n e (f ∙ ap Some (sym ((exact_numbers n m).0 h)))))
    where
      numbers : to a ≡ to b → n ≡ m
      numbers h = cc (h, e, f)

  pub same_names : (a b : A) → same a b ≡ same_name same (numbered_name to a) (numbered_name to b)
  same_names a b = same_by a b (to a) (to b) refl refl
