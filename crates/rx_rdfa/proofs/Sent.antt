-- Functions that go through options, tests and lists. The facts are records, so that what they speak of is found.
use Rattle.rx_rdfa.proofs.Common.{◌≡◌, Bool, true, false, cond, List, [], ◌∷◌, ◌++◌, map, filter, flat_map, filter_map, Option, Some, None, option_map, is_none, unwrap_or, refl, sym, ap, ap₂, ◌∙◌, inl, inr, map-append, option_or, by_test, Among, then_some, only}
use Rattle.rx_model.proofs.Renaming.{filter_map_map}

module _ {B C : Type 0} (h : B → C) where
  pub map_or : (a b : Option B) → option_map h (option_or a b) ≡ option_or (option_map h a) (option_map h b)
  map_or None b = refl
  map_or (Some a) b = refl

  pub map_then : (t : Bool) (a : B) → option_map h (then_some t a) ≡ then_some t (h a)
  map_then true a = refl
  map_then false a = refl

  pub map_only : (t : Bool) (a : Option B) → option_map h (only t a) ≡ only t (option_map h a)
  map_only true a = refl
  map_only false a = refl

  pub map_unwrap : (a : Option B) (b : B) → h (unwrap_or a b) ≡ unwrap_or (option_map h a) (h b)
  map_unwrap None b = refl
  map_unwrap (Some a) b = refl

  pub none_map : (a : Option B) → is_none a ≡ is_none (option_map h a)
  none_map None = refl
  none_map (Some a) = refl

  pub map_cond : (t : Bool) (a b : B) → h (cond t a b) ≡ cond t (h a) (h b)
  map_cond true a b = refl
  map_cond false a b = refl

-- ---- lists under a function

pub map_cond_nil : {A B : Type 0} (h : A → B) (b : Bool) (xs : List A) (ys : List B) → map h xs ≡ ys → map h (cond b xs []) ≡ cond b ys []
map_cond_nil h b xs ys e = map_cond (map h) b xs [] ∙ ap (λ z. cond b z []) e

pub map_unless : {A B : Type 0} (h : A → B) (b : Bool) (xs : List A) (ys : List B) → map h xs ≡ ys → map h (cond b [] xs) ≡ cond b [] ys
map_unless h b xs ys e = map_cond (map h) b [] xs ∙ ap (cond b []) e

pub map_both : {A B : Type 0} (h : A → B) (xs ys : List A) (us vs : List B) → map h xs ≡ us → map h ys ≡ vs → map h (xs ++ ys) ≡ us ++ vs
map_both h xs ys us vs e q = map-append h xs ys ∙ ap₂ ◌++◌ e q

pub map_each : {A B C : Type 0} (h : B → C) (k : A → B) (k' : A → C) (xs : List A) → ((x : A) → h (k x) ≡ k' x) → map h (map k xs) ≡ map k' xs
map_each h k k' [] e = refl
map_each h k k' (x ∷ xs) e = ap₂ ◌∷◌ (e x) (map_each h k k' xs e)

pub map_filtered : {A B : Type 0} (h : A → B) (p : A → Bool) (q : B → Bool) → ((a : A) → p a ≡ q (h a)) → (xs : List A) → map h (filter p xs) ≡ filter q (map h xs)
map_filtered h p q k [] = refl
map_filtered h p q k (x ∷ xs) = by_test (p x) (λ t. rw (sym (k x) ∙ t, t) (ap (λ z. h x ∷ z) (map_filtered h p q k xs))) (λ t. rw (sym (k x) ∙ t, t) (map_filtered h p q k xs))

pub map_found : {A B X Y : Type 0} (h : A → B) (find : X → Option A) (find' : Y → Option B) (g : X → Y) → ((x : X) → option_map h (find x) ≡ find' (g x)) → (xs : List X) → map h (filter_map find xs) ≡ filter_map find' (map g xs)
map_found h find find' g k xs = sym (filter_map_map g h find find' (λ x. sym (k x)) xs)

pub map_flat : {A B X : Type 0} (h : A → B) (f : X → List A) (f' : X → List B) (xs : List X) → ((x : X) → Among xs x → map h (f x) ≡ f' x) → map h (flat_map f xs) ≡ flat_map f' xs
map_flat h f f' [] k = refl
map_flat h f f' (x ∷ xs) k = map_both h (f x) (flat_map f xs) _ _ (k x (inl refl)) (map_flat h f f' xs (λ y m. k y (inr m)))

-- ---- what a function takes to what

-- h takes a to b
pub record Sent {B C : Type 0} (h : B → C) (a : B) (b : C) : Type 0 where
  pub path : h a ≡ b

pub record SentOption {B C : Type 0} (h : B → C) (a : Option B) (b : Option C) : Type 0 where
  pub path : option_map h a ≡ b

module _ {B C : Type 0} {h : B → C} where
  pub or_is : {a b : Option B} {a' b' : Option C} → SentOption h a a' → SentOption h b b' → SentOption h (option_or a b) (option_or a' b')
  or_is {a} {b} p q = record { path = map_or h a b ∙ ap₂ option_or p.path q.path }

  pub then_is : (t : Bool) {a : B} {a' : C} → Sent h a a' → SentOption h (then_some t a) (then_some t a')
  then_is t {a} p = record { path = map_then h t a ∙ ap (then_some t) p.path }

  pub only_is : (t : Bool) {a : Option B} {a' : Option C} → SentOption h a a' → SentOption h (only t a) (only t a')
  only_is t {a} p = record { path = map_only h t a ∙ ap (only t) p.path }

  pub unwrap_is : {a : Option B} {a' : Option C} {b : B} {b' : C} → SentOption h a a' → Sent h b b' → Sent h (unwrap_or a b) (unwrap_or a' b')
  unwrap_is {a} {b = b} p q = record { path = map_unwrap h a b ∙ ap₂ unwrap_or p.path q.path }

  pub none_is : {a : Option B} {a' : Option C} → SentOption h a a' → is_none a ≡ is_none a'
  none_is {a} p = none_map h a ∙ ap is_none p.path

  pub cond_is : (t : Bool) {a b : B} {a' b' : C} → Sent h a a' → Sent h b b' → Sent h (cond t a b) (cond t a' b')
  cond_is t {a} {b} p q = record { path = map_cond h t a b ∙ ap₂ (cond t) p.path q.path }
