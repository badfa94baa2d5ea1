-- The laws of renaming.
use Rattle.rx_model.proofs.Common.{◌≡◌, suc, Bool, true, false, cond, List, [], ◌∷◌, ◌++◌, map, filter, flat_map, filter_map, Option, Some, None, option_map, is_none, bytes_eq, refl, sym, ap, ap₂, ◌∙◌, not, ◌&&◌, ◌||◌, cons_option, map-append, Chars, contains, distinct, Node, Iri, Blank, Term, Resource, Literal, Triple, same_node, same_term, same_triple, rename_node, rename_term, rename, blanks_of, blanks, place_in, numbered, rdfa_copy, rdfa_pattern, spo, type_pattern, is_pattern, pattern_object, live, edge, edges, leads, says_pattern, is_referenced, given, replaced, treated, copied, rdf_type}
use Rattle.rx_model.proofs.Renamings.{triple_blanks, all_twice}
use Rattle.rx_model.specs.Renaming.{NumbersForgetNames, CopyingKeepsNames}

-- a choice under a function
cond_of : {X Y : Type 0} (h : X → Y) (b : Bool) (x y : X) → cond b (h x) (h y) ≡ h (cond b x y)
cond_of h true x y = refl
cond_of h false x y = refl

-- ---- lists under a function that keeps apart

module _ {A B : Type 0} (same : A → A → Bool) (same' : B → B → Bool) (f : A → B) (keeps : (a b : A) → same a b ≡ same' (f a) (f b)) where
  filter_map_same : (x : A) (xs : List A) → filter (λ y. not (same' (f x) y)) (map f xs) ≡ map f (filter (λ y. not (same x y)) xs)
  filter_map_same x [] = refl
  filter_map_same x (y ∷ ys) = ap₂ (λ b zs. cond (not b) (f y ∷ zs) zs) (sym (keeps x y)) (filter_map_same x ys) ∙ cond_of (map f) (not (same x y)) (y ∷ filter (λ y. not (same x y)) ys) (filter (λ y. not (same x y)) ys)

  distinct_map : (xs : List A) → distinct same' (map f xs) ≡ map f (distinct same xs)
  distinct_map [] = refl
  distinct_map (x ∷ xs) = ap (λ z. f x ∷ filter (λ y. not (same' (f x) y)) z) (distinct_map xs) ∙ ap (λ z. f x ∷ z) (filter_map_same x (distinct same xs))

  contains_map : (xs : List A) (a : A) → contains same' (map f xs) (f a) ≡ contains same xs a
  contains_map [] a = refl
  contains_map (x ∷ xs) a = ap₂ ◌||◌ (sym (keeps x a)) (contains_map xs a)

  place_map : (xs : List A) (a : A) → place_in same' (map f xs) (f a) ≡ place_in same xs a
  place_map [] a = refl
  place_map (x ∷ xs) a = ap₂ (λ b n. cond b 0 (suc n)) (sym (keeps x a)) (place_map xs a)

module _ {A B : Type 0} (same : A → A → Bool) (same' : B → B → Bool) (f : A → B) (keeps : (a b : A) → same a b ≡ same' (f a) (f b)) where
  blanks_map : (list : List (Triple A)) → blanks (map (rename f) list) ≡ map f (blanks list)
  blanks_map [] = refl
  blanks_map (t ∷ list) = ap₂ ◌++◌ (triple_blanks f t) (blanks_map list) ∙ sym (map-append f (blanks_of t) (blanks list))

  numbers_forget : (list : List (Triple A)) → numbered same' (map (rename f) list) ≡ numbered same list
  numbers_forget list = ap (λ z. map (rename (place_in same' (distinct same' z))) (map (rename f) list)) (blanks_map list)
      ∙ ap (λ z. map (rename (place_in same' z)) (map (rename f) list)) (distinct_map same same' f keeps (blanks list))
      ∙ all_twice f (place_in same' (map f (distinct same (blanks list)))) (place_in same (distinct same (blanks list))) list (λ a h. place_map same same' f keeps (distinct same (blanks list)) a)

pub numbers_forget_names : {A B : Type 0} (same : A → A → Bool) (same' : B → B → Bool) → NumbersForgetNames same same'
numbers_forget_names same same' f keeps list = numbers_forget same same' f keeps list

-- ---- copying

pub filter_map_map : {A B C D : Type 0} (f : A → B) (g : C → D) (h : A → Option C) (h' : B → Option D) → ((x : A) → h' (f x) ≡ option_map g (h x)) → (xs : List A) → filter_map h' (map f xs) ≡ map g (filter_map h xs)
filter_map_map f g h h' k [] = refl
filter_map_map f g h h' k (x ∷ xs) = ap₂ cons_option (k x) (filter_map_map f g h h' k xs) ∙ go (h x)
  where
    go : (o : Option _) → cons_option (option_map g o) (map g (filter_map h xs)) ≡ map g (cons_option o (filter_map h xs))
    go None = refl
    go (Some y) = refl

flat_map_map : {A B C D : Type 0} (f : A → B) (g : C → D) (h : A → List C) (h' : B → List D) → ((x : A) → h' (f x) ≡ map g (h x)) → (xs : List A) → flat_map h' (map f xs) ≡ map g (flat_map h xs)
flat_map_map f g h h' k [] = refl
flat_map_map f g h h' k (x ∷ xs) = ap₂ ◌++◌ (k x) (flat_map_map f g h h' k xs) ∙ sym (map-append g (h x) (flat_map h xs))

module _ {A B : Type 0} (same : A → A → Bool) (same' : B → B → Bool) (f : A → B) (keeps : (a b : A) → same a b ≡ same' (f a) (f b)) where
  keeps_node : (a b : Node A) → same_node same a b ≡ same_node same' (rename_node f a) (rename_node f b)
  keeps_node (Blank a) (Blank b) = keeps a b
  keeps_node (Iri a) (Iri b) = refl
  keeps_node _ _ = refl

  keeps_term : (a b : Term A) → same_term same a b ≡ same_term same' (rename_term f a) (rename_term f b)
  keeps_term (Resource a) (Resource b) = keeps_node a b
  keeps_term (Literal a k) (Literal b l) = refl
  keeps_term _ _ = refl

  keeps_triple : (t u : Triple A) → same_triple same t u ≡ same_triple same' (rename f t) (rename f u)
  keeps_triple t u = ap₂ (λ a b. a && bytes_eq t.predicate u.predicate && b) (keeps_node t.subject u.subject) (keeps_term t.object u.object)

  pattern_map : (list : List (Triple A)) (t : Node A) → is_pattern same' (map (rename f) list) (rename_node f t) ≡ is_pattern same list t
  pattern_map list t = contains_map (same_triple same) (same_triple same') (rename f) keeps_triple list (type_pattern t)

  object_map : (list : List (Triple A)) (o : Term A) → pattern_object same' (map (rename f) list) (rename_term f o) ≡ option_map (rename_node f) (pattern_object same list o)
  object_map list (Resource t) = ap (λ b. cond b (Some (rename_node f t)) None) (pattern_map list t) ∙ cond_of (option_map (rename_node f)) (is_pattern same list t) (Some t) None
  object_map list (Literal lexical kind) = refl

  live_map : (list : List (Triple A)) (p : Chars) (o : Term A) → live same' (map (rename f) list) p (rename_term f o) ≡ option_map (rename_node f) (live same list p o)
  live_map list p o = ap (λ z. cond (bytes_eq p rdfa_copy) z None) (object_map list o) ∙ cond_of (option_map (rename_node f)) (bytes_eq p rdfa_copy) (pattern_object same list o) None

  pair : Node A × Node A → Node B × Node B
  pair e = (rename_node f e.0, rename_node f e.1)

  edge_of : (s : Node A) (o : Option (Node A)) → option_map (λ (to : Node B). (rename_node f s, to)) (option_map (rename_node f) o) ≡ option_map pair (option_map (λ (to : Node A). (s, to)) o)
  unfolding pair
  edge_of s None = refl
  edge_of s (Some t) = refl

  edges_map : (list : List (Triple A)) → edges same' (map (rename f) list) ≡ map pair (edges same list)
  edges_map list = filter_map_map (rename f) pair (edge same list) (edge same' (map (rename f) list))
      (λ u. ap (option_map (λ (to : Node B). (rename_node f u.subject, to))) (live_map list u.predicate u.object) ∙ edge_of u.subject (live same list u.predicate u.object)) list

  leads_map : (es : List (Node A × Node A)) (a b : Node A) → leads (same_node same') (map pair es) (rename_node f a) (rename_node f b) ≡ leads (same_node same) es a b
  unfolding pair
  leads_map [] a b = sym (keeps_node a b)
  leads_map (e ∷ es) a b = λ i. leads_map es a b i || (leads_map es a e.0 i && leads_map es e.1 b i)

  referenced_map : (es : List (Node A × Node A)) (t : Node A) → is_referenced same' (map pair es) (rename_node f t) ≡ is_referenced same es t
  unfolding pair
  referenced_map [] t = refl
  referenced_map (e ∷ es) t = ap₂ ◌||◌ (sym (keeps_node e.1 t)) (referenced_map es t)

  says_map : (p : Chars) (o : Term A) → says_pattern same' p (rename_term f o) ≡ says_pattern same p o
  says_map p o = ap (λ z. bytes_eq p rdf_type && z) (sym (keeps_term o (Resource (Iri rdfa_pattern))))

  none_map : (o : Option (Node A)) → is_none (option_map (rename_node f) o) ≡ is_none o
  none_map None = refl
  none_map (Some t) = refl

  given_map : (list : List (Triple A)) (es : List (Node A × Node A)) (s t : Node A) (u : Triple A)
      → given same' (map (rename f) list) (map pair es) (rename_node f s) (rename_node f t) (rename f u) ≡ option_map (rename f) (given same list es s t u)
  given_map list es s t u =
      (λ i. cond (leads_map es t u.subject i && not (says_map u.predicate u.object i) && (ap is_none (live_map list u.predicate u.object) ∙ none_map (live same list u.predicate u.object)) i) (Some (rename f (spo s u.predicate u.object))) None)
      ∙ cond_of (option_map (rename f)) (leads (same_node same) es t u.subject && not (says_pattern same u.predicate u.object) && is_none (live same list u.predicate u.object)) (Some (spo s u.predicate u.object)) None

  replaced_map : (list : List (Triple A)) (es : List (Node A × Node A)) (u : Triple A) (o : Option (Node A)) → replaced same' (map (rename f) list) (map pair es) (rename f u) (option_map (rename_node f) o) ≡ map (rename f) (replaced same list es u o)
  replaced_map list es u None = refl
  replaced_map list es u (Some t) = filter_map_map (rename f) (rename f) (given same list es u.subject t) (given same' (map (rename f) list) (map pair es) (rename_node f u.subject) (rename_node f t)) (given_map list es u.subject t) list

  treated_map : (list : List (Triple A)) (es : List (Node A × Node A)) (u : Triple A) → treated same' (map (rename f) list) (map pair es) (rename f u) ≡ map (rename f) (treated same list es u)
  treated_map list es u =
      ap₂ (λ b zs. cond b [] zs) (referenced_map es u.subject)
      (ap (replaced same' (map (rename f) list) (map pair es) (rename f u)) (live_map list u.predicate u.object) ∙ replaced_map list es u (live same list u.predicate u.object))
      ∙ cond_of (map (rename f)) (is_referenced same es u.subject) [] (replaced same list es u (live same list u.predicate u.object))

  copying_keeps : (list : List (Triple A)) → copied same' (map (rename f) list) ≡ map (rename f) (copied same list)
  copying_keeps list =
      ap (λ es. distinct (same_triple same') (flat_map (treated same' (map (rename f) list) es) (map (rename f) list))) (edges_map list)
      ∙ ap (distinct (same_triple same')) (flat_map_map (rename f) (rename f) (treated same list (edges same list)) (treated same' (map (rename f) list) (map pair (edges same list))) (treated_map list (edges same list)) list)
      ∙ distinct_map (same_triple same) (same_triple same') (rename f) keeps_triple (flat_map (treated same list (edges same list)) list)

pub copying_keeps_names : {A B : Type 0} (same : A → A → Bool) (same' : B → B → Bool) → CopyingKeepsNames same same'
copying_keeps_names same same' f keeps list = copying_keeps same same' f keeps list
