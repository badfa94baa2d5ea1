-- A renaming by steps is the steps one after another: what a numbering that grows comes to.
use Rattle.rx_rdfa.specs.Common.{Hanging, Forward, Inherited, rename_inherited}
use Rattle.rx_model.proofs.Common.{◌≡◌, List, [], ◌∷◌, map, refl, sym, ap₂, Node, Term, Triple, rename_node, rename_term, rename}
use Rattle.rx_model.proofs.Renamings.{node_twice, term_twice, triple_twice}
use Rattle.rx_rdfa.specs.Renaming.{rename_hanging}

pub map_then : {A B C : Type 0} (k : A → C) (h : B → C) (f : A → B) → ((x : A) → k x ≡ h (f x)) → (list : List A) → map k list ≡ map h (map f list)
map_then k h f e [] = refl
map_then k h f e (x ∷ list) = ap₂ ◌∷◌ (e x) (map_then k h f e list)

module _ {A B C : Type 0} (h : B → C) (f : A → B) where
  pub node_then : (x : Node A) → rename_node (λ a. h (f a)) x ≡ rename_node h (rename_node f x)
  node_then x = sym (node_twice f h (λ a. h (f a)) x (λ a k. refl))

  pub term_then : (x : Term A) → rename_term (λ a. h (f a)) x ≡ rename_term h (rename_term f x)
  term_then x = sym (term_twice f h (λ a. h (f a)) x (λ a k. refl))

  pub triple_then : (t : Triple A) → rename (λ a. h (f a)) t ≡ rename h (rename f t)
  triple_then t = sym (triple_twice f h (λ a. h (f a)) t (λ a k. refl))

module _ {O P Q : Type 0} (h : P → Q) (f : O → P) where
  hanging_then : (x : Hanging O) → rename_hanging (λ o. h (f o)) x ≡ rename_hanging h (rename_hanging f x)
  hanging_then (Forward p) = refl
  hanging_then _ = refl

module _ {A B C O P Q : Type 0} (h : B → C) (f : A → B) (h' : P → Q) (f' : O → P) where
  pub inherited_then : (x : Inherited A O) → rename_inherited (λ a. h (f a)) (λ o. h' (f' o)) x ≡ rename_inherited h h' (rename_inherited f f' x)
  inherited_then x = λ i. record {
    subject = node_then h f x.subject i;
    object = node_then h f x.object i;
    hanging = map_then (rename_hanging (λ o. h' (f' o))) (rename_hanging h') (rename_hanging f') (hanging_then h' f') x.hanging i;
    owner = h' (f' x.owner);
  }
