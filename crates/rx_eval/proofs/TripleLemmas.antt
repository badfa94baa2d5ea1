-- Triples that are added one after another.
use Rattle.rx_eval.proofs.Common.{◌≡◌, ◌∙◌, ℕ, zero, suc, ◌+◌, ◌≤◌, arith, List, [], ◌∷◌, ◌++◌, map, length, drop, Some, slice_get, refl, sym, ap, append-nil, add-one, Result, on_ok_weaker, Chars, OnOk, Node, Term, Triple, spo, to_node, Ref, IriRef, resource_named, ref_seen, refs_seen, Numbered, moment, resource_term, ToCome, rdf_type, types_of}
use Rattle.rx_curie.specs.declared.refs.Ref.{Ref as CodeRef}
use Rattle.rx_eval.specs.Places.{named_node}
use Rattle.rx_eval.proofs.GrowLemmas.{one_came}
use Rattle.rx_eval.proofs.DrawLemmas.{drop_at, nothing_left}

pub all_came : (out left whole : List (Triple ℕ)) → left ≡ [] → ToCome out left whole → out ≡ whole
all_came out left whole e w = sym (append-nil out) ∙ ap (λ (x : List (Triple ℕ)). out ++ x) (sym e) ∙ w.path

-- of a list that is mapped, the one at a place and those behind it
pub map_at : {A : Type 0} (f : A → Triple ℕ) (xs : List A) (i : ℕ) (x : A) → slice_get xs i ≡ Some x → map f (drop i xs) ≡ f x ∷ map f (drop (i + 1) xs)
map_at f xs i x g = rw add-one (ap (map f) (drop_at xs i x g))

pub map_end : {A : Type 0} (f : A → Triple ℕ) (xs : List A) (i : ℕ) → length xs ≤ i → map f (drop i xs) ≡ []
map_end f xs i h = ap (map f) (nothing_left i xs h)

-- the last one
last_came : {A : Type 0} (f : A → Triple ℕ) (xs : List A) (i : ℕ) (x : A) (out more whole : List (Triple ℕ)) → slice_get xs i ≡ Some x → length xs ≤ i + 1 → more ≡ out ++ f x ∷ [] → ToCome out (map f (drop i xs)) whole → more ≡ whole
last_came f xs i x out more whole g h m w = all_came more (map f (drop (i + 1) xs)) whole (map_end f xs (i + 1) h) (one_came out more whole _ _ (f x) (map_at f xs i x g) m w)

pub last_pushed : {A E : Type 0} (r : Result (Unit {0}) E) (f : A → Triple ℕ) (xs : List A) (i : ℕ) (x : A) (out more whole : List (Triple ℕ)) → slice_get xs i ≡ Some x → length xs ≤ i + 1
    → OnOk r (more ≡ out ++ f x ∷ []) → ToCome out (map f (drop i xs)) whole → OnOk r (more ≡ whole)
last_pushed r f xs i x out more whole g h m w = on_ok_weaker r (λ k. last_came f xs i x out more whole g h k w) m

-- the only one
all_left : {A : Type 0} (xs : List A) → drop 0 xs ≡ xs
all_left [] = refl
all_left (x ∷ xs) = refl

only_to_come : {A : Type 0} (f : A → Triple ℕ) (xs : List A) (i : ℕ) (out : List (Triple ℕ)) → i ≡ 0 → ToCome out (map f (drop i xs)) (out ++ map f xs)
only_to_come f xs zero out z = record { path = ap (λ (l : List _). out ++ map f l) (all_left xs) }
only_to_come f xs (suc i) out z = absurd (omega (arith, z))

pub only_pushed : {A E : Type 0} (r : Result (Unit {0}) E) (f : A → Triple ℕ) (xs : List A) (i : ℕ) (x : A) (out more : List (Triple ℕ)) → i ≡ 0 → slice_get xs i ≡ Some x → length xs ≤ i + 1
    → OnOk r (more ≡ out ++ f x ∷ []) → OnOk r (more ≡ out ++ map f xs)
only_pushed r f xs i x out more z g h m = last_pushed r f xs i x out more (out ++ map f xs) g h m (only_to_come f xs i out z)

-- a type more
same_named : (labels : Numbered) (f : ℕ) (base : Chars) (r : Ref) → resource_named (moment labels 0 0 0) base r ≡ resource_named (moment labels f 0 0) base r
same_named labels f base (IriRef iri) = refl
same_named labels f base _ = refl

pub type_came : (labels : Numbered) (f : ℕ) (base predicate : Chars) (typed : Node ℕ) (types : List CodeRef) (i : ℕ) (x : CodeRef) (node : Node ℕ) (term : Term ℕ) (out more whole : List (Triple ℕ))
    → slice_get types i ≡ Some x → predicate ≡ rdf_type → node ≡ named_node labels base (ref_seen x) → term ≡ resource_term node → more ≡ out ++ spo typed predicate term ∷ []
    → ToCome out (types_of (moment labels f 0 0) base typed (refs_seen (drop i types))) whole → ToCome more (types_of (moment labels f 0 0) base typed (refs_seen (drop (i + 1) types))) whole
type_came labels f base predicate typed types i x node term out more whole g p n t m w =
    one_came out more whole _ _ (to_node typed rdf_type (resource_named (moment labels f 0 0) base (ref_seen x)))
    (rw add-one (ap (λ (l : List CodeRef). types_of (moment labels f 0 0) base typed (refs_seen l)) (drop_at types i x g)))
    (m ∙ ap (λ (q : Chars). out ++ spo typed q term ∷ []) p ∙ ap (λ (z : Term ℕ). out ++ spo typed rdf_type z ∷ []) (t ∙ ap resource_term (n ∙ same_named labels f base (ref_seen x)))) w
