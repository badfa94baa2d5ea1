-- The law of locality.
use Rattle.rx_rdfa.proofs.Common.{◌≡◌, ◌≢◌, ℕ, suc, ◌≤◌, Bool, true, false, cond, List, [], ◌∷◌, ◌++◌, map, flat_map, length, Option, Some, None, refl, sym, ap, ap₂, ◌∙◌, subst, inl, inr, arith, append-nil, filter-append, Chars, Among, Term, same_node, Among_cases, Among_of_flat_map, false_unless, flat_map-append, split, Nodes, element_text, Path, Owner, First, Of, Below, Bnode, Cell, ModelNode, same_owner, same_bnode, model, Facts, Hanging, Forward, Reverse, InList, Inherited, Resources, Standing, resources, listed, hangs, object_below, own_owner, owner_below, hanging_of, handed, up, inherited, TreePlace, places_from, start, end', standing, in_order_from, ListEntry, awaited, entries_by, entries_of, entries, of_owner, cells_from, rule, value, end_and_lists, page_lists, lists_below, lists_of}
use Rattle.rx_grammar.specs.Trees.{end, element, text}
use Rattle.rx_rdfa.specs.Inherited.{below}
use Rattle.rx_rdfa.specs.Lists.{entries_at, cells}
use Rattle.rx_rdfa.specs.Local.{ListsAreLocal}
use Rattle.rx_rdfa.proofs.Exact.{exact_owners}
use Rattle.rx_rdfa.proofs.Every.{All, IfThere, all_if, all_both, all_mapped, entries_all}

abbrev pub ModelEntry : Type 0
ModelEntry = ListEntry Owner (Term Bnode)

abbrev pub of_model_owner : {T : Type 0} → Owner → List (ListEntry Owner T) → List (ListEntry Owner T)
of_model_owner owner list = of_owner same_owner owner list

-- s is r, or the path of an element around that at r
pub data Under (s : Path) : Path → Type 0 where
  itself : Under s s
  inner : {i : ℕ} {r : Path} → Under s r → Under s (i ∷ r)

pub under_length : {s r : Path} → Under s r → length s ≤ length r
under_length itself = omega arith
under_length (inner u) = omega (arith, under_length u)

-- two that are around one, and as long, are one
pub under_same : {s t r : Path} → Under s r → Under t r → length s ≡ length t → s ≡ t
under_same itself itself e = refl
under_same itself (inner v) e = absurd (omega (arith, under_length v))
under_same (inner u) itself e = absurd (omega (arith, under_length u))
under_same (inner u) (inner v) e = under_same u v e

-- the owner is the page, or stands at an element around the path
abbrev pub OwnerUnder : Path → Owner → Type 0
OwnerUnder r First = Unit {0}
OwnerUnder r (Of s) = Under s r
OwnerUnder r (Below s) = Under s r

abbrev pub HangingUnder : Path → Hanging Owner → Type 0
HangingUnder r (InList o p) = OwnerUnder r o
HangingUnder r _ = Unit {0}

pub owner_inner : (i : ℕ) (r : Path) (o : Owner) → OwnerUnder r o → OwnerUnder (i ∷ r) o
owner_inner i r First h = tt
owner_inner i r _ h = inner h

pub hanging_inner : (i : ℕ) (r : Path) (h : Hanging Owner) → HangingUnder r h → HangingUnder (i ∷ r) h
hanging_inner i r (InList o p) k = owner_inner i r o k
hanging_inner i r _ k = tt

-- what is inherited at a path names owners around it
pub record InheritedUnder (r : Path) (inherited : Inherited Bnode Owner) : Type 0 where
  pub own : OwnerUnder r inherited.owner
  pub all : All (HangingUnder r) inherited.hanging

pub own_under : (at : Standing Bnode Owner) (here : Resources Bnode) → OwnerUnder at.path at.around.owner → OwnerUnder at.path (own_owner model at here)
own_under at here h = split (OwnerUnder at.path) (same_node same_bnode here.subject at.around.object) at.around.owner (Of at.path) (λ _. h) (λ _. itself)

pub below_under : (at : Standing Bnode Owner) (here : Resources Bnode) (o : Option ModelNode) (owner : Owner) → OwnerUnder at.path owner → OwnerUnder at.path (owner_below model at here o owner)
below_under at here None owner h = h
below_under at here (Some object) owner h = split (OwnerUnder at.path) (same_node same_bnode object here.subject) owner (Below at.path) (λ _. h) (λ _. itself)

pub rel_under : (b : Bool) (r : Path) (o : Owner) (p : Chars) → OwnerUnder r o → HangingUnder r (cond b (InList o) Forward p)
rel_under true r o p k = k
rel_under false r o p k = tt

pub handed_under : (at : Standing Bnode Owner) (here : Resources Bnode) → InheritedUnder at.path at.around → InheritedUnder at.path (handed model at here)
handed_under at here k =
    let owner : Owner = own_owner model at here in
    let own : OwnerUnder at.path owner = own_under at here k.own in
    let Hung : Hanging Owner → Type 0 = HangingUnder at.path in
    let of_rel : Chars → Hanging Owner = cond at.facts.inlist (InList owner) Forward in
    split (InheritedUnder at.path) here.skipped at.around _ (λ _. k) (λ _. record {
      own = below_under at here (object_below model at here) owner own;
      all =
          all_if Hung (hangs at.facts here) (hanging_of model at here owner)
          (all_both Hung (map of_rel (listed at.facts.rel)) (map Reverse (listed at.facts.rev))
          (all_mapped Hung of_rel (listed at.facts.rel) (λ p m. rel_under at.facts.inlist at.path owner p own))
          (all_mapped Hung Reverse (listed at.facts.rev) (λ p m. tt)));
    })

pub inherited_up : (r : Path) (x : Inherited Bnode Owner) → InheritedUnder (up r) x → InheritedUnder r x
inherited_up [] x k = k
inherited_up (i ∷ r) x k = record { own = owner_inner i r x.owner k.own; all = λ h m. hanging_inner i r h (k.all h m) }

pub inherited_under : (base : Chars) (above : List Facts) (r : Path) → InheritedUnder r (inherited model base above r)
unfolding below
inherited_under base [] r = record { own = tt; all = λ h m. absurd m }
inherited_under base (facts ∷ above) r = let at : Standing Bnode Owner = record { facts = facts; path = r; around = inherited model base above (up r) } in
    handed_under at (resources model base at) (inherited_up r (inherited model base above (up r)) (inherited_under base above (up r)))

-- ---- each entry of an element names an owner around it

pub awaited_under : {T : Type 0} (full : Term Bnode → T) (v : T) (at : Standing Bnode Owner) (here : Resources Bnode) (h : Hanging Owner) → HangingUnder at.path h → IfThere (λ (e : ListEntry Owner T). OwnerUnder at.path e.owner) (awaited model full v at here h)
awaited_under full v at here (InList o p) k = k
awaited_under full v at here (Forward p) k = tt
awaited_under full v at here _ k = tt

pub by_under : {T : Type 0} (full : Term Bnode → T) (v : T) (at : Standing Bnode Owner) (here : Resources Bnode) → InheritedUnder at.path at.around → All (λ (e : ListEntry Owner T). OwnerUnder at.path e.owner) (entries_by model full v at here)
by_under {T} full v at here k =
    let own : OwnerUnder at.path (own_owner model at here) = own_under at here k.own in
    entries_all (λ (e : ListEntry Owner T). OwnerUnder at.path e.owner) model full v at here (λ object p. own) (λ p. own) (λ p. own) (λ h m. awaited_under full v at here h (k.all h m))

pub entries_under : (base : Chars) (place : TreePlace) (e : ModelEntry) → Among (entries_of model base place) e → OwnerUnder place.path e.owner
unfolding entries_at
entries_under base place e m = let at : Standing Bnode Owner = standing model base place in
    by_under (λ v. v) (value (rule model base at.facts (resources model base at)) at.facts (element_text place.inside)) at (resources model base at) (inherited_up place.path at.around (inherited_under base place.above (up place.path))) e m

-- ---- where the places are

pub under_trans : {s t r : Path} → Under s t → Under t r → Under s r
under_trans u itself = u
under_trans u (inner v) = inner (under_trans u v)

-- r is at an element of the nodes from number i on
pub record Inside (path : Path) (i : ℕ) (r : Path) : Type 0 where
  pub j : ℕ
  pub from : i ≤ j
  pub at : Under (j ∷ path) r

pub inside_up : (path : Path) (i : ℕ) (r : Path) → Inside (i ∷ path) 0 r → Inside path i r
inside_up path i r k = record { j = i; from = omega arith; at = under_trans (inner itself) k.at }

pub inside_less : (path : Path) (i : ℕ) (r : Path) → Inside path (suc i) r → Inside path i r
inside_less path i r k = record { j = k.j; from = omega (arith, k.from); at = k.at }

pub places_inside : (above : List Facts) (path : Path) (i : ℕ) (nodes : Nodes Facts) (p : TreePlace) → Among (places_from above path i nodes) p → Inside path i p.path
places_inside above path i end p m = absurd m
places_inside above path i (text s rest) p m = places_inside above path i rest p m
places_inside above path i (element facts inside rest) p (inl e) = subst (λ (x : TreePlace). Inside path i x.path) e (record { j = i; from = omega arith; at = itself })
places_inside above path i (element facts inside rest) p (inr m) = elim (Among_cases (places_from (facts ∷ above) (i ∷ path) 0 inside) (places_from above path (suc i) rest) p m) [
  | inl l ↦ inside_up path i p.path (places_inside (facts ∷ above) (i ∷ path) 0 inside p l)
  | inr l ↦ inside_less path i p.path (places_inside above path (suc i) rest p l)
]

pub first_same : {i j : ℕ} {path : Path} → i ∷ path ≡ j ∷ path → i ≡ j
first_same e = cc

-- two numbers at one path, both around r, are one
pub clash : {i j : ℕ} {path r : Path} → Under (i ∷ path) r → Under (j ∷ path) r → i ≡ j
clash {i} {j} {path} u v = first_same (under_same u v (ap suc refl))

pub inside_at : (path : Path) (i : ℕ) (r : Path) → Under (i ∷ path) r → Inside path i r
inside_at path i r u = record { j = i; from = omega arith; at = u }

pub inside_under : (path r : Path) → Inside path 0 r → Under path r
inside_under path r k = under_trans (inner itself) k.at

-- ---- entries of other owners

pub nothing_of : (o : Owner) (xs : List ModelEntry) → ((e : ModelEntry) → Among xs e → e.owner ≢ o) → of_model_owner o xs ≡ []
nothing_of o [] k = refl
nothing_of o (x ∷ xs) k = rw (false_unless (same_owner x.owner o) (λ h. k x (inl refl) ((exact_owners x.owner o).0 h))) (nothing_of o xs (λ e m. k e (inr m)))

-- the owner stands at an element of which P holds
abbrev pub StandsIn : (Path → Type 0) → Owner → Type 0
StandsIn P First = ⊥
StandsIn P (Of s) = P s
StandsIn P (Below s) = P s

pub stands_more : (P Q : Path → Type 0) → ((s : Path) → P s → Q s) → (o : Owner) → StandsIn P o → StandsIn Q o
stands_more P Q f First h = h
stands_more P Q f (Of s) h = f s h
stands_more P Q f (Below s) h = f s h

-- such an owner is not around r, where no s of which P holds is
pub not_under : (P : Path → Type 0) (r : Path) → ((s : Path) → P s → ¬ (Under s r)) → (o : Owner) → StandsIn P o → ¬ (OwnerUnder r o)
not_under P r f First h k = h
not_under P r f (Of s) h k = f s h k
not_under P r f (Below s) h k = f s h k

pub of_owner_append : (o : Owner) (xs ys : List ModelEntry) → of_model_owner o (xs ++ ys) ≡ of_model_owner o xs ++ of_model_owner o ys
of_owner_append o xs ys = filter-append (λ (e : ModelEntry). same_owner e.owner o) xs ys

-- no entry of an owner that stands where P holds
unfoldable pub Free : (Path → Type 0) → List ModelEntry → Type 0
Free P xs = (o : Owner) → StandsIn P o → of_model_owner o xs ≡ []

pub free_append : (P : Path → Type 0) (xs ys : List ModelEntry) → Free P xs → Free P ys → Free P (xs ++ ys)
unfolding Free
free_append P xs ys h k o s = of_owner_append o xs ys ∙ ap₂ ◌++◌ (h o s) (k o s)

pub free_fewer : (P Q : Path → Type 0) → ((s : Path) → P s → Q s) → (xs : List ModelEntry) → Free Q xs → Free P xs
unfolding Free
free_fewer P Q f xs h o s = h o (stands_more P Q f o s)

-- each entry is of an owner around a path, around which no s of which P holds is
pub free_of : (P : Path → Type 0) (xs : List ModelEntry) → All (λ (e : ModelEntry). (r : Path) × OwnerUnder r e.owner × ((s : Path) → P s → ¬ (Under s r))) xs → Free P xs
unfolding Free
free_of P xs k o s = nothing_of o xs (λ e m q. let r = k e m in not_under P r.0 r.2 o s (subst (OwnerUnder r.0) q r.1))

unfoldable pub within : (TreePlace → List ModelEntry) → TreePlace → List ModelEntry
within f p = f p ++ flat_map f (places_from (p.facts ∷ p.above) p.path 0 p.inside)

-- of three lists two are empty, or the last is
pub only_middle : {A : Type 0} (a b c : List A) → a ≡ [] → c ≡ [] → a ++ (b ++ c) ≡ b
only_middle a b c e q = rw (e, q) (append-nil b)

pub only_last : {A : Type 0} (a b c : List A) → a ≡ [] → b ≡ [] → a ++ (b ++ c) ≡ c
only_last a b c e q = rw (e, q) refl

pub but_last : {A : Type 0} (a b c : List A) → c ≡ [] → a ++ (b ++ c) ≡ a ++ b
but_last a b c q = rw q (ap (λ z. a ++ z) (append-nil b))

-- ---- the law, where each place has entries of owners around it

module _ (f : TreePlace → List ModelEntry) (under : (p : TreePlace) (e : ModelEntry) → Among (f p) e → OwnerUnder p.path e.owner) where
  pub free_places : (P : Path → Type 0) (ps : List TreePlace) → ((p : TreePlace) → Among ps p → (s : Path) → P s → ¬ (Under s p.path)) → Free P (flat_map f ps)
  free_places P ps k = free_of P (flat_map f ps) (λ e m. let r = Among_of_flat_map f ps e m in (r.0.path, under r.0 e r.2, k r.0 r.1))

  -- the entries of element i are of no owner inside it, nor after it
  pub own_free_inside : (p : TreePlace) → Free (Inside p.path 0) (f p)
  own_free_inside p = free_of (Inside p.path 0) (f p) (λ e m. (p.path, under p e m, λ s k u. absurd (omega (arith, under_length k.at, under_length u))))

  pub own_free_after : (p : TreePlace) (i : ℕ) (path : Path) → p.path ≡ i ∷ path → Free (Inside path (suc i)) (f p)
  own_free_after p i path q = free_of (Inside path (suc i)) (f p) (λ e m. (p.path, under p e m, λ s k u. let e : k.j ≡ i = clash (under_trans k.at (subst (Under s) q u)) itself in absurd (omega (arith, k.from))))

  pub inner_free_after : (above : List Facts) (path : Path) (i : ℕ) (inside : Nodes Facts) → Free (Inside path (suc i)) (flat_map f (places_from above (i ∷ path) 0 inside))
  unfolding inside_up
  inner_free_after above path i inside = free_places (Inside path (suc i)) (places_from above (i ∷ path) 0 inside)
      (λ p m s k u. let w = places_inside above (i ∷ path) 0 inside p m in let e : k.j ≡ i = clash (under_trans k.at u) (inside_up path i p.path w).at in absurd (omega (arith, k.from)))

  -- those after element i are of no owner at it or inside it
  pub later_free : (above : List Facts) (path : Path) (i : ℕ) (rest : Nodes Facts) → Free (Under (i ∷ path)) (flat_map f (places_from above path (suc i) rest))
  later_free above path i rest = free_places (Under (i ∷ path)) (places_from above path (suc i) rest)
      (λ p m s k u. let w = places_inside above path (suc i) rest p m in let e : i ≡ w.j = clash (under_trans k u) w.at in absurd (omega (arith, w.from)))

  module _ {A : Type 0} (front : TreePlace → List A) (back : List ModelEntry → TreePlace → List A)
      (alike : (p : TreePlace) (xs ys : List ModelEntry) → ((o : Owner) → StandsIn (Under p.path) o → of_model_owner o xs ≡ of_model_owner o ys) → back xs p ≡ back ys p) (E : List ModelEntry) where
    -- the parts of some nodes are the same where an owner inside them has no other entries
    pub local_from : (above : List Facts) (path : Path) (i : ℕ) (nodes : Nodes Facts) → ((o : Owner) → StandsIn (Inside path i) o → of_model_owner o E ≡ of_model_owner o (flat_map f (places_from above path i nodes)))
        → in_order_from front (back E) above path i nodes ≡ in_order_from front (λ p. back (within f p) p) above path i nodes
    unfolding within Free
    local_from above path i end q = refl
    local_from above path i (text s rest) q = local_from above path i rest q
    local_from above path i (element facts inside rest) q =
        let p : TreePlace = record { above = above; facts = facts; path = i ∷ path; inside = inside } in
        let ps : List TreePlace = places_from (facts ∷ above) (i ∷ path) 0 inside in
        let qs : List TreePlace = places_from above path (suc i) rest in
        let of : Owner → List ModelEntry → List ModelEntry = of_model_owner in
        let I : List ModelEntry = flat_map f ps in
        let N : List ModelEntry = flat_map f qs in
        let parts : (o : Owner) → StandsIn (Inside path i) o → of o E ≡ of o (f p) ++ (of o I ++ of o N) =
        λ o s. q o s ∙ of_owner_append o (f p) (flat_map f (ps ++ qs)) ∙ ap (λ x. of o (f p) ++ x) (ap (of o) (flat_map-append f ps qs) ∙ of_owner_append o I N)
        in
        let l = local_from (facts ∷ above) (i ∷ path) 0 inside (λ o s.
        parts o (stands_more (Inside (i ∷ path) 0) (Inside path i) (inside_up path i) o s)
        ∙ only_middle (of o (f p)) (of o I) (of o N) (own_free_inside p o s) (later_free above path i rest o (stands_more (Inside (i ∷ path) 0) (Under (i ∷ path)) (inside_under (i ∷ path)) o s)))
        in
        let m = alike p E (f p ++ I) (λ o s.
        parts o (stands_more (Under (i ∷ path)) (Inside path i) (inside_at path i) o s)
        ∙ but_last (of o (f p)) (of o I) (of o N) (later_free above path i rest o s) ∙ sym (of_owner_append o (f p) I))
        in
        let r = local_from above path (suc i) rest (λ o s.
        parts o (stands_more (Inside path (suc i)) (Inside path i) (inside_less path i) o s)
        ∙ only_last (of o (f p)) (of o I) (of o N) (own_free_after p i path refl o s) (inner_free_after (facts ∷ above) path i inside o s))
        in
        λ k. front p ++ (l k ++ (m k ++ r k))

pub cells_by_owner : (o : Owner) (subject : ModelNode) (xs ys : List ModelEntry) → of_model_owner o xs ≡ of_model_owner o ys → cells model xs o subject ≡ cells model ys o subject
unfolding cells
cells_by_owner o subject xs ys e = ap (cells_from (Cell o) subject) e

-- the lists that an element begins, where its owners have the same entries
pub lists_alike : (base : Chars) (at : Standing Bnode Owner) (xs ys : List ModelEntry) → ((o : Owner) → StandsIn (Under at.path) o → of_model_owner o xs ≡ of_model_owner o ys)
    → lists_below model base xs at ++ lists_of model base xs at ≡ lists_below model base ys at ++ lists_of model base ys at
lists_alike base at xs ys e =
    ap₂ ◌++◌ (cells_by_owner (Below at.path) (below model base at).object xs ys (e (Below at.path) itself)) (cells_by_owner (Of at.path) (resources model base at).subject xs ys (e (Of at.path) itself))

pub ends_alike : (base : Chars) (p : TreePlace) (xs ys : List ModelEntry) → ((o : Owner) → StandsIn (Under p.path) o → of_model_owner o xs ≡ of_model_owner o ys) → end_and_lists model base xs p ≡ end_and_lists model base ys p
ends_alike base p xs ys e = ap (λ z. end' model base p ++ z) (lists_alike base (standing model base p) xs ys e)

pub lists_are_local : ListsAreLocal
unfolding within
lists_are_local base tree =
    let all : List ModelEntry = entries model base tree in
    ap (λ x. x ++ page_lists model base all)
    (local_from (entries_of model base) (entries_under base) (start model base) (end_and_lists model base) (ends_alike base) all [] [] 0 tree (λ o s. refl))
