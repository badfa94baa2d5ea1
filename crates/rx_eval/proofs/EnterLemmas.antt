-- The start of an element: what its parts come to is what the rules say.
use Rattle.rx_eval.specs.declared.frames.Gathered.{Gathered}
use Rattle.rx_eval.specs.Places.{object_under}
use Rattle.rx_eval.specs.Entering.{handed_found, owners_found, own_found, below_found, naming_found}
use Rattle.rx_eval.specs.declared.places.Surroundings.{Surroundings}
use Rattle.rx_eval.specs.declared.resources.ElementResources.{ElementResources}
use Rattle.rx_eval.proofs.Common.{◌≡◌, ◌∙◌, ℕ, suc, Bool, true, false, List, [], ◌∷◌, ◌++◌, map, filter_map, length, Option, Some, None, option_map, nat_eq, refl, sym, ap, ap₂, arith, append_assoc, length-append, Result, Ok, Err, OnOk, ◌&&◌, is_some, if◌then◌else◌, is_none, map-append, Chars, by_test, Node, Term, same_node, node_seen, term_seen, Naming, Facts, entry, entries_by, linked, awaited, Owners, owned, Numbered, moment, resource_term, Owning, owning_seen, owners_seen, Entries, linked_entries, awaited_entry, entries_in, next_number, naming_by, own_number, begun_seen, begun_for, owner_begun, owner_for, owner_seen, found_seen, standing_at, SlotId, IfSome, both, touched, places_for, own_places, text_seen, Gathers, places_by, put_entries}
use Rattle.rx_terms.specs.declared.triples.Node.{Node as CodeNode}
use Rattle.rx_terms.specs.declared.triples.Term.{Term as CodeTerm}
use Rattle.rx_rdfa.specs.Resources.{Hanging, Forward, Reverse, InList, Standing, Resources, resources, only}
use Rattle.rx_rdfa.specs.Inherited.{listed, hangs, own_owner, owner_below, handed, below}
use Rattle.rx_lists.specs.declared.lists.Owner.{Owner}
use Rattle.rx_eval.specs.Handing.{begun_number, owner_added}
use Rattle.rx_eval.specs.Elements.{handed_by, owner_in, begun_below, begun_below_number}

-- ---- the owners

number_is : (s o : CodeNode) (n : ℕ) (other : Owner) → (owner_in (begun_number s o n) other).0 ≡ (if same_node nat_eq (node_seen s) (node_seen o) then other.0 else n)
number_is s o n other = by_test (same_node nat_eq (node_seen s) (node_seen o)) (λ t. rw t refl) (λ f. rw f refl)

more_owners : (s o : CodeNode) (owners : Owners) → length (owner_added s o owners) ≡ (if same_node nat_eq (node_seen s) (node_seen o) then length owners else suc (length owners))
more_owners s o owners =
    by_test (same_node nat_eq (node_seen s) (node_seen o)) (λ t. rw t refl) (λ f. rw f (let l = length-append owners (Some (owned s []) ∷ []) in omega (arith, l)))

begun_is : (s o : CodeNode) (owners : Owners) → owners_seen (owner_added s o owners) ≡ begun_seen (node_seen s) (node_seen o) (owners_seen owners)
begun_is s o owners =
    by_test (same_node nat_eq (node_seen s) (node_seen o)) (λ t. rw t refl) (λ f. rw f (map-append (option_map owning_seen) owners (Some (owned s []) ∷ [])))

below_is : (object : Option CodeNode) (s : CodeNode) (owners : Owners) → owners_seen (begun_below object s owners) ≡ begun_for (option_map node_seen object) (node_seen s) (owners_seen owners)
below_is None s owners = refl
below_is (Some object) s owners = begun_is object s owners

seen_begun : (s o : CodeNode) (n : ℕ) → option_map owner_seen (begun_number s o n) ≡ owner_begun (node_seen s) (node_seen o) n
seen_begun s o n = by_test (same_node nat_eq (node_seen s) (node_seen o)) (λ t. rw t refl) (λ f. rw f refl)

seen_below : (object : Option CodeNode) (s : CodeNode) (n : ℕ) → option_map owner_seen (begun_below_number object s n) ≡ owner_for (option_map node_seen object) (node_seen s) n
seen_below None s n = refl
seen_below (Some object) s n = seen_begun object s n

-- an element at a place, of which the code has the object for its children, and the owners that it begins
pub record Begins (place : Surroundings) (facts : Facts) (found : ElementResources) (object : Option CodeNode) (own below : Option Owner) (old mid : Owners) : Type 0 where
  pub its_object : option_map node_seen object ≡ object_under place facts (found_seen found)
  pub its_own : own ≡ begun_number found.subject place.around.now.object (length old)
  pub its_lists : mid ≡ owner_added found.subject place.around.now.object old
  pub its_below : below ≡ begun_below_number object found.subject (length mid)

module _ (place : Surroundings) (facts : Facts) (found : ElementResources) (object : Option CodeNode) (own below : Option Owner) (old mid : Owners) (b : Begins place facts found object own below old mid) where
  abbrev stands : Standing ℕ ℕ
  stands = standing_at place facts

  abbrev ours : Resources ℕ
  ours = found_seen found

  abbrev outer : Owner
  outer = place.around.now.owner

  pub owners_are : (new : Owners) → new ≡ begun_below object found.subject mid → owners_seen new ≡ owners_found place facts ours old
  owners_are new n =
      ap owners_seen n ∙ below_is object found.subject mid
      ∙ ap₂ (λ (x : Option (Node ℕ)) (l : List (Option Owning)). begun_for x ours.subject l) b.its_object (ap owners_seen b.its_lists ∙ begun_is found.subject place.around.now.object old)

  pub own_is : (owner_in own outer).0 ≡ own_number stands ours (length old)
  own_is = ap (λ (x : Option Owner). (owner_in x outer).0) b.its_own ∙ number_is found.subject place.around.now.object (length old) outer

  next_is : length mid ≡ next_number stands ours (length old)
  next_is = ap length b.its_lists ∙ more_owners found.subject place.around.now.object old

  -- the owners that the element begins
  pub own_seen : option_map owner_seen own ≡ own_found place facts ours old
  own_seen = ap (option_map owner_seen) b.its_own ∙ seen_begun found.subject place.around.now.object (length old)

  pub below_seen : option_map owner_seen below ≡ below_found place facts ours old
  below_seen =
      ap (option_map owner_seen) b.its_below ∙ seen_below object found.subject (length mid)
      ∙ ap₂ (λ (x : Option (Node ℕ)) (n : ℕ). owner_for x ours.subject n) b.its_object next_is

  -- ---- the context

  abbrev last_number : Option (Node ℕ) → ℕ
  last_number x = owner_below (naming_found place facts ours old) stands ours x (own_number stands ours (length old))

  last_owner : (x : Option CodeNode) → (owner_in (begun_below_number x found.subject (length mid)) (owner_in own outer)).0 ≡ last_number (option_map node_seen x)
  last_owner None = own_is
  last_owner (Some x) =
      number_is x found.subject (length mid) (owner_in own outer) ∙ ap₂ (λ (u v : ℕ). if same_node nat_eq (node_seen x) ours.subject then u else v) own_is next_is

  pub handed_is : ours.skipped ≡ false → handed_by facts ours (option_map node_seen object) (owner_in own outer).0 (owner_in below (owner_in own outer)).0 ≡ handed_found place facts ours old
  handed_is k =
      let last = ap (λ (x : Option Owner). (owner_in x (owner_in own outer)).0) b.its_below ∙ last_owner object ∙ ap last_number b.its_object in
      rw k (λ i. handed_by facts ours (b.its_object i) (own_is i) (last i))

-- an element with its labels' numbers, the number of a new node, and the base
module _ (labels : Numbered) (fresh : ℕ) (base : Chars) (at : Standing ℕ ℕ) where
  pub below_as : (here : Resources ℕ) (n : ℕ) → below (naming_by labels fresh at here n) base at ≡ handed (naming_by labels fresh at here n) at (resources (moment labels fresh 0 0) base at)
  unfolding below resources
  below_as here n = refl

-- ---- the lists

module _ (N : Naming ℕ ℕ) (S : Standing ℕ ℕ) (H : Resources ℕ) (v : Option (Term ℕ)) where
  pub linked_is : (o : Option (Node ℕ)) → linked_entries (own_owner N S H) S.facts.rel o ≡ linked N Some v S H o
  linked_is None = refl
  linked_is (Some o) = refl

  awaited_is : (hs : List (Hanging ℕ)) → filter_map (awaited_entry H.subject) hs ≡ filter_map (awaited N Some v S H) hs
  awaited_is [] = refl
  awaited_is (Forward p ∷ hs) = awaited_is hs
  awaited_is (Reverse p ∷ hs) = awaited_is hs
  awaited_is (InList o p ∷ hs) = ap (λ (l : Entries). entry o (Some (Some (resource_term H.subject))) p ∷ l) (awaited_is hs)

  pub entries_are : H.skipped ≡ false → entries_in (own_owner N S H) S.facts H v S.around.hanging ≡ entries_by N Some v S H
  entries_are k =
      rw k (ap₂ (λ (a b : Entries). (if S.facts.inlist then a else []) ++ b)
      (ap (λ (l : Entries). l ++ (T ++ V)) (linked_is H.object) ∙ sym (append_assoc (linked N Some v S H H.object) T V)) (awaited_is S.around.hanging))
    where
      T : Entries
      T = if hangs S.facts H then map (entry (own_owner N S H) None) (listed S.facts.rel) else []

      V : Entries
      V = map (entry (own_owner N S H) (Some v)) (listed S.facts.property)

-- without property a value is no entry
no_value : (owner : ℕ) (facts : Facts) (here : Resources ℕ) (hanging : List (Hanging ℕ)) (p : Option (List Chars)) → facts.property ≡ p → (v : Option (Term ℕ))
    → entries_in owner facts here (only (is_some p) v) hanging ≡ entries_in owner facts here v hanging
no_value owner facts here hanging (Some ps) e v = refl
no_value owner facts here hanging None e v = rw e refl

-- what the code puts, of the value that it has
pub entries_entered : (M : Naming ℕ ℕ) (at : Standing ℕ ℕ) (here : Resources ℕ) (value v : Option (Term ℕ)) → here.skipped ≡ false → value ≡ only (is_some at.facts.property) v
    → entries_in (own_owner M at here) at.facts here value at.around.hanging ≡ entries_by M Some v at here
entries_entered M at here value v k e =
    ap (λ (x : Option (Term ℕ)). entries_in (own_owner M at here) at.facts here x at.around.hanging) e
    ∙ no_value (own_owner M at here) at.facts here at.around.hanging at.facts.property refl v ∙ entries_are M at here v k

-- whether it gathers its text
pub gathers_entered : (b : Bool) (value : Option CodeTerm) (v : Option (Term ℕ)) → option_map term_seen value ≡ only b v → (b && is_none value) ≡ (b && is_none v)
gathers_entered false value v e = refl
gathers_entered true None None e = refl
gathers_entered true (Some x) (Some v) e = refl
gathers_entered _ _ _ e = absurd (cc)

-- ---- the places of its text

places_are : (M : Naming ℕ ℕ) (at : Standing ℕ ℕ) (here : Resources ℕ) (owners : List (Option Owning))
    → own_places (own_owner M at here) at.facts here owners
    ≡ places_for (own_owner M at here) (listed at.facts.property) (put_entries (linked M Some None at here here.object ++ touched M Some None at here) owners)
places_are M at here owners =
    ap (λ (l : Entries). places_for (own_owner M at here) (listed at.facts.property) (put_entries (l ++ touched M Some None at here) owners)) (linked_is M at here None here.object)

if_same : (listed waits : Bool) (slots more whole : List SlotId) → waits ≡ true → slots ≡ (if listed then (if waits then more else []) else []) → more ≡ whole
    → (if listed then slots else []) ≡ (if listed then whole else [])
if_same true waits slots more whole w s m = s ∙ ap (λ (b : Bool). if b then more else []) w ∙ m
if_same false waits slots more whole w s m = refl

-- the places that the code reserved are those of the element, where it gathers its text
pub gathers_places : (M : Naming ℕ ℕ) (at : Standing ℕ ℕ) (here : Resources ℕ) (owner mark : ℕ) (has waits : Bool) (slots : List SlotId) (old owners : List (Option Owning)) (g : Option Gathered)
    → owner ≡ own_owner M at here → old ≡ owners → is_some g ≡ (has && waits)
    → slots ≡ (if at.facts.inlist then (if waits then own_places owner at.facts here old else []) else [])
    → IfSome g (λ x. Gathers at.facts here (if at.facts.inlist then slots else []) mark (text_seen x))
    → IfSome g (λ x. Gathers at.facts here (places_by M at here owners) mark (text_seen x))
gathers_places M at here owner mark has waits slots old owners None o u s e h = tt
gathers_places M at here owner mark has waits slots old owners (Some x) o u s e h =
    let own : own_places owner at.facts here old ≡ places_for (own_owner M at here) (listed at.facts.property) (put_entries (linked M Some None at here here.object ++ touched M Some None at here) owners) =
    ap (λ (n : ℕ). own_places n at.facts here old) o ∙ ap (own_places (own_owner M at here) at.facts here) u ∙ places_are M at here owners in
    let same = if_same at.facts.inlist waits slots _ _ (both has waits (sym s)).1 e own in
    record { subject = h.subject; rule = h.rule; said = h.said; slots = h.slots ∙ same; begins = h.begins }

pub on_always : {A E Q : Type 0} (r : Result A E) → Q → OnOk r Q
on_always (Ok a) q = q
on_always (Err e) q = tt
