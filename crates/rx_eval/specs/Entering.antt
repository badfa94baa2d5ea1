-- The start of an element, by the rules.
use Rattle.std.specs.Prelude.{◌≡◌, ℕ, suc, Bool, not, ◌&&◌, List, [], ◌∷◌, ◌++◌, length, map, Option, Some, None, option_map, IfSome, nat_eq, if◌then◌else◌}
use Rattle.rx_rdfa.specs.Common.{Chars, Node, Term, Triple, same_node, node_seen, term_seen, Naming, Facts, Inherited, Standing, Resources, resources, listed, below, handed, object_below, own_owner, start_of, rule, value_now, gathers, entries_by, linked, touched}
use Rattle.rx_terms.specs.declared.triples.Term.{Term as CodeTerm}
use Rattle.rx_lists.specs.declared.lists.SlotId.{SlotId}
use Rattle.rx_lists.specs.Owners.{Owners}
use Rattle.rx_eval.specs.Contexts.{context_seen, waiting_seen}
use Rattle.rx_eval.specs.Labels.{Numbered}
use Rattle.rx_eval.specs.Moment.{moment}
use Rattle.rx_eval.specs.Places.{standing_by, standing_at, naming}
use Rattle.rx_eval.specs.TextRules.{IsTextRule}
use Rattle.rx_eval.specs.declared.places.Level.{Level}
use Rattle.rx_eval.specs.declared.places.Surroundings.{Surroundings}
use Rattle.rx_eval.specs.OwnersSeen.{Owning, owning, owners_seen, put_entries, places_for}
use Rattle.rx_eval.specs.Listing.{Entries, entries_in, listed_places}
use Rattle.rx_eval.specs.States.{Text, text_seen}
use Rattle.rx_eval.specs.declared.frames.Gathered.{Gathered}

-- the number after the owner of an element's own lists, the next one being n
abbrev pub next_number : Standing ℕ ℕ → Resources ℕ → ℕ → ℕ
next_number at here n = if same_node nat_eq here.subject at.around.object then n else suc n

-- the owner of its own lists
abbrev pub own_number : Standing ℕ ℕ → Resources ℕ → ℕ → ℕ
own_number at here n = if same_node nat_eq here.subject at.around.object then at.around.owner else n

-- the element's owners have the next numbers
abbrev pub naming_by : Numbered → ℕ → Standing ℕ ℕ → Resources ℕ → ℕ → Naming ℕ ℕ
naming_by labels fresh at here n = moment labels fresh n (next_number at here n)

-- a new owner, where the subject isn't the other node
abbrev pub begun_seen : Node ℕ → Node ℕ → List (Option Owning) → List (Option Owning)
begun_seen subject other owners = if same_node nat_eq subject other then owners else owners ++ Some (owning subject []) ∷ []

abbrev pub begun_for : Option (Node ℕ) → Node ℕ → List (Option Owning) → List (Option Owning)
begun_for None subject owners = owners
begun_for (Some object) subject owners = begun_seen object subject owners

-- the owners that the element begins: with its subject, and for its children with its object
abbrev pub owners_begun : Naming ℕ ℕ → Standing ℕ ℕ → Resources ℕ → List (Option Owning) → List (Option Owning)
owners_begun naming at here owners = begun_for (object_below naming at here) here.subject (begun_seen here.subject at.around.object owners)

-- the number of that new owner, the next one being n
abbrev pub owner_begun : Node ℕ → Node ℕ → ℕ → Option ℕ
owner_begun subject other n = if same_node nat_eq subject other then None else Some n

abbrev pub owner_for : Option (Node ℕ) → Node ℕ → ℕ → Option ℕ
owner_for None subject n = None
owner_for (Some object) subject n = owner_begun object subject n

-- the places that an element with inlist reserves for its text, one in the list of each predicate of property; the object
-- and the lists that hang come first
abbrev pub places_by : Naming ℕ ℕ → Standing ℕ ℕ → Resources ℕ → List (Option Owning) → List SlotId
places_by naming at here owners =
    if at.facts.inlist
    then places_for (own_owner naming at here) (listed at.facts.property)
    (put_entries (linked naming Some None at here here.object ++ touched naming Some None at here) owners)
    else []

-- what is known of an element that gathers its text: the subject of its value, how the text is the value, where the value
-- goes, and where the text begins, in bytes
pub record Gathers (facts : Facts) (here : Resources ℕ) (places : List SlotId) (mark : ℕ) (text : Text) : Type 0 where
  pub subject : text.subject ≡ here.subject
  pub rule : IsTextRule facts text.by
  pub said : text.said ≡ (if facts.inlist then None else Some (listed facts.property))
  pub slots : text.slots ≡ places
  pub begins : text.mark ≡ mark

-- an element at a level with the labels' numbers, the number of a new node, the base, and what it inherits
module _ (labels : Numbered) (fresh : ℕ) (base : Chars) (level : Level) (around : Inherited ℕ ℕ) (facts : Facts) where
  abbrev pub resources_by : Resources ℕ
  resources_by = resources (moment labels fresh 0 0) base (standing_by level around facts)

  abbrev pub start_at : List (Triple ℕ)
  start_at = start_of (moment labels fresh 0 0) base (standing_by level around facts)

  -- its owners having the numbers from n on
  abbrev pub naming_from : ℕ → Naming ℕ ℕ
  naming_from n = naming_by labels fresh (standing_by level around facts) resources_by n

  abbrev pub below_at : ℕ → Inherited ℕ ℕ
  below_at n = below (naming_from n) base (standing_by level around facts)

  abbrev pub gathers_at : Bool
  gathers_at = not resources_by.skipped && gathers (moment labels fresh 0 0) base facts resources_by

  -- the owners that it begins with its subject, and for its children with its object
  abbrev pub own_at : ℕ → Option ℕ
  own_at n = if resources_by.skipped then None else owner_begun resources_by.subject around.object n

  abbrev pub below_own_at : ℕ → Option ℕ
  below_own_at n =
      if resources_by.skipped then None
      else owner_for (object_below (moment labels fresh 0 0) (standing_by level around facts) resources_by) resources_by.subject
      (next_number (standing_by level around facts) resources_by n)

  abbrev pub places_at : List (Option Owning) → List SlotId
  places_at owners =
      places_by (naming_from (length owners)) (standing_by level around facts) resources_by
      (owners_begun (moment labels fresh 0 0) (standing_by level around facts) resources_by owners)

  abbrev pub lists_at : List (Option Owning) → List (Option Owning)
  lists_at owners =
      if resources_by.skipped then owners
      else put_entries
      (entries_by (naming_from (length owners)) Some (value_now (rule (moment labels fresh 0 0) base facts resources_by) facts)
      (standing_by level around facts) resources_by)
      (owners_begun (moment labels fresh 0 0) (standing_by level around facts) resources_by owners)

-- what holds of an element at a place
abbrev pub at_element : {A : Type 0} → (Numbered → ℕ → Chars → Level → Inherited ℕ ℕ → Facts → A) → Surroundings → Facts → A
at_element f at facts = f at.labels.now at.fresh at.base.now at.level (context_seen at.around.now) facts

-- what is known of an element's text, where it gathers that
abbrev pub GathersAt : Surroundings → Facts → Owners → ℕ → Option Gathered → Type 0
GathersAt at facts owners mark gathered =
    IfSome gathered (λ g. Gathers facts (at_element resources_by at facts) (at_element places_at at facts (owners_seen owners)) mark (text_seen g))

-- the same where the places are those that it has with inlist
abbrev pub GathersListed : Facts → Resources ℕ → List SlotId → ℕ → Option Gathered → Type 0
GathersListed facts here slots mark gathered = IfSome gathered (λ g. Gathers facts here (listed_places facts slots) mark (text_seen g))

-- the same of an element at a place that isn't skipped, with the resources that were found and the owners so far
module _ (at : Surroundings) (facts : Facts) (here : Resources ℕ) (owners : Owners) where
  abbrev pub naming_found : Naming ℕ ℕ
  naming_found = naming_by at.labels.now at.fresh (standing_at at facts) here (length owners)

  abbrev pub handed_found : Inherited ℕ ℕ
  handed_found = handed naming_found (standing_at at facts) here

  abbrev pub owners_found : List (Option Owning)
  owners_found = owners_begun (naming at) (standing_at at facts) here (owners_seen owners)

  abbrev pub entries_found : Option (Term ℕ) → Entries
  entries_found value =
      entries_in (own_number (standing_at at facts) here (length owners)) facts here value (map waiting_seen at.around.now.hanging)

  -- the owners with those that it begins, and with what it puts into their lists
  abbrev pub lists_found : Option CodeTerm → List (Option Owning)
  lists_found value = put_entries (entries_found (option_map term_seen value)) owners_found

  abbrev pub GathersFound : ℕ → Option Gathered → Type 0
  GathersFound mark gathered =
      IfSome gathered (λ g. Gathers facts here (places_by naming_found (standing_at at facts) here owners_found) mark (text_seen g))

  abbrev pub own_found : Option ℕ
  own_found = owner_begun here.subject (node_seen at.around.now.object) (length owners)

  abbrev pub below_found : Option ℕ
  below_found =
      owner_for (object_below (naming at) (standing_at at facts) here) here.subject (next_number (standing_at at facts) here (length owners))
