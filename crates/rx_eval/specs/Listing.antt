-- What an element puts into lists, part by part.
use Rattle.std.specs.Prelude.{◌≡◌, ℕ, Bool, is_none, List, [], ◌++◌, map, filter_map, Option, Some, None, option_map, if◌then◌else◌}
use Rattle.rx_rdfa.specs.Common.{Chars, Node, Term, term_seen, Facts, Hanging, Forward, Reverse, InList, Resources, listed, hangs, ListEntry, entry}
use Rattle.rx_lists.specs.declared.lists.SlotId.{SlotId}
use Rattle.rx_lists.specs.Owners.{Owners}
use Rattle.rx_terms.specs.declared.triples.Term.{Term as CodeTerm}
use Rattle.rx_eval.specs.Contexts.{waiting_seen}
use Rattle.rx_eval.specs.TextRules.{resource_term}
use Rattle.rx_eval.specs.declared.contexts.IncompleteTriple.{IncompleteTriple}
use Rattle.rx_eval.specs.OwnersSeen.{Owning, owners_seen, put_entries, places_for}

abbrev pub Entries : Type 0
Entries = List (ListEntry ℕ (Option (Term ℕ)))

-- the new owners are the old ones with these entries put into their lists
abbrev pub Puts : Owners → Owners → Entries → Type 0
Puts old new entries = owners_seen new ≡ put_entries entries (owners_seen old)

abbrev pub entries_for : ℕ → Option (Option (Term ℕ)) → Option (List Chars) → Entries
entries_for owner item predicates = map (entry owner item) (listed predicates)

abbrev pub linked_entries : ℕ → Option (List Chars) → Option (Node ℕ) → Entries
linked_entries owner rel None = []
linked_entries owner rel (Some object) = entries_for owner (Some (Some (resource_term object))) rel

abbrev pub touched_entries : ℕ → Option (List Chars) → Bool → Entries
touched_entries owner rel waits = if waits then entries_for owner None rel else []

abbrev pub awaited_entry : Node ℕ → Hanging ℕ → Option (ListEntry ℕ (Option (Term ℕ)))
awaited_entry subject (Forward p) = None
awaited_entry subject (Reverse p) = None
awaited_entry subject (InList owner p) = Some (entry owner (Some (Some (resource_term subject))) p)

-- of an element with inlist
abbrev pub own_entries : ℕ → Facts → Resources ℕ → Option (Term ℕ) → Entries
own_entries owner facts here value =
    linked_entries owner facts.rel here.object
    ++ (touched_entries owner facts.rel (hangs facts here) ++ entries_for owner (Some value) facts.property)

-- of any element
abbrev pub listed_entries : ℕ → Facts → Resources ℕ → Option (Term ℕ) → Entries
listed_entries owner facts here value = if facts.inlist then own_entries owner facts here value else []

abbrev pub entries_in : ℕ → Facts → Resources ℕ → Option (Term ℕ) → List (Hanging ℕ) → Entries
entries_in owner facts here value hanging = listed_entries owner facts here value ++ filter_map (awaited_entry here.subject) hanging

-- the same from what the code has of the value and of what waits
abbrev pub entries_put : ℕ → Facts → Resources ℕ → Option CodeTerm → List IncompleteTriple → Entries
entries_put owner facts here value waiting = entries_in owner facts here (option_map term_seen value) (map waiting_seen waiting)

-- the places of an element with inlist for its text
abbrev pub own_places : ℕ → Facts → Resources ℕ → List (Option Owning) → List SlotId
own_places owner facts here owners =
    places_for owner (listed facts.property)
    (put_entries (linked_entries owner facts.rel here.object ++ touched_entries owner facts.rel (hangs facts here)) owners)

-- the places are reserved where the value is the element's text
abbrev pub places_unless : Option CodeTerm → List SlotId → List SlotId
places_unless value places = if is_none value then places else []

-- the places that an element with inlist reserves for its text
abbrev pub own_reserved : ℕ → Facts → Resources ℕ → Option CodeTerm → Owners → List SlotId
own_reserved owner facts here value owners = places_unless value (own_places owner facts here (owners_seen owners))

-- the places are reserved with inlist
abbrev pub listed_places : Facts → List SlotId → List SlotId
listed_places facts places = if facts.inlist then places else []

-- the places that an element reserves for its text
abbrev pub reserved_places : ℕ → Facts → Resources ℕ → Option CodeTerm → Owners → List SlotId
reserved_places owner facts here value owners = listed_places facts (own_reserved owner facts here value owners)
