-- What the children of an element inherit: RDFa Core 1.1, 7.5, steps 8, 10 and 13.
use Rattle.std.specs.Prelude.{Bool, true, false, ◌&&◌, ◌||◌, List, [], ◌∷◌, ◌++◌, map, Option, Some, None, is_none, unwrap_or, if◌then◌else◌}
use Rattle.rx_model.specs.Common.{option_or, Chars, Node, Iri, same_node}
use Rattle.std.specs.Bool.{then_some}
use Rattle.rx_rdfa.specs.Naming.{Path, Naming}
use Rattle.rx_rdfa.specs.Facts.{Facts}
use Rattle.rx_rdfa.specs.Resources.{Hanging, Forward, Reverse, InList, Inherited, Resources, Standing, resources, new_blank}

-- what an attribute lists, nothing where it is absent
abbrev pub listed : {A : Type 0} → Option (List A) → List A
listed None = []
listed (Some list) = list

abbrev pub holds_some : {A : Type 0} → List A → Bool
holds_some [] = false
holds_some (x ∷ list) = true

-- step 10: without an object the predicates of rel and rev hang, and a new blank node is the object
abbrev pub hangs : {B : Type 0} → Facts → Resources B → Bool
hangs facts here = is_none here.object && (holds_some (listed facts.rel) || holds_some (listed facts.rev))

module _ {B O : Type 0} (naming : Naming B O) (at : Standing B O) (here : Resources B) where
  abbrev pub object_below : Option (Node B)
  object_below = option_or here.object (then_some (hangs at.facts here) (new_blank naming at))

  -- step 8: the owner of the element's own lists, a new one where the subject changes
  abbrev pub own_owner : O
  own_owner = if same_node naming.same here.subject at.around.object then at.around.owner else naming.of at.path

  -- step 10
  abbrev pub hanging_of : O → List (Hanging O)
  hanging_of owner = map (if at.facts.inlist then InList owner else Forward) (listed at.facts.rel) ++ map Reverse (listed at.facts.rev)

  -- Own rule: below an object that isn't the subject the lists are its own.
  abbrev pub owner_below : Option (Node B) → O → O
  owner_below None owner = owner
  owner_below (Some object) owner = if same_node naming.same object here.subject then owner else naming.below at.path

  -- step 13
  abbrev pub handed : Inherited B O
  handed =
      if here.skipped then at.around
      else record {
        subject = here.subject;
        object = unwrap_or object_below here.subject;
        hanging = (if hangs at.facts here then hanging_of own_owner else []);
        owner = owner_below object_below own_owner;
      }

-- what the children of an element inherit
unfoldable pub below : {B O : Type 0} → Naming B O → Chars → Standing B O → Inherited B O
below naming base at = handed naming at (resources naming base at)

-- 7.5, before the root: subject and object are the base
abbrev pub at_page : {B O : Type 0} → Naming B O → Chars → Inherited B O
at_page naming base = record { subject = Iri base; object = Iri base; hanging = []; owner = naming.first }

-- the place of the parent
abbrev pub up : Path → Path
up [] = []
up (i ∷ path) = path

-- what the children of the line's first element inherit, which stands at the path; the others are those around it
abbrev pub inherited : {B O : Type 0} → Naming B O → Chars → List Facts → Path → Inherited B O
inherited naming base [] path = at_page naming base
inherited naming base (facts ∷ above) path =
    below naming base (record { facts = facts; path = path; around = inherited naming base above (up path) })
