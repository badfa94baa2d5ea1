-- Where an element stands, and how its blank nodes are named.
use Rattle.std.specs.Prelude.{ℕ, zero, suc, [], ◌∷◌, Option}
use Rattle.rx_rdfa.specs.Common.{Chars, Node, Path, Naming, Facts, Ref, Standing, Inherited, Resources, resource_named, object_below}
use Rattle.rx_eval.specs.Contexts.{context_seen}
use Rattle.rx_eval.specs.Labels.{Numbered}
use Rattle.rx_eval.specs.Moment.{moment, labelled}
use Rattle.rx_eval.specs.declared.places.Level.{Level}
use Rattle.rx_eval.specs.declared.places.Level.TheVariants.{Root, RootChild, Deeper}
use Rattle.rx_eval.specs.declared.places.Surroundings.{Surroundings}

-- the level of an element inside so many others
abbrev pub level_at : ℕ → Level
level_at zero = Root
level_at (suc zero) = RootChild
level_at (suc (suc n)) = Deeper

-- a path of that level: the rules ask no more of a path than this
abbrev pub path_at : Level → Path
path_at Root = 0 ∷ []
path_at RootChild = 0 ∷ 0 ∷ []
path_at Deeper = []

-- an element at a level, with what it inherits
abbrev pub standing_by : Level → Inherited ℕ ℕ → Facts → Standing ℕ ℕ
standing_by level around facts = record { facts = facts; path = path_at level; around = around }

abbrev pub standing_at : Surroundings → Facts → Standing ℕ ℕ
standing_at at facts = standing_by at.level (context_seen at.around.now) facts

abbrev pub naming : Surroundings → Naming ℕ ℕ
naming at = moment at.labels.now at.fresh 0 0

-- what the rules say of an element with these facts at a place
abbrev pub ruled : {A : Type 0} → (Naming ℕ ℕ → Chars → Standing ℕ ℕ → A) → Surroundings → Facts → A
ruled rule at facts = rule (naming at) at.base.now (standing_at at facts)

-- the object that the children of an element at a place inherit, where it isn't the subject
abbrev pub object_under : Surroundings → Facts → Resources ℕ → Option (Node ℕ)
object_under at facts here = object_below (naming at) (standing_at at facts) here

-- the node that a reading names
abbrev pub named_node : Numbered → Chars → Ref → Node ℕ
named_node labels base = resource_named (labelled labels) base
