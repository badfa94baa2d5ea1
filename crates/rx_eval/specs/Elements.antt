-- The start of an element, part by part.
use Rattle.std.specs.Prelude.{ℕ, List, [], Option, Some, None, unwrap_or, if◌then◌else◌}
use Rattle.rx_terms.specs.declared.triples.Node.{Node as CodeNode}
use Rattle.rx_rdfa.specs.Common.{Node, Facts, Hanging, Inherited, Resources, hangs}
use Rattle.rx_lists.specs.Owners.{Owners}
use Rattle.rx_lists.specs.declared.lists.Owner.{Owner}
use Rattle.rx_eval.specs.Handing.{begun_number, owner_added}
use Rattle.rx_eval.specs.Frames.{hanging_by}

abbrev pub owner_in : Option Owner → Owner → Owner
owner_in None other = other
owner_in (Some owner) other = owner

abbrev pub begun_below : Option CodeNode → CodeNode → Owners → Owners
begun_below None subject owners = owners
begun_below (Some object) subject owners = owner_added object subject owners

abbrev pub begun_below_number : Option CodeNode → CodeNode → ℕ → Option Owner
begun_below_number None subject number = None
begun_below_number (Some object) subject number = begun_number object subject number

-- what waits for the children of an element that isn't skipped
abbrev pub hanging_below : Facts → Resources ℕ → ℕ → List (Hanging ℕ)
hanging_below facts here own = if hangs facts here then hanging_by facts own else []

-- what an element that isn't skipped hands on
abbrev pub handed_by : Facts → Resources ℕ → Option (Node ℕ) → ℕ → ℕ → Inherited ℕ ℕ
handed_by facts here object own below = record {
  subject = here.subject;
  object = unwrap_or object here.subject;
  hanging = hanging_below facts here own;
  owner = below;
}
