-- What an evaluator shows, by the rules, and what it gives at the end.
use Rattle.std.specs.Prelude.{◌≡◌, ℕ, List, map}
use Rattle.rx_rdfa.specs.Common.{Chars, Triple, rename_node, node_seen, Nodes, Facts, Call, calls}
use Rattle.rx_eval.specs.declared.inherited.Inherited.{Inherited}
use Rattle.rx_eval.specs.States.{State}
use Rattle.rx_eval.specs.Waits.{waits, wait_by}
use Rattle.rx_eval.specs.Numbering.{Numbering, Number, numbered_name}
use Rattle.rx_eval.specs.Standing.{EvaluatorStands, Makes, context_after}

-- what is shown is what a child of the innermost open element inherits by the rules after these calls, each blank node
-- with its number
pub record ShowsAfter (to : Numbering) (base : Chars) (list : List Call) (shown : Inherited) : Type 0 where
  pub subject : rename_node Number (node_seen shown.subject.now) ≡ rename_node (numbered_name to) (context_after base list).subject
  pub object : rename_node Number (node_seen shown.object.now) ≡ rename_node (numbered_name to) (context_after base list).object
  pub hanging : waits shown ≡ map wait_by (context_after base list).hanging

-- of every tree for whose calls the state stands the triples are the list
abbrev pub MakesTriples : State → List (Triple ℕ) → Type 0
MakesTriples state triples = (to : Numbering) (tree : Nodes Facts) → EvaluatorStands to (calls tree) state → Makes to state.base tree triples
