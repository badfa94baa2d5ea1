-- The triples that wait, as they are shown: all but the owners of lists.
use Rattle.std.specs.Prelude.{◌≡◌, ℕ, List, map}
use Rattle.rx_model.specs.Common.{Chars, node_seen}
use Rattle.rx_rdfa.specs.Resources as rules
use Rattle.rx_eval.specs.declared.contexts.IncompleteTriple.{IncompleteTriple}
use Rattle.rx_eval.specs.declared.contexts.IncompleteTriple.TheVariants as code
use Rattle.rx_eval.specs.declared.inherited.Direction.{Direction}
use Rattle.rx_eval.specs.declared.inherited.Direction.TheVariants.{Forward, Reverse, InList}
use Rattle.rx_eval.specs.declared.inherited.Hanging.{Hanging}
use Rattle.rx_eval.specs.declared.inherited.Inherited.{Inherited}

-- a predicate with how it waits
abbrev pub Wait : Type 0
Wait = Chars × Direction

abbrev pub wait_seen : IncompleteTriple → Wait
wait_seen (code.Forward predicate) = (predicate, Forward)
wait_seen (code.Reverse predicate) = (predicate, Reverse)
wait_seen (code.InList owner predicate) = (predicate, InList)

abbrev pub waits : Inherited → List Wait
waits inherited = map wait_seen inherited.waiting.now

abbrev pub hanging_seen : Hanging → Wait
hanging_seen hanging = (hanging.predicate.now, hanging.direction)

abbrev pub wait_by : {O : Type 0} → rules.Hanging O → Wait
wait_by (rules.Forward predicate) = (predicate, Forward)
wait_by (rules.Reverse predicate) = (predicate, Reverse)
wait_by (rules.InList owner predicate) = (predicate, InList)

-- what is shown is this context, but for the owners of lists
pub record ShowsContext (shown : Inherited) (context : rules.Inherited ℕ ℕ) : Type 0 where
  pub subject : node_seen shown.subject.now ≡ context.subject
  pub object : node_seen shown.object.now ≡ context.object
  pub hanging : waits shown ≡ map wait_by context.hanging
