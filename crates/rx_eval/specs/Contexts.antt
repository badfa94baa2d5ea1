-- What an element hands on, as the rules see it.
use Rattle.std.specs.Prelude.{ℕ, map}
use Rattle.rx_rdfa.specs.Common.{node_seen, Inherited}
use Rattle.rx_rdfa.specs.Resources as rules
use Rattle.rx_eval.specs.declared.contexts.IncompleteTriple.{IncompleteTriple}
use Rattle.rx_eval.specs.declared.contexts.IncompleteTriple.TheVariants.{Forward, Reverse, InList}
use Rattle.rx_eval.specs.declared.contexts.EvaluationContext.{EvaluationContext}

-- a triple that waits for a subject further down
abbrev pub waiting_seen : IncompleteTriple → rules.Hanging ℕ
waiting_seen (Forward predicate) = rules.Forward predicate
waiting_seen (Reverse predicate) = rules.Reverse predicate
waiting_seen (InList owner predicate) = rules.InList owner.0 predicate

-- the evaluation context: parent subject, parent object, the triples that wait, and the owner of lists
abbrev pub context_seen : EvaluationContext → Inherited ℕ ℕ
context_seen context = record {
  subject = node_seen context.subject;
  object = node_seen context.object;
  hanging = map waiting_seen context.hanging;
  owner = context.owner.0;
}
