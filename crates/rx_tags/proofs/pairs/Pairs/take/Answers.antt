use Rattle.rx_grammar.proofs.Common.{◌∙◌, sym, ap, refl, Ok, ◌++◌, meaning}
use Rattle.rx_tags.specs.Pairs.{after_first}
use Rattle.rx_tags.proofs.PairLemmas.{applied, step_law, goes_pending, run_is, pushed_value, closes_none, closes_some}
use Rattle.rx_tags.proofs.pairs.Pairs.take.Goals as goal

pub invariant_of-self-in-Goes : goal.invariant_of-self-in-Goes
invariant_of-self-in-Goes c =
    rw (c.in_ok-push_run-in-Goes.ensures.ok)
    (goes_pending c.args.syntax c.self.inside.run c.in-Goes.next c.self.inside.attributes.pending c.args.c c.self.invariant (sym c.value_move.ensures ∙ c.in-Goes.is)).0

pub returns-in_ok-push-in-Is-clause-gives : goal.returns-in_ok-push-in-Is-clause-gives
returns-in_ok-push-in-Is-clause-gives c =
    rw (← c.self.view_is, c.in_ok-push-in-Is.ensures.ok) (
      step_law c.args.syntax (meaning c.args.syntax) c.self.inside.run c.self.inside.attributes.known c.self.inside.attributes.pending c.args.c c.self.invariant
          ∙ ap (applied (meaning c.args.syntax) _ (c.self.inside.attributes.known ++ c.self.inside.attributes.pending) c.args.c) (sym c.value_move.ensures ∙ c.in-Is.is)
          ∙ ap Ok (pushed_value c.self.inside.attributes.known c.self.inside.attributes.pending c.in-Is.given),
      refl,
      refl,
    )

pub returns-in_default-clause-gives : goal.returns-in_default-clause-gives
returns-in_default-clause-gives c =
    let e = sym c.value_move.ensures ∙ c.in-Closes.is in
    let body = c.body_of-body.ensures (after_first c.self.inside.attributes.pending) (c.run.ensures ∙ run_is c.args.syntax c.self.inside.run c.self.inside.attributes.pending c.args.c c.self.invariant e) in
    rw (← c.self.view_is, c.no_meaning.ensures)
    (closes_none c.args.syntax (meaning c.args.syntax) c.self.inside.run c.self.inside.attributes.known c.self.inside.attributes.pending _ c.args.c c.self.invariant e body (sym c.meaning.ensures ∙ c.in_default.is))

pub returns-in_ok-replace_run-in-Closes-clause-gives : goal.returns-in_ok-replace_run-in-Closes-clause-gives
returns-in_ok-replace_run-in-Closes-clause-gives c =
    let e = sym c.value_move.ensures ∙ c.in-Closes.is in
    let body = c.body_of-body.ensures (after_first c.self.inside.attributes.pending) (c.run.ensures ∙ run_is c.args.syntax c.self.inside.run c.self.inside.attributes.pending c.args.c c.self.invariant e) in
    rw (← c.self.view_is, c.in_ok-replace_run-in-Closes.ensures.ok)
    (closes_some c.args.syntax (meaning c.args.syntax) c.self.inside.run c.self.inside.attributes.known c.self.inside.attributes.pending _ c.args.c c.in-Some.given c.self.invariant e body (sym c.meaning.ensures ∙ c.in-Some.is), refl, refl)
