use Rattle.rx_command.proofs.Common.{◌≡◌, ◌∙◌, ap, sym, subst, false, Ok, List, ℕ, moves_weaker}
use Rattle.rx_page.specs.Contexts.{is_context, ContextGives}
use Rattle.rx_command.proofs.InputLemmas.{was_none, was_context, takes_context}
use Rattle.rx_command.proofs.inputs.read_named_context.Goals as goal

pub returns-in-Err-Failed-clause-takes : goal.returns-in-Err-Failed-clause-takes
returns-in-Err-Failed-clause-takes g c = moves_weaker _ (λ x y t. takes_context _ _ c.as_str.ensures.bytes x y t) c.read_file.ensures.takes

pub returns-in-Err-NoMemory-clause-takes : goal.returns-in-Err-NoMemory-clause-takes
returns-in-Err-NoMemory-clause-takes g c = moves_weaker _ (λ x y t. takes_context _ _ c.as_str.ensures.bytes x y t) c.read_file.ensures.takes

pub returns-in-Ok-context_of-clause-ok : goal.returns-in-Ok-context_of-clause-ok
returns-in-Ok-context_of-clause-ok g c =
    let gives = subst (λ (b : List ℕ). ContextGives b (Ok c.in-Ok-context_of.context)) c.as_slice.ensures.value c.in-Ok-context_of.ensures in
    was_context _ _ c.args.file.now _ c.in-Ok.bytes.items c.in-Ok-context_of.context c.as_str.ensures.bytes c.in-Ok.ensures.ok
    (moves_weaker _ (λ x y t. takes_context _ _ c.as_str.ensures.bytes x y t) c.read_file.ensures.takes) gives.0 gives.1

pub returns-in-Ok-context_of-clause-takes : goal.returns-in-Ok-context_of-clause-takes
returns-in-Ok-context_of-clause-takes g c = moves_weaker _ (λ x y t. takes_context _ _ c.as_str.ensures.bytes x y t) c.read_file.ensures.takes

pub returns-in-Err-BadContext-clause-takes : goal.returns-in-Err-BadContext-clause-takes
returns-in-Err-BadContext-clause-takes g c = moves_weaker _ (λ x y t. takes_context _ _ c.as_str.ensures.bytes x y t) c.read_file.ensures.takes

pub returns-in-Err-BadContext-clause-bad : goal.returns-in-Err-BadContext-clause-bad
returns-in-Err-BadContext-clause-bad g c =
    let gives = rw c.in-Err-BadContext.field-0-is at c.in-Err-BadContext.ensures in
    let none : is_context c.in-Ok.bytes.items ≡ false = ap is_context (sym c.as_slice.ensures.value) ∙ gives in
    λ is. was_none _ _ c.args.file.now _ _ c.as_str.ensures.bytes c.in-Ok.ensures.ok none

pub returns-clause-takes : goal.returns-clause-takes
returns-clause-takes g c = moves_weaker _ (λ x y t. takes_context _ _ c.as_str.ensures.bytes x y t) c.read_file.ensures.takes
