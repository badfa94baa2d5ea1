-- The opening of an element on the stack.
use Rattle.std.specs.Prelude.{ℕ, ◌+◌, ◌||◌, List, [], ◌∷◌, if◌then◌else◌}
use Rattle.rx_rdfa.specs.Resources.{Inherited}
use Rattle.rx_eval.specs.Blanks.{is_blank}
use Rattle.rx_eval.specs.declared.contexts.EvaluationContext.{EvaluationContext}
use Rattle.rx_eval.specs.declared.frames.Frame.{Frame}

-- what a child of the last frame inherits
abbrev pub around_in : EvaluationContext → List Frame → EvaluationContext
around_in page [] = page
around_in page (frame ∷ frames) = around_in frame.context frames

-- the number after that of a new node, if the element made one
abbrev pub drawn_after : Inherited ℕ ℕ → ℕ → ℕ
drawn_after context fresh = if is_blank context.subject fresh || is_blank context.object fresh then fresh + 1 else fresh
