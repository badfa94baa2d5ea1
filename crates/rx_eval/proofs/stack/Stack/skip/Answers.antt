use Rattle.rx_eval.proofs.Common.{◌∙◌, ◌+◌, ℕ, List, [], ◌∷◌, ◌++◌, ap, ap₂, arith, Inherited, context_seen, State, Frame, handed_on, drawn_after, skipped_frame, all_frames}
use Rattle.rx_eval.proofs.OpenLemmas.{around_is}
use Rattle.rx_eval.proofs.SkippedLemmas.{one_more}
use Rattle.rx_eval.proofs.KeepLemmas.{sound_counted}
use Rattle.rx_eval.proofs.stack.Stack.skip.Goals as goal

pub invariant_of-self : goal.invariant_of-self
invariant_of-self c =
    sound_counted c.self.invariant (omega (arith, (rw (← c.self.view_is) at c.requires.level), c.self.invariant.deep)) (omega (arith, (rw (← c.self.view_is) at c.requires.inside), c.self.invariant.deep))

pub returns : goal.returns
returns c =
    let frames : List Frame = all_frames (context_seen c.self.inside.page) c.self.inside.frames.items (c.self.inside.skipped + 1) in
    let around = around_is c.self.inside.page _ _ c.self.inside.frames.items c.self.inside.skipped c.around-context.ensures c.as_slice.ensures.value in
    ap (λ (s : State). record s { frames = frames; drawn = c.next_number-self-inside.result }) c.self.view_is
    ∙ ap₂ (λ (f : List Frame) (d : ℕ). record c.args.self.now { frames = f; drawn = d })
    (one_more c.self.inside.page c.self.inside.frames.items (c.self.inside.skipped + 1) c.self.inside.skipped (omega arith)
    ∙ ap (λ (s : State). s.frames ++ skipped_frame (handed_on s.page s.frames) ∷ []) c.self.view_is)
    (c.next_number-self-inside.ensures ∙ ap (λ (a : Inherited ℕ ℕ). drawn_after a c.self.inside.drawn) around
    ∙ ap (λ (s : State). drawn_after (handed_on s.page s.frames) s.drawn) c.self.view_is)
