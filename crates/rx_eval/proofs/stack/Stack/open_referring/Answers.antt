use Rattle.rx_eval.proofs.Common.{◌≡◌, ◌∙◌, ◌++◌, ◌∷◌, ℕ, List, length, Option, sym, ap, ap₂, arith, is_some, length-map, node_seen, Node, Inherited, context_seen, begun_seen, outermost_place, handed_on, Owning, owners_seen, referring_frame, all_frames, skipped_frames, Frame, frame_seen}
use Rattle.rx_eval.specs.contracts.stack.Stack.{the_view}
use Rattle.rx_eval.specs.declared.frames.Frame.{Frame as CodeFrame}
use Rattle.rx_eval.specs.declared.frames.Gathered.{Gathered}
use Rattle.rx_eval.proofs.KeepLemmas.{sound_framed}
use Rattle.rx_eval.proofs.OpenLemmas.{around_is}
use Rattle.rx_eval.proofs.SkippedLemmas.{counted_all}
use Rattle.rx_eval.proofs.stack.Stack.open_referring.Goals as goal

pub invariant_of-self-2 : goal.invariant_of-self-2
invariant_of-self-2 c =
    sound_framed c.self.invariant c.args.inside c.in_ok-frame.frame
    (omega (arith, (rw (← c.self.view_is) at c.requires.level), c.self.invariant.deep)) (omega (arith, (rw (← c.self.view_is) at c.requires.rooted), c.self.invariant.deep))
    c.in_ok-frame.ensures.skipped.0 c.in_ok-push.ensures.items (ap length c.as_slice-frames.ensures.value)
    (c.first_of-self-inside.ensures ∙ ap (λ (g : Option Gathered). outermost_place c.self.inside.outermost (is_some g) (length c.as_slice-frames.result.now)) (sym c.in_ok-frame.ensures.skipped.1))

pub returns : goal.returns
returns c =
    let page : Inherited ℕ ℕ = context_seen c.self.inside.page in
    let items : List CodeFrame = c.self.inside.frames.items in
    let old : List Frame = all_frames page items c.self.inside.skipped in
    let owners : List (Option Owning) = owners_seen c.self.inside.lists in
    let subject : Node ℕ = node_seen c.args.subject in
    let around = around_is c.self.inside.page _ _ items c.self.inside.skipped c.around-around.ensures c.as_slice-frames.ensures.value in
    let count : length c.self.inside.lists ≡ length owners = sym (length-map c.self.inside.lists _) in
    let seen : Frame = referring_frame (handed_on page old) (length owners) subject in
    let frame : frame_seen c.in_ok-frame.frame ≡ seen =
    c.in_ok-frame.ensures.frame ∙ ap₂ (λ (a : Inherited ℕ ℕ) (n : ℕ). referring_frame a n subject) around count in
    rw (← c.self.view_is)
    (ap₂ (λ (fs : List Frame) (os : List (Option Owning)). record (the_view c.self.inside) { frames = fs; owners = os })
    (ap (λ (l : List CodeFrame). all_frames page l c.args.inside) c.in_ok-push.ensures.items
    ∙ counted_all page items c.in_ok-frame.frame c.args.inside ∙ ap (λ (x : Frame). all_frames page items c.in_ok-frame.frame.skipped ++ x ∷ skipped_frames x.context c.args.inside) frame
    ∙ ap (λ (n : ℕ). all_frames page items n ++ seen ∷ skipped_frames seen.context c.args.inside) c.in_ok-frame.ensures.skipped.0)
    (c.in_ok-frame.ensures.lists ∙ ap (λ (x : Inherited ℕ ℕ). begun_seen subject x.object owners) around))
