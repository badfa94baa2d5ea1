use Rattle.rx_eval.proofs.Common.{◌≡◌, ◌∙◌, ◌-◌, refl, ap, length, ℕ, true, arith, Option, Some, None, option_map, ◌==◌, if◌then◌else◌, triples_seen, context_seen, owners_seen, frame_seen, owner_seen, ending, end_owner, end_frame, handed_on, all_frames}
use Rattle.rx_eval.proofs.KeepLemmas.{sound_left, sound_uncounted, kept_left, kept_is, frames_left, depth_left}
use Rattle.rx_eval.proofs.SilentLemmas.{skipped_closes}
use Rattle.rx_eval.proofs.SkippedLemmas.{one_more, rooted_above}
use Rattle.rx_eval.proofs.stack.Stack.close.Goals as goal

pub invariant_of-self : goal.invariant_of-self
invariant_of-self c =
    sound_uncounted c.self.invariant (omega (arith, c.if-self-gt0.true))

pub invariant_of-self-in_err-self-inside : goal.invariant_of-self-in_err-self-inside
invariant_of-self-in_err-self-inside c =
    sound_left c.self.invariant (omega (arith, c.if-self-gt0.false)) _ c.in-Some.frame c.in-Some.ensures.items (ap length c.as_slice-place.ensures.value) c.is_place-was_outermost.ensures
    c.without-self-inside.ensures c.forget.ensures

pub invariant_of-self-2 : goal.invariant_of-self-2
invariant_of-self-2 c =
    sound_left c.self.invariant (omega (arith, c.if-self-gt0.false)) _ c.in-Some.frame c.in-Some.ensures.items (ap length c.as_slice-place.ensures.value) c.is_place-was_outermost.ensures
    c.without-self-inside.ensures c.forget.ensures

pub invariant_of-self-in_err-cells : goal.invariant_of-self-in_err-cells
invariant_of-self-in_err-cells c =
    sound_left c.self.invariant (omega (arith, c.if-self-gt0.false)) _ c.in-Some.frame c.in-Some.ensures.items (ap length c.as_slice-place.ensures.value) c.is_place-was_outermost.ensures
    c.without-self-inside.ensures c.forget.ensures

pub returns-then-self-gt0 : goal.returns-then-self-gt0
returns-then-self-gt0 c =
    let page = context_seen c.self.inside.page in
    let frames = c.self.inside.frames.items in
    let e = one_more c.self.inside.page frames c.self.inside.skipped (c.self.inside.skipped - 1) (omega (arith, c.if-self-gt0.true)) in
    rw (← c.self.view_is)
    (skipped_closes _ (all_frames page frames (c.self.inside.skipped - 1)) (handed_on page (all_frames page frames (c.self.inside.skipped - 1))) e
    (rooted_above page frames c.self.inside.skipped c.self.invariant.rooted (omega (arith, c.if-self-gt0.true)))
    (kept_is c.self.invariant (c.self.inside.skipped - 1)))

pub returns : goal.returns
returns c =
    let none : c.self.inside.skipped ≡ 0 = omega (arith, c.if-self-gt0.false) in
    let depth =
    depth_left c.self.invariant none _ c.in-Some.frame c.in-Some.ensures.items (ap length c.as_slice-place.ensures.value) c.is_place-was_outermost.ensures in
    rw (← c.self.view_is) (record {
      frame = frame_seen c.in-Some.frame;
      popped =
          frames_left c.self.invariant none _ c.in-Some.frame c.in-Some.ensures.items (ap length c.as_slice-place.ensures.value) c.is_place-was_outermost.ensures;
      endings = λ front chars at.
          c.in_ok-self-inside.ensures.path ∙ ap (end_owner (option_map owner_seen c.page_owner-page.result)) (c.in_ok-cells.ensures front chars at).path
          ∙ ap (λ (o : Option ℕ). end_owner o (end_frame (frame_seen c.in-Some.frame) chars (ending (triples_seen c.self.inside.out) (owners_seen c.self.inside.lists) c.self.inside.cells)))
          (c.page_owner-page.ensures ∙ ap (λ (n : ℕ). if n == 0 then Some c.self.inside.page.owner.0 else None) depth);
      kept =
          kept_left c.self.invariant none _ c.in-Some.frame c.in-Some.ensures.items (ap length c.as_slice-place.ensures.value) c.is_place-was_outermost.ensures c.forget.ensures;
      ended = c.is_ended-self-inside.ensures ∙ ap (λ (n : ℕ). if n == 0 then true else c.self.inside.ended) depth;
      rest = (refl, refl, refl, refl, refl, refl);
    })
