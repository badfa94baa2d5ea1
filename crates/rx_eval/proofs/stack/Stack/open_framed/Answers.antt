use Rattle.rx_eval.proofs.Common.{◌≡◌, ◌∙◌, ◌<◌, arith, List, length, ◌++◌, refl, sym, ap, Bool, length-map, triples_seen, facts_seen, owners_seen, level_at, start_at, below_at, lists_at, gathers_at, own_at, below_own_at, context_seen, frame_seen, all_frames, outermost_place}
use Rattle.rx_eval.specs.declared.frames.Frame.{Frame as CodeFrame}
use Rattle.rx_eval.proofs.SkippedLemmas.{counted_all}
use Rattle.rx_eval.proofs.KeepLemmas.{sound_more}
use Rattle.rx_eval.proofs.OpenLemmas.{around_is, text_is, opened_text, fresh_room}
use Rattle.rx_eval.proofs.stack.Stack.open_framed.Goals as goal

pub next_number-drawn-requires : goal.next_number-drawn-requires
next_number-drawn-requires c =
    fresh_room _ _ _ c.in_ok-fresh.fresh _ c.in_ok-fresh.ensures.ok (omega (arith, (rw (← c.self.view_is) at c.requires.drawn)))

pub invariant_of-self-2 : goal.invariant_of-self-2
invariant_of-self-2 c =
    let room : c.self.inside.depth < c.self.inside.levels = omega (arith, (rw (← c.self.view_is) at c.requires.level), c.self.invariant.deep) in
    sound_more c.self.invariant _ room refl c.in_ok-push.ensures.items (ap length c.as_slice-frames.ensures.value)
    (c.first_of-self-inside.ensures ∙ ap (λ (b : Bool). outermost_place c.self.inside.outermost b (length c.as_slice-frames.result.now)) c.is_some-gathers.ensures)

pub returns : goal.returns
returns c =
    let around = around_is c.self.inside.page _ _ c.self.inside.frames.items c.self.inside.skipped c.around-around.ensures c.as_slice-frames.ensures.value in
    let level = c.level_at.ensures ∙ ap level_at c.self.invariant.deep in
    let labels = c.draw_labels.new.labels in
    let fresh = c.in_ok-fresh.fresh in
    let base = c.self.inside.base in
    let facts = facts_seen c.args.facts.now in
    let owners : length c.self.inside.lists ≡ length (owners_seen c.self.inside.lists) = sym (length-map c.self.inside.lists _) in
    rw (← c.self.view_is) (record {
      frame = frame_seen c.in_ok-frame.frame;
      fresh = fresh;
      drawing = c.in_ok-fresh.ensures.ok.path;
      pushed =
          ap (λ (l : List CodeFrame). all_frames (context_seen c.self.inside.page) l 0) c.in_ok-push.ensures.items
          ∙ counted_all (context_seen c.self.inside.page) c.self.inside.frames.items _ 0;
      context = c.in_ok-frame.ensures.context ∙ (λ i. below_at labels fresh base (level i) (around i) facts (owners i));
      start = c.in_ok-frame.ensures.start ∙ (λ i. triples_seen c.self.inside.out ++ start_at labels fresh base (level i) (around i) facts);
      lists = c.in_ok-frame.ensures.lists ∙ (λ i. lists_at labels fresh base (level i) (around i) facts (owners_seen c.self.inside.lists));
      gathers = text_is c.in_ok-frame.frame.gathered ∙ c.in_ok-frame.ensures.gathers ∙ (λ i. gathers_at labels fresh base (level i) (around i) facts);
      text = opened_text labels fresh base facts (owners_seen c.self.inside.lists) _ _ _ _ _ _ c.in_ok-frame.frame.gathered level around c.mark-mark.ensures c.in_ok-frame.ensures.text;
      own = c.in_ok-frame.ensures.own ∙ (λ i. own_at labels fresh base (level i) (around i) facts (owners i));
      below_own = c.in_ok-frame.ensures.below ∙ (λ i. below_own_at labels fresh base (level i) (around i) facts (owners i));
      counted = c.next_number-drawn.ensures;
      rest = (refl, refl, refl, refl, refl, refl, refl);
    })
