use Rattle.rx_walk.proofs.Common.{◌∙◌, [], ◌∷◌, ◌++◌, sym, ap, seen_slice, tag_seen, token_tag, seek_begun, sought_seen}
use Rattle.rx_walk.proofs.Staging.{head_may, head_more, head_known}
use Rattle.rx_walk.specs.declared.calls.Call.TheVariants as code
use Rattle.rx_walk.proofs.stages.PendingBase.begin.Goals as goal

pub evaluated-requires : goal.evaluated-requires
evaluated-requires c =
    let kept = c.in_ok-push.ensures.queue ∙ ap (λ x. c.args.self.now.queue.items ++ code.Enter x ∷ []) c.replace-kept.ensures.value in
    head_may c.args.origin.now.levels c.args.self.now c.as_slice.result.now (code.Enter c.args.facts.now) (c.as_slice.ensures.value ∙ kept) c.requires

pub returns-in-Seeks : goal.returns-in-Seeks
returns-in-Seeks c =
    let kept = c.in_ok-push.ensures.queue ∙ ap (λ x. c.args.self.now.queue.items ++ code.Enter x ∷ []) c.replace-kept.ensures.value in
    head_more c.args.origin.now (seek_begun c.args.count (sought_seen c.args.self.now.sought) (token_tag (tag_seen c.args.tag.now))) c.args.self.now (record { sought = c.in-Seeks.sought; queue = c.push.new.self.queue }) (code.Enter c.args.facts.now)
    kept (c.in-Seeks.ensures ∙ ap (λ s. seek_begun c.args.count (sought_seen s) (token_tag (tag_seen c.args.tag.now))) c.in_ok-push.ensures.sought)

pub returns-in_ok-eval-in-Known : goal.returns-in_ok-eval-in-Known
returns-in_ok-eval-in-Known c =
    let kept = c.in_ok-push.ensures.queue ∙ ap (λ x. c.args.self.now.queue.items ++ code.Enter x ∷ []) c.replace-kept.ensures.value in
    head_known c.args.origin.now (seek_begun c.args.count (sought_seen c.args.self.now.sought) (token_tag (tag_seen c.args.tag.now))) c.args.self.now c.push.new.self c.as_slice.result.now (code.Enter c.args.facts.now)
    (seen_slice c.in-Known.href) c.in_ok-eval-in-Known.eval (c.as_slice.ensures.value ∙ kept)
    (sym (c.in-Known.ensures ∙ ap (λ s. seek_begun c.args.count (sought_seen s) (token_tag (tag_seen c.args.tag.now))) c.in_ok-push.ensures.sought)) c.in_ok-eval-in-Known.ensures
