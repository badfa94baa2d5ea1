use Rattle.rx_walk.proofs.Common.{◌∙◌, ap, sym, has_failed, Walked}
use Rattle.rx_walk.specs.declared.courses.RdfaListener.{RdfaListener}
use Rattle.rx_walk.proofs.Inheriting.{failed_shows, closed_shows, seeking_shows, found_shows}
use Rattle.rx_walk.proofs.walks.Walk.inherited.Goals.{then-has_failed-via-then-has_failed, then-has_failed-via-else-has_failed+then-listener-eq0}
use Rattle.rx_walk.proofs.walks.Walk.inherited.Goals as goal

pub returns-then-has_failed-clause-line : goal.returns-then-has_failed-clause-line
returns-then-has_failed-clause-line c =
    elim c.then-has_failed.branch [
      | then-has_failed-via-then-has_failed w ↦ failed_shows c.args.self.now (ap has_failed (sym c.self.view_is) ∙ (sym c.has_failed.ensures ∙ w.if-has_failed.true))
      | then-has_failed-via-else-has_failed+then-listener-eq0 w ↦
          closed_shows c.args.self.now
          (sym (ap (λ (x : RdfaListener). x.count) w.listener.ensures ∙ ap (λ (v : Walked). v.listener.count) c.self.view_is) ∙ w.if-listener-eq0.true)
    ]

pub returns-in-Seeking-clause-line : goal.returns-in-Seeking-clause-line
returns-in-Seeking-clause-line c =
    seeking_shows c.args.self.now c.in-Seeking._head
    (sym (ap (λ (x : RdfaListener). x.stage) c.listener-2.ensures ∙ ap (λ (v : Walked). v.listener.stage) c.self.view_is) ∙ c.in-Seeking.is)

pub returns-in-Found-clause-line : goal.returns-in-Found-clause-line
returns-in-Found-clause-line c =
    found_shows c.args.self.now c.in-Found.eval c.inherited.result (ap has_failed (sym c.self.view_is) ∙ (sym c.has_failed.ensures ∙ c.if-has_failed.false))
    (λ e. c.if-listener-eq0.false (ap (λ (x : RdfaListener). x.count) c.listener.ensures ∙ (ap (λ (v : Walked). v.listener.count) c.self.view_is ∙ e)))
    (sym (ap (λ (x : RdfaListener). x.stage) c.listener-2.ensures ∙ ap (λ (v : Walked). v.listener.stage) c.self.view_is) ∙ c.in-Found.is)
