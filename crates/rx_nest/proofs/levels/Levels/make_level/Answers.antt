use Rattle.rx_nest.proofs.Common.{◌∙◌, ap, Opened, innermost_first}
use Rattle.rx_nest.proofs.LevelLemmas.{behind, grown}
use Rattle.rx_nest.proofs.levels.Levels.make_level.Goals as goal

pub returns-clause-next : goal.returns-clause-next
returns-clause-next c = behind c.self.inside.depth c.self.inside.levels.items c.push.new.self.items _ c.self.invariant.0 c.in_ok-push.ensures.items

pub returns-clause-levels : goal.returns-clause-levels
returns-clause-levels c =
    ap (innermost_first c.self.inside.depth) c.in_ok-push.ensures.items ∙ grown c.self.inside.depth c.self.inside.levels.items _ c.self.invariant.0
    ∙ ap (λ (v : Opened). v.levels) c.self.view_is
