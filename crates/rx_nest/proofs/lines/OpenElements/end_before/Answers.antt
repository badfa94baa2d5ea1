use Rattle.rx_nest.proofs.Common.{◌≡◌, ◌≤◌, ◌∙◌, true, false, ap, subst, length, nat_le, chars, Levels, ends_by, Lines}
use Rattle.rx_nest.proofs.LevelLemmas.{kept_full}
use Rattle.rx_nest.proofs.lines.OpenElements.end_before.Goals as goal

pub returns-then-is_html-clause-none : goal.returns-then-is_html-clause-none
returns-then-is_html-clause-none c h =
    let was : Levels = c.self.inside.levels.levels in
    let same = kept_full (ends_by false (chars c.name.result.now)) was c.self.inside.depth (subst (λ n. length was ≤ n) c.self.invariant c.end_by.ensures.fits) (subst (λ ls. nat_le c.self.inside.depth (length ls) ≡ true) c.end_by.ensures.levels h) in
    let with_levels : Levels → Lines = λ ls. record { syntax = c.self.inside.syntax; depth = c.self.inside.depth; begun = c.self.inside.begun; levels = ls } in
    ap with_levels (c.end_by.ensures.levels ∙ same) ∙ c.self.view_is
