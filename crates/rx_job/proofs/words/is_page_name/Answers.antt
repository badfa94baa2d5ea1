use Rattle.rx_terms.proofs.Common.{◌≡◌, ◌∙◌, ℕ, List, [], ◌∷◌, Some, None, false, not, ◌==◌, refl, ap, slice_get, chars}
use Rattle.rx_job.specs.Words.{is_page_name}
use Rattle.rx_job.proofs.words.is_page_name.Goals as goal

at_none : (cs : List ℕ) → None ≡ slice_get cs 0 → false ≡ is_page_name cs
at_none [] e = refl
at_none (c ∷ cs) e = absurd (cc)

at_some : (cs : List ℕ) (first : ℕ) → Some first ≡ slice_get cs 0 → not (first == 45) ≡ is_page_name cs
at_some [] first e = absurd (cc)
at_some (c ∷ cs) first e = let same : first ≡ c = (cc) in ap (λ x. not (x == 45)) same

pub returns-in-None : goal.returns-in-None
returns-in-None c = at_none _ (c.in-None.ensures.steps.2 ∙ ap (λ b. slice_get (chars b) 0) c.chars.ensures.rest)

pub returns-in-Some : goal.returns-in-Some
returns-in-Some c = at_some _ _ (c.in-Some.ensures.steps.2 ∙ ap (λ b. slice_get (chars b) 0) c.chars.ensures.rest)
