use Rattle.rx_eval.proofs.Common.{◌≡◌, ◌∙◌, ap, sym, subst, List, ℕ, IfOk-weaker, Triple, State, Makes}
use Rattle.rx_eval.proofs.StandLemmas.{finish_makes}
use Rattle.rx_eval.proofs.ReferringLemmas.{out_waits}
use Rattle.rx_eval.proofs.eval.Eval.finish.Goals as goal

pub returns-clause-made : goal.returns-clause-made
returns-clause-made c =
    let all : c.self.inside.stack.out ≡ c.args.self.out = sym (out_waits c.self.inside.pending c.self.inside.stack) ∙ ap (λ (x : State). x.out) c.self.view_is in
    IfOk-weaker c.finish.result _ _
    (λ triples h to tree s. subst (λ (list : List (Triple ℕ)). Makes to c.args.self.base tree list) (sym (h ∙ all)) (finish_makes to c.args.self tree s))
    c.finish.ensures.ok
