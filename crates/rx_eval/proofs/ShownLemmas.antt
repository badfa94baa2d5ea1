-- What is shown of the frames is what the rules hand on.
use Rattle.rx_eval.proofs.Common.{◌≡◌, ◌∙◌, List, [], ◌∷◌, map, refl, sym, ap, ap₂, rename_node, Bnode, Owner, Call, rename_hanging, State, handed_on, Numbering, Name, Number, numbered_name, EvaluatorStands, context_after, wait_by, ShowsContext}
use Rattle.rx_eval.specs.declared.inherited.Inherited.{Inherited}
use Rattle.rx_eval.specs.Shown.{ShowsAfter}
use Rattle.rx_eval.proofs.StandLemmas.{hands_on}
use Rattle.rx_rdfa.specs.Resources as rules

wait_same : {O P : Type 0} (g : O → P) (h : rules.Hanging O) → wait_by (rename_hanging g h) ≡ wait_by h
wait_same g (rules.Forward p) = refl
wait_same g _ = refl

waits_same : {O P : Type 0} (g : O → P) (hs : List (rules.Hanging O)) → map wait_by (map (rename_hanging g) hs) ≡ map wait_by hs
waits_same g [] = refl
waits_same g (h ∷ hs) = ap₂ ◌∷◌ (wait_same g h) (waits_same g hs)

pub shows_after : (to : Numbering) (list : List Call) (state : State) (shown : Inherited) → ShowsContext shown (handed_on state.page state.frames) → EvaluatorStands to list state → ShowsAfter to state.base list shown
shows_after to list state shown s h =
    let k = hands_on to list state h in
    record {
      subject = ap (rename_node Number) s.subject ∙ ap (λ (x : rules.Inherited (Name Bnode) (Name Owner)). x.subject) k.path;
      object = ap (rename_node Number) s.object ∙ ap (λ (x : rules.Inherited (Name Bnode) (Name Owner)). x.object) k.path;
      hanging =
          s.hanging ∙ sym (waits_same Number (handed_on state.page state.frames).hanging)
          ∙ ap (λ (x : rules.Inherited (Name Bnode) (Name Owner)). map wait_by x.hanging) k.path ∙ waits_same (numbered_name k.own) (context_after state.base list).hanging;
    }
