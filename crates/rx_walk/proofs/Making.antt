-- What the calls for a page's tree make: the list of the tree.
use Rattle.rx_walk.proofs.Common.{◌≡◌, ◌∙◌, ℕ, List, [], ◌∷◌, ◌++◌, sym, ap, subst, append_assoc, append-nil, Chars, base_of, Call, Enter, Read, Leave, calls, Facts, with_facts, Context, Nodes, Numbering, begun_state, EvaluatorStands, StandsOn, Makes, no_numbers, State, tags_of, begun_stands, enter_stands, text_stands, finish_makes, Tree, singly, StepsByCall, Leads, Lists, IsMade}
use Rattle.rx_terms.specs.declared.triples.Triple.{Triple as CodeTriple}
use Rattle.rx_eval.proofs.EndLemmas.{left_stands}
use Rattle.rx_eval.proofs.NameLemmas.{grown_same, grown_then}
use Rattle.rx_walk.proofs.Alike.{pieces_lead}
use Rattle.rx_walk.proofs.Signed.{calls_tree}

-- the state stands for the calls under a numbering that has grown

pub one_on : (call : Call) (to : Numbering) (list : List Call) (old new : State) → StepsByCall call old new → EvaluatorStands to list old → StandsOn to (list ++ call ∷ []) new
one_on (Enter facts) to list old new s st = enter_stands to list old facts new s.1 s.0.root s.0.drawn st
one_on (Read chars) to list old new s st = record { now = to; grown = grown_same to; stands = subst (λ z. EvaluatorStands to (list ++ Read chars ∷ []) z) (sym s) (text_stands to list old chars st) }
one_on Leave to list old new s st = left_stands to list old new s st

pub all_on : (list before : List Call) (to : Numbering) (old new : State) → Leads list old new → EvaluatorStands to before old → StandsOn to (before ++ list) new
all_on [] before to old new h st = record { now = to; grown = grown_same to; stands = subst (λ l. EvaluatorStands to l new) (sym (append-nil before)) (subst (λ z. EvaluatorStands to before z) (sym h) st) }
all_on (call ∷ list) before to old new h st =
    let one = one_on call to before old h.0 h.1 st in
    let all = all_on list (before ++ call ∷ []) one.now h.0 new h.2 one.stands in
    record { now = all.now; grown = grown_then to one.now all.now one.grown all.grown; stands = subst (λ l. EvaluatorStands all.now l new) (append_assoc before (call ∷ []) list) all.stands }

-- the base stays, and an evaluator that answers has memory
one_rest : (call : Call) (old new : State) → StepsByCall call old new → (new.base ≡ old.base) × (new.out_of_memory ≡ old.out_of_memory)
one_rest (Enter facts) old new s = (s.1.rest.0, s.1.rest.6)
one_rest (Read chars) old new s = (ap (λ (z : State). z.base) s, ap (λ (z : State). z.out_of_memory) s)
one_rest Leave old new s = (s.rest.0, s.rest.5)

pub all_rest : (list : List Call) (old new : State) → Leads list old new → (new.base ≡ old.base) × (new.out_of_memory ≡ old.out_of_memory)
all_rest [] old new h = (ap (λ (z : State). z.base) h, ap (λ (z : State). z.out_of_memory) h)
all_rest (call ∷ list) old new h =
    let one = one_rest call old h.0 h.1 in
    let all = all_rest list h.0 new h.2 in
    (all.0 ∙ one.0, all.1 ∙ one.1)

made_by : (base : Chars) (levels : ℕ) (tree : Nodes Facts) (state : State) → Leads (calls tree) (begun_state base levels) state → (to : Numbering) × Makes to base tree state.out
made_by base levels tree state h =
    let s = all_on (calls tree) [] no_numbers (begun_state base levels) state h (begun_stands base levels) in
    (s.now, subst (λ b. Makes s.now b tree state.out) (all_rest (calls tree) (begun_state base levels) state h).0 (finish_makes s.now state tree s.stands))

pub list_made : (context : Context) (address : Chars) (levels : ℕ) (tree : Tree) (list : List CodeTriple) → Lists context address levels tree list → IsMade context address tree list
list_made context address levels tree list l =
    let nodes = with_facts context [] (tags_of tree) in
    let base = base_of (tags_of tree) address in
    let led : Leads (singly (calls nodes)) (begun_state base levels) l.state = subst (λ cs. Leads cs (begun_state base levels) l.state) (calls_tree context [] tree) l.led.leads in
    let made = made_by base levels nodes l.state ((pieces_lead (calls nodes) (begun_state base levels) l.state).0 led) in
    record { to = made.0; makes = subst (λ ts. Makes made.0 base nodes ts) (sym l.list_is) made.1 }
