-- A walk's numbering only grows.
use Rattle.rx_walk.proofs.Common.{◌≡◌, ◌∙◌, ℕ, List, [], ◌∷◌, ◌++◌, refl, sym, ap, subst, subst₂, Option, Some, append-nil, Chars, base_by, base_of, root_href, Call, calls, with_facts, Numbering, begun_state, State, tags_of, finish_makes, Syntax, start_tag_of, Page, Tree, Sign, Sight, sees, nothing_seen, signs_of, calls_of, Leads, line_of, first_child, known, seeks, sought, Setting, Known, Walked, WalkStands, found_state, seeks_append, Enter, Read, Leave, StepsByCall, no_numbers, begun_stands}
use Rattle.rx_rdfa.specs.Machine.{machine_begun}
use Rattle.rx_grammar.specs.declared.limits.Limits.{Limits}
use Rattle.rx_pages.specs.PageReader.{Progress}
use Rattle.rx_nest.proofs.TagPlaces.{shows_more}
use Rattle.rx_eval.proofs.ShownLemmas.{shows_after}
use Rattle.rx_walk.specs.Numberings.{NumbersBy, NumbersGrow, ListIsNumbered}
use Rattle.rx_eval.proofs.LeavesLemmas.{alike_none}
use Rattle.rx_eval.proofs.AlikeLemmas.{Same, opens_same, reads_same, closes_same, stands_same}
use Rattle.rx_nest.proofs.FaultPlacing.{page_shows}
use Rattle.rx_walk.proofs.Alike.{pieces_alike}
use Rattle.rx_base.proofs.Found.{known_stays, base_found}
use Rattle.rx_walk.proofs.Making.{one_on, all_on, all_rest}
use Rattle.rx_walk.proofs.NumberedPages.{facts_line}
use Rattle.rx_walk.proofs.Signed.{calls_append, calls_tree}
use Rattle.rx_walk.proofs.Wholes.{known_at}
use Rattle.rx_eval.specs.Standing as eval

-- the same calls lead to states that are the same but for how the rules for texts are written
one_same : (call : Call) (list : List Call) (to : Numbering) (a b x y : State) → Same a b → eval.EvaluatorStands to list a → StepsByCall call a x → StepsByCall call b y → Same x y
one_same (Enter facts) list to a b x y e s o p = opens_same a b e facts x y o.1 p.1
one_same (Read chars) list to a b x y e s o p = subst₂ Same (sym o) (sym p) (reads_same a b e chars)
one_same Leave list to a b x y e s o p = closes_same a b e to list s x y o p

-- where more calls lead on, the first of them lead to such a state
same_on : (xs ys before : List Call) (to : Numbering) (a b old new : State) → Same a b → eval.EvaluatorStands to before a → Leads xs a old → Leads (xs ++ ys) b new → (middle : State) × Same old middle × Leads ys middle new
same_on [] ys before to a b old new e s l m = (b, subst (λ z. Same z b) (sym l) e, m)
same_on (call ∷ xs) ys before to a b old new e s l m =
    let on = one_on call to before a l.0 l.1 s in
    same_on xs ys (before ++ call ∷ []) on.now l.0 m.0 old new (one_same call before to a b l.0 m.0 e s l.1 m.1) on.stands l.2 m.2

-- of calls that go on, a state that stands for the first ones, and the one that all lead to
led_on : (base : Chars) (levels : ℕ) (xs ys : List Call) (old new : State) (to : Numbering) → Leads xs (begun_state base levels) old → Leads (xs ++ ys) (begun_state base levels) new
    → eval.EvaluatorStands to xs old → eval.StandsOn to (xs ++ ys) new
led_on base levels xs ys old new to first all stands =
    let p = same_on xs ys [] no_numbers (begun_state base levels) (begun_state base levels) old new (record { frames = alike_none; rest = refl }) (begun_stands base levels) first all in
    all_on ys xs to p.0 new p.2 (stands_same old p.0 p.1 to xs stands)

-- what is shown of more bytes begins with what was shown
module _ (setting : Setting) (address : Chars) where
  abbrev IsMore : List Sign → List Sign → Type 0
  IsMore some all = (more : List Sign) × (all ≡ some ++ more)

  shown_all : (walk : Walked) (bytes : List ℕ) (s : WalkStands setting address walk bytes) → (sees nothing_seen s.goes.shown.told).signs ≡ s.goes.signs
  shown_all walk bytes s = ap (λ (x : Sight). x.signs) s.goes.shown.sight ∙ (ap (λ x. s.goes.signs ++ x) s.paid ∙ append-nil s.goes.signs)

  abbrev progress : (walk : Walked) (bytes : List ℕ) → WalkStands setting address walk bytes → Progress
  progress walk bytes s = record { now = s.goes.shown.at.now; told = s.goes.shown.told }

  -- what the evaluator was led by is led on
  module _ (walk : Walked) (bytes : List ℕ) (s : WalkStands setting address walk bytes) (old : State) (is : found_state walk.listener.stage ≡ Some old) (to : Numbering)
      (by : NumbersBy to setting.context s.goes.signs old) (all : List Sign) (m : IsMore s.goes.signs all) where
    abbrev first_calls : List Call
    first_calls = calls_of setting.context [] s.goes.signs

    known_now : Known address setting.limits.depth (sought s.goes.signs) first_calls old
    known_now = known_at address setting.limits.depth (sought s.goes.signs) first_calls walk.listener.stage old s.goes.known.staged is

    stays : sought all ≡ known known_now.href
    stays =
        ap sought m.1
        ∙ (seeks_append [] first_child s.goes.signs m.0
        ∙ (ap (λ x. seeks (line_of [] s.goes.signs) x m.0) known_now.is ∙ known_stays (line_of [] s.goes.signs) known_now.href m.0))

    on : (href : Option Chars) (new : State) → sought all ≡ known href → Leads (calls_of setting.context [] all) (begun_state (base_by href address) setting.limits.depth) new
        → eval.StandsOn to (calls_of setting.context [] all) new
    on href new k l =
        let same : known href ≡ known known_now.href = sym k ∙ stays in
        let one : href ≡ known_now.href = cc in
        let parts : calls_of setting.context [] all ≡ first_calls ++ calls_of setting.context (line_of [] s.goes.signs) m.0 = ap (calls_of setting.context []) m.1 ∙ calls_append setting.context [] s.goes.signs m.0 in
        subst (λ cs. eval.StandsOn to cs new) (sym parts)
        (led_on (base_by known_now.href address) setting.limits.depth first_calls (calls_of setting.context (line_of [] s.goes.signs) m.0) old new to known_now.led.leads
        (subst₂ (λ cs h. Leads cs (begun_state (base_by h address) setting.limits.depth) new) parts one l) by.stands)

  -- what a walk shows for more bytes
  walk_more : (before after : Walked) (bytes piece : List ℕ) (s : WalkStands setting address before bytes) (t : WalkStands setting address after (bytes ++ piece)) → IsMore s.goes.signs t.goes.signs
  walk_more before after bytes piece s t =
      let m = shows_more setting.syntax setting.limits bytes piece (progress before bytes s) (progress after (bytes ++ piece) t) s.goes.shown.at.read t.goes.shown.at.read in
      (m.signs, sym (shown_all after (bytes ++ piece) t) ∙ (m.are ∙ ap (λ x. x ++ m.signs) (shown_all before bytes s)))

  -- what the tree of a page shows
  tree_more : (walk : Walked) (bytes piece : List ℕ) (s : WalkStands setting address walk bytes) (tree : Tree) → Page setting.syntax setting.limits (bytes ++ piece) tree → IsMore s.goes.signs (signs_of tree)
  tree_more walk bytes piece s tree page =
      let p = page_shows setting.syntax setting.limits (bytes ++ piece) tree page in
      let m = shows_more setting.syntax setting.limits bytes piece (progress walk bytes s) p.final s.goes.shown.at.read p.read in
      (m.signs, sym p.signs_are ∙ (m.are ∙ ap (λ x. x ++ m.signs) (shown_all walk bytes s)))

tree_base : (syntax : Syntax) (limits : Limits) (bytes : List ℕ) (tree : Tree) → Page syntax limits bytes tree → sought (signs_of tree) ≡ known (root_href (tags_of tree))
tree_base syntax limits bytes tree page =
    let d = page.document in
    subst (λ t. sought (signs_of t) ≡ known (root_href (tags_of t))) (sym d.tree_is) (base_found (start_tag_of d.root d.t) d.inside)

pub numbers_grow : NumbersGrow
numbers_grow setting address before after bytes piece s t old new was is to by =
    let k = known_at address setting.limits.depth (sought t.goes.signs) (calls_of setting.context [] t.goes.signs) after.listener.stage new t.goes.known.staged is in
    let x = on setting address before bytes s old was to by t.goes.signs (walk_more setting address before after bytes piece s t) k.href new k.is k.led.leads in
    record {
      to = x.now;
      grown = x.grown;
      by = record {
        stands = x.stands;
        line = facts_line setting.context t.goes.signs;
        shows = λ shown h. shows_after x.now (calls_of setting.context [] t.goes.signs) new shown h x.stands;
      };
    }

pub list_is_numbered : ListIsNumbered
list_is_numbered setting address walk bytes piece s old is to by list e =
    let tree = e.tree in
    let nodes = with_facts setting.context [] (tags_of tree) in
    let base = base_of (tags_of tree) address in
    let state = e.lists.state in
    let x = on setting address walk bytes s old is to by (signs_of tree) (tree_more setting address walk bytes piece s tree e.page) (root_href (tags_of tree)) state
    (tree_base setting.syntax setting.limits (bytes ++ piece) tree e.page) e.lists.led.leads in
    let stands = subst (λ cs. eval.EvaluatorStands x.now cs state) (calls_tree setting.context [] tree) x.stands in
    let whole : eval.EvaluatorStands x.now (calls nodes) state = record { page = stands.page; phase = subst (λ m. eval.RunsOrIsOver state.ended x.now m state) (pieces_alike state.base (calls nodes) machine_begun) stands.phase } in
    record {
      to = x.now;
      grown = x.grown;
      makes = subst₂ (λ b ts. eval.Makes x.now b nodes ts) (all_rest (calls_of setting.context [] (signs_of tree)) (begun_state base setting.limits.depth) state e.lists.led.leads).0 (sym e.lists.list_is) (finish_makes x.now state nodes whole);
    }
