-- The numbers that a page's blank nodes have at any time.
use Rattle.std.specs.Prelude.{◌≡◌, ℕ, List, [], ◌∷◌, ◌++◌, Some}
use Rattle.rx_rdfa.specs.Common.{Chars, triples_seen, Tree, base_of, line_after, no_line, Facts, facts, with_facts, Context, ElementTag, tags_of}
use Rattle.rx_terms.specs.declared.triples.Triple.{Triple as CodeTriple}
use Rattle.rx_nest.specs.Signs.{Sign}
use Rattle.rx_eval.specs.declared.inherited.Inherited.{Inherited}
use Rattle.rx_eval.specs.Numbering.{Numbering, KeepsNumbers}
use Rattle.rx_eval.specs.Opened.{handed_on}
use Rattle.rx_eval.specs.Shown.{ShowsAfter}
use Rattle.rx_eval.specs.Standing as eval
use Rattle.rx_eval.specs.States.{State}
use Rattle.rx_eval.specs.Waits.{ShowsContext}
use Rattle.rx_base.specs.Lines.{line_of}
use Rattle.rx_walk.specs.CallsOf.{calls_of}
use Rattle.rx_walk.specs.Settings.{Setting}
use Rattle.rx_walk.specs.Walks.{Walked, WalkStands, WalkEnded, found_state}

-- the facts of the elements of a line, the innermost first
abbrev pub facts_along : Context → List ElementTag → List Facts
facts_along context [] = []
facts_along context (tag ∷ line) = facts context line tag ∷ facts_along context line

-- Under the numbering, which is one to one, the evaluator stands for the page's elements so far: its triples are the rules'
-- own; its line of facts is that of the open elements; and what is shown of its frames is what a child of the innermost
-- one inherits by the rules.
pub record NumbersBy (to : Numbering) (context : Context) (signs : List Sign) (state : State) : Type 0 where
  pub stands : eval.EvaluatorStands to (calls_of context [] signs) state
  pub line : (line_after (calls_of context [] signs) no_line).facts ≡ facts_along context (line_of [] signs)
  pub shows : (shown : Inherited) → ShowsContext shown (handed_on state.page state.frames) → ShowsAfter to state.base (calls_of context [] signs) shown

pub record HasNumbering (context : Context) (signs : List Sign) (state : State) : Type 0 where
  pub to : Numbering
  pub by : NumbersBy to context signs state

-- the numbering has grown
pub record NumberedOn (old : Numbering) (context : Context) (signs : List Sign) (state : State) : Type 0 where
  pub to : Numbering
  pub grown : KeepsNumbers old to
  pub by : NumbersBy to context signs state

-- under a numbering that has grown the list is what RDFa's rules make of the tree
pub record MadeOn (old : Numbering) (context : Context) (address : Chars) (tree : Tree) (list : List CodeTriple) : Type 0 where
  pub to : Numbering
  pub grown : KeepsNumbers old to
  pub makes : eval.Makes to (base_of (tags_of tree) address) (with_facts context [] (tags_of tree)) (triples_seen list)

-- law: once the base is known, a walk has such a numbering
abbrev pub WalkIsNumbered : Type 0
WalkIsNumbered = (setting : Setting) (address : Chars) (walk : Walked) (bytes : List ℕ) (s : WalkStands setting address walk bytes) (state : State)
    → found_state walk.listener.stage ≡ Some state → HasNumbering setting.context s.goes.signs state

-- law: with the bytes of a page its numbering only grows: each that a walk has for some of them becomes, by more numbers
-- alone, one that a walk has for these and more
abbrev pub NumbersGrow : Type 0
NumbersGrow = (setting : Setting) (address : Chars) (before after : Walked) (bytes piece : List ℕ)
    (s : WalkStands setting address before bytes) (t : WalkStands setting address after (bytes ++ piece)) (old new : State)
    → found_state before.listener.stage ≡ Some old → found_state after.listener.stage ≡ Some new
    → (to : Numbering) → NumbersBy to setting.context s.goes.signs old → NumberedOn to setting.context t.goes.signs new

-- law: and one under which the list of the whole page is told
abbrev pub ListIsNumbered : Type 0
ListIsNumbered = (setting : Setting) (address : Chars) (walk : Walked) (bytes piece : List ℕ) (s : WalkStands setting address walk bytes) (state : State)
    → found_state walk.listener.stage ≡ Some state → (to : Numbering) → NumbersBy to setting.context s.goes.signs state
    → (list : List CodeTriple) (e : WalkEnded setting address (bytes ++ piece) list) → MadeOn to setting.context address e.tree list
