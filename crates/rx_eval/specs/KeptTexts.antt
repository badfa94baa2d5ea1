-- Which frames keep text, by the rules.
use Rattle.std.specs.Prelude.{◌≡◌, Bool, true, false, List, [], ◌∷◌, ◌++◌, map, Some, is_some, codes}
use Rattle.rx_rdfa.specs.Common.{Chars, Path, Facts, model, inherited, up, Call, line_after, no_line}
use Rattle.rx_curie.specs.Given.{no_facts}
use Rattle.rx_eval.specs.States.{State}
use Rattle.rx_eval.specs.Numbering.{Numbering}
use Rattle.rx_eval.specs.Standing.{gathers_text, EvaluatorStands}

-- of the elements of a line, from the root on, whether each gathers its text by the rules; the line's first element, the
-- innermost, stands at the path, and the others are those around it
abbrev pub gathering_along : Chars → List Facts → Path → List Bool
gathering_along base [] path = []
gathering_along base (facts ∷ above) path =
    gathering_along base above (up path)
    ++ gathers_text model base (record { facts = facts; path = path; around = inherited model base above (up path) }) ∷ []

-- of the elements that are open after some calls
abbrev pub gathering_after : Chars → List Call → List Bool
gathering_after base list = gathering_along base (line_after list no_line).facts (line_after list no_line).path

-- law: the frames that keep a text are, one for one from the root's on, those of the open elements that gather their text by
-- the rules
abbrev pub KeepsWhereGathered : Type 0
KeepsWhereGathered = (to : Numbering) (list : List Call) (state : State) → EvaluatorStands to list state
    → map (λ f. is_some f.text) state.frames ≡ gathering_after state.base list

-- the facts of an element with property, and of one with content beside it; `no_facts` are those of one that says nothing
abbrev pub saying : Facts
saying = record no_facts { property = Some (codes "name" ∷ []) }

abbrev pub quoting : Facts
quoting = record saying { content = Some (codes "given") }

-- law: worked lines of open elements, the innermost first. An element with property gathers its text, one with content
-- beside that doesn't, and neither changes what those around it gather.
pub record KeptTextsHold : Type 0 where
  pub property : gathering_along (codes "http://b.example/") (saying ∷ no_facts ∷ []) (0 ∷ 0 ∷ []) ≡ false ∷ true ∷ []
  pub property_and_content : gathering_along (codes "http://b.example/") (quoting ∷ no_facts ∷ []) (0 ∷ 0 ∷ []) ≡ false ∷ false ∷ []
  pub nested :
      gathering_along (codes "http://b.example/") (saying ∷ quoting ∷ saying ∷ no_facts ∷ []) (0 ∷ 0 ∷ 0 ∷ 0 ∷ [])
      ≡ false ∷ true ∷ false ∷ true ∷ []
