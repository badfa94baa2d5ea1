-- Which text of a page is kept.
use Rattle.std.specs.Prelude.{◌≡◌, ◌-◌, ℕ, List, [], ◌∷◌, ◌++◌, map, length, take, Some, is_some, if◌then◌else◌}
use Rattle.rx_terms.specs.Text.{Chars}
use Rattle.rx_nest.specs.Signs.{Sign, begun, said, finished}
use Rattle.rx_eval.specs.States.{State, Frame}
use Rattle.rx_walk.specs.Settings.{Setting}
use Rattle.rx_walk.specs.Walks.{Walked, WalkStands, found_state}

-- the text so far of each open element, the outermost first
abbrev pub texts_on : List Chars → Sign → List Chars
texts_on texts (begun t) = texts ++ [] ∷ []
texts_on texts (said c) = map (λ text. text ++ c ∷ []) texts
texts_on texts finished = take (length texts - 1) texts

abbrev pub texts_after : List Chars → List Sign → List Chars
texts_after texts [] = texts
texts_after texts (sign ∷ signs) = texts_after (texts_on texts sign) signs

-- the text of the outermost element that gathers it, and none where no element does
abbrev pub gathered_text : List Frame → List Chars → Chars
gathered_text [] texts = []
gathered_text (frame ∷ frames) [] = []
gathered_text (frame ∷ frames) (text ∷ texts) = if is_some frame.text then text else gathered_text frames texts

-- law: once the base is known, the text that is kept is the text so far of the outermost open element that gathers it;
-- where none gathers, no text is kept
abbrev pub KeepsOneText : Type 0
KeepsOneText = (setting : Setting) (address : Chars) (walk : Walked) (bytes : List ℕ) (s : WalkStands setting address walk bytes) (state : State)
    → found_state walk.listener.stage ≡ Some state → state.kept ≡ gathered_text state.frames (texts_after [] s.goes.signs)
