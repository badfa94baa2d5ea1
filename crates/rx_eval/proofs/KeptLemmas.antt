-- Which frames keep text, by the rules.
use Rattle.rx_rdfa.specs.Resources.{resources}
use Rattle.rx_rdfa.specs.Inherited.{below}
use Rattle.rx_eval.proofs.Common.{◌≡◌, ◌∙◌, Bool, true, false, List, [], ◌∷◌, ◌++◌, map, refl, sym, ap, ap₂, is_some, map-append, Chars, Path, Facts, Bnode, Owner, model, Standing, inherited, up, machine_begun, Call, FactsLine, after, line_after, no_line, standings_of, at_after, at_begun, Frame, State, Numbering, Layer, frames_in, LayersStand, RunsOrIsOver}
use Rattle.rx_eval.specs.Standing.{gathers_text}
use Rattle.rx_eval.specs.KeptTexts.{KeptTextsHold, gathering_along, gathering_after, KeepsWhereGathered}

abbrev keeps : Frame → Bool
keeps f = is_some f.text

-- of elements from the innermost on
abbrev gathering : Chars → List (Standing Bnode Owner) → List Bool
gathering base [] = []
gathering base (at ∷ more) = gathering base more ++ gathers_text model base at ∷ []

layers_keep : (to : Numbering) (base kept : Chars) (layers : List Layer) → LayersStand to base kept layers → map keeps (frames_in layers) ≡ gathering base (map (λ l. l.at) layers)
layers_keep to base kept [] h = refl
layers_keep to base kept (l ∷ lower) h =
    map-append keeps (frames_in lower) (l.frame ∷ []) ∙ ap₂ (λ (x : List Bool) (b : Bool). x ++ b ∷ []) (layers_keep to base kept lower h.1) h.0.gathers

along_line : (base : Chars) (line : List Facts) (path : Path) → gathering base (standings_of model base line path) ≡ gathering_along base line path
along_line base [] path = refl
along_line base (facts ∷ above) path =
    ap (λ (x : List Bool). x ++ gathers_text model base (record { facts = facts; path = path; around = inherited model base above (up path) }) ∷ []) (along_line base above (up path))

module _ (to : Numbering) (list : List Call) (state : State) where
  of_line : gathering state.base (after model state.base list machine_begun).standings ≡ gathering_after state.base list
  of_line =
      let line : FactsLine = line_after list no_line in
      ap (gathering state.base) (at_after model state.base list machine_begun no_line (at_begun model state.base)).standings ∙ along_line state.base line.facts line.path

  kept_in : (b : Bool) → RunsOrIsOver b to (after model state.base list machine_begun) state → map keeps state.frames ≡ gathering_after state.base list
  kept_in true p = ap (map keeps) p.frames ∙ ap (gathering state.base) (sym p.standings) ∙ of_line
  kept_in false p =
      ap (map keeps) p.by.frames ∙ layers_keep to state.base state.kept p.layers p.by.each ∙ ap (gathering state.base) (sym p.by.standings) ∙ of_line

pub keeps_where_gathered : KeepsWhereGathered
keeps_where_gathered to list state s = kept_in to list state state.ended s.phase

-- each worked line of open elements by computation
pub rows : KeptTextsHold
unfolding gathers_text resources below
rows = record { property = refl; property_and_content = refl; nested = refl }
