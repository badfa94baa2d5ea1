-- Which row an element is: how many rows stand before its place.
use Rattle.std.specs.Prelude.{ℕ, zero, suc, Bool, List, [], ◌∷◌, ◌++◌}
use Rattle.rx_grammar.specs.Trees.{Tree, end, element, text}
use Rattle.rx_microdata.specs.Facts.{facts_of}
use Rattle.rx_items.specs.Rows.{matters, behind_row}

-- of each element in document order whether it is a row
abbrev pub marks : Tree → List Bool
marks end = []
marks (element tag inner more) = matters (facts_of tag inner) ∷ (marks inner ++ marks more)
marks (text chars more) = marks more

-- how many of the first ones are rows
abbrev pub rank_in : List Bool → ℕ → ℕ
rank_in [] place = 0
rank_in (mark ∷ marks) zero = 0
rank_in (mark ∷ marks) (suc place) = behind_row mark (rank_in marks place)
