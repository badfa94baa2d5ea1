-- Worked rows of Microdata's limits: how deep items may nest, and how many visits there may be.
use Rattle.std.specs.Prelude.{ℕ, zero, suc, List, [], ◌∷◌, ◌++◌, codes}
use Rattle.rx_terms.specs.Common.{String, Chars}
use Rattle.rx_rows.specs.Pages.{Row, row, wrong, items_text}

abbrev pub at : ℕ → ℕ → Row → List String
at nested visits r = wrong (items_text (record { nested = nested; visits = visits })) (r ∷ [])

abbrev pub wrong_at_small_bounds : List String
wrong_at_small_bounds =
    at 3 3 (row "a visit that is a cycle, too deep and one too many is a cycle"
    "<html><div itemscope itemref=\"a\"></div><i id=\"a\" itemprop=\"p\" itemscope itemref=\"b\"></i><i id=\"b\" itemprop=\"p\" itemscope itemref=\"a\"></i></html>"
    ("refused: Cycle at byte 83 in token 39" ∷ []))
    ++ at 2 2 (row "a visit that is too deep and one too many is too deep"
    "<html><div itemscope itemref=\"a\"></div><i id=\"a\" itemprop=\"p\" itemscope itemref=\"b\"></i><i id=\"b\" itemprop=\"p\" itemscope></i></html>"
    ("refused: ItemsTooNested at byte 120 in token 88" ∷ []))
    ++ at 40 3 (row "an item that is the value of two names is visited twice" "<html><div itemscope><i itemprop=\"p q\" itemscope></i></div><i itemscope></i></html>"
    ("refused: ItemsTooMany at byte 71 in token 59" ∷ []))
    ++ at 2 100000 (row "the third item on a path where two may be"
    "<html><i itemscope itemprop=\"p\"><i itemscope itemprop=\"p\"></i></i><i itemscope><i itemscope itemprop=\"p\"><i itemscope itemprop=\"p\"></i></i></i></html>"
    ("refused: ItemsTooNested at byte 130 in token 105" ∷ []))
    ++ at 3 100000 (row "three items on a path where three may be"
    "<html><i itemscope itemprop=\"p\"><i itemscope itemprop=\"p\"></i></i><i itemscope><i itemscope itemprop=\"p\"><i itemscope itemprop=\"p\"></i></i></i></html>"
    ("{\"items\":[{\"properties\":{\"p\":[{\"properties\":{\"p\":[{\"properties\":{}}]}}]}}]}" ∷ []))
    ++ at 40 3 (row "the fourth visit where three may be" "<html><i itemscope></i><i itemscope></i><i itemscope></i><i itemscope></i></html>"
    ("refused: ItemsTooMany at byte 69 in token 57" ∷ []))
    ++ at 40 4 (row "four visits where four may be" "<html><i itemscope></i><i itemscope></i><i itemscope></i><i itemscope></i></html>"
    ("{\"items\":[{\"properties\":{}},{\"properties\":{}},{\"properties\":{}},{\"properties\":{}}]}" ∷ []))
    ++ []

abbrev pub copies : ℕ → Chars → Chars
copies zero text = []
copies (suc n) text = text ++ copies n text

-- a path of 41 items, one more than may stand there
abbrev pub deep : Chars
deep = codes "<html><div itemscope>" ++ (copies 40 (codes "<div itemprop=\"p\" itemscope>") ++ (copies 41 (codes "</div>") ++ codes "</html>"))
