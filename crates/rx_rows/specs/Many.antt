-- The worked row of a visit too many at the standard bounds, which is too long to be computed.
use Rattle.std.specs.Prelude.{◌≡◌, ℕ, zero, suc, ◌+◌, ◌*◌, false, [], ◌∷◌, codes}
use Rattle.rx_rdfa.specs.Common.{ItemsTooMany, StartTag, Tree, end, element}
use Rattle.rx_microdata.specs.Visits.{standard_bounds}
use Rattle.rx_microdata.specs.Json.{Refused, outcome}
use Rattle.rx_rows.specs.Pages.{here}

-- the tag of the k-th `<i itemscope></i>` behind `<html>`
abbrev pub tag_at : ℕ → StartTag
tag_at k = record { name = codes "i"; attributes = (codes "itemscope", []) ∷ []; slash = false; token = 6 + 17 * k; at = 18 + 17 * k }

-- n of them, the first being the k-th
abbrev pub many : ℕ → ℕ → Tree
many k zero = end
many k (suc n) = element (tag_at k) end (many (suc k) n)

abbrev pub html : StartTag
html = record { name = codes "html"; attributes = []; slash = false; token = 0; at = 5 }

-- the visit to the last one is one too many
abbrev pub ManyRefuse : Type 0
ManyRefuse = outcome standard_bounds here (element html (many 0 100001) end) ≡ Refused (record { kind = ItemsTooMany; token = 1700006; at = 1700018 })
