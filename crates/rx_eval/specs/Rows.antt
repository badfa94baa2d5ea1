-- Labels and their numbers, side by side.
use Rattle.std.specs.Prelude.{◌≡◌, ℕ, false, List, [], ◌∷◌, bytes_eq}
use Rattle.rx_terms.specs.Common.{list_any, Chars}
use Rattle.rx_eval.specs.Labels.{Numbered}

abbrev pub label_rows : List Chars → List ℕ → Numbered
label_rows [] numbers = []
label_rows (label ∷ labels) [] = []
label_rows (label ∷ labels) (number ∷ numbers) = (label, number) ∷ label_rows labels numbers

-- no label is this one
abbrev pub IsNew : Chars → List Chars → Type 0
IsNew label labels = list_any (λ l. bytes_eq l label) labels ≡ false
