use Rattle.rx_items.proofs.Common.{◌≡◌, ℕ, List, option_map, drop, chars, IsUtf8, Chars, Placed, first_with_id, RowsAreNumbered, id_place, ShowsRows}
use Rattle.rx_items.proofs.ids.first_ids.Given as goal

abbrev pub invariant-loop-place : goal.invariant-loop-place
invariant-loop-place l =
    (gathered : Chars) (times : List Chars) (ps : List Placed) → ShowsRows l.words gathered times l.rows ps → RowsAreNumbered 0 ps
    → (text : List ℕ) → IsUtf8 text → id_place l.ids text ≡ option_map (λ (p : Placed). p.place) (first_with_id (drop l.place ps) (chars text))
