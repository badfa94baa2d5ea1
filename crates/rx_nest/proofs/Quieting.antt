-- Turns on a quiet piece.
use Rattle.rx_nest.proofs.Common.{◌≡◌, ℕ, true, List, is_quiet, Nested, Sign, Way, QuietAt}
use Rattle.rx_nest.proofs.Turning.{GoesOn, Taken, TakenBy}

-- while a quiet piece is taken in parts
abbrev pub QuietTaken : {L : Type 0} → Way → (L → List Sign → Type 0) → (L → Type 0) → List ℕ → List ℕ → List ℕ → Nested → L → Type 0
QuietTaken way knows idle bytes piece rest nest listener = Taken (QuietAt way knows idle) bytes piece rest nest listener × (is_quiet rest ≡ true)

module _ {S L : Type 0} (way : S → Way) (knows : S → L → List Sign → Type 0) (idle : L → Type 0) where
  abbrev pub QuietOn : Nested → L → List ℕ → Nested → L → Type 0
  QuietOn nest listener piece new next = (setting : S) (bytes : List ℕ)
      → QuietAt (way setting) (knows setting) idle nest listener bytes → is_quiet piece ≡ true → QuietAt (way setting) (knows setting) idle new next bytes

  pub record TurnsOn (nest : Nested) (listener : L) (piece : List ℕ) (new : Nested) (next : L) : Type 0 where
    pub on : GoesOn way knows nest listener new next
    pub quiet : QuietOn nest listener piece new next

  abbrev pub QuietTakenBy : Nested → L → List ℕ → List ℕ → Nested → L → Type 0
  QuietTakenBy nest listener piece rest new next = (setting : S) (bytes : List ℕ)
      → QuietAt (way setting) (knows setting) idle nest listener bytes → is_quiet piece ≡ true → QuietTaken (way setting) (knows setting) idle bytes piece rest new next

  pub record TakesOn (nest : Nested) (listener : L) (piece rest : List ℕ) (new : Nested) (next : L) : Type 0 where
    pub taken : TakenBy way knows nest listener piece rest new next
    pub quiet : QuietTakenBy nest listener piece rest new next
