use Rattle.rx_turtle.proofs.Common.{◌≡◌, ℕ, true, false, length, get_or, is_name_char}
use Rattle.rx_turtle.proofs.plain.Plain.new.Given as goal

abbrev pub invariant-loop-i : goal.invariant-loop-i
invariant-loop-i l = (length l.marks ≡ 256) × ((byte : ℕ) → get_or l.marks byte false ≡ true → is_name_char byte ≡ true)
