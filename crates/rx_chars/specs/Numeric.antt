-- Numeric character references (HTML Standard, 13.2.5.80, numeric character reference end state).
use Rattle.std.specs.Prelude.{ℕ, Bool, ◌||◌, ◌&&◌, ◌==◌, nat_le, nat_lt, List, [], ◌∷◌, Option, None, Some, option_map, unwrap_or, find, if◌then◌else◌}
use Rattle.rx_chars.specs.declared.syntax.Syntax.{Syntax}
use Rattle.rx_chars.specs.declared.syntax.Syntax.TheVariants.{Html, Xhtml}

-- what windows-1252 has at the numbers of C1 controls, and references give in HTML
abbrev pub numeric_table : List (ℕ × ℕ)
numeric_table =
    (0x80, 0x20AC) ∷ (0x82, 0x201A) ∷ (0x83, 0x0192) ∷ (0x84, 0x201E) ∷ (0x85, 0x2026) ∷ (0x86, 0x2020) ∷ (0x87, 0x2021)
    ∷ (0x88, 0x02C6) ∷ (0x89, 0x2030) ∷ (0x8A, 0x0160) ∷ (0x8B, 0x2039) ∷ (0x8C, 0x0152) ∷ (0x8E, 0x017D) ∷ (0x91, 0x2018)
    ∷ (0x92, 0x2019) ∷ (0x93, 0x201C) ∷ (0x94, 0x201D) ∷ (0x95, 0x2022) ∷ (0x96, 0x2013) ∷ (0x97, 0x2014) ∷ (0x98, 0x02DC)
    ∷ (0x99, 0x2122) ∷ (0x9A, 0x0161) ∷ (0x9B, 0x203A) ∷ (0x9C, 0x0153) ∷ (0x9E, 0x017E) ∷ (0x9F, 0x0178) ∷ []

-- the number is zero, a surrogate's or past the last code point (that such a reference is refused is an own rule)
abbrev pub is_refused : ℕ → Bool
is_refused n = n == 0 || (nat_le 0xD800 n && nat_le n 0xDFFF) || nat_lt 0x10FFFF n

-- the character in the table's row, or the number's own; XML 1.0, 4.1 has no table
abbrev pub character_of : Syntax → ℕ → ℕ
character_of Html n = unwrap_or (option_map (λ row. row.1) (find (λ row. row.0 == n) numeric_table)) n
character_of Xhtml n = n

-- the character that a reference by this number stands for
abbrev pub numeric : Syntax → ℕ → Option ℕ
numeric syntax n = if is_refused n then None else Some (character_of syntax n)
