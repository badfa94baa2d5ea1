-- Blank nodes in order of first occurrence, from left to right: what numbering has at each place of a list.
use Rattle.std.specs.Prelude.{ℕ, ◌+◌, List, map, nat_eq}
use Rattle.rx_terms.specs.declared.triples.Blank.{Blank}
use Rattle.rx_model.specs.Numbered.{place_in}

-- how many blank nodes the pages before have, and those of a page so far
pub record BlankNumbers : Type 0 where
  pub before : ℕ
  pub here : List ℕ

-- the number of one of the page
abbrev pub number_at : BlankNumbers → ℕ → ℕ
number_at numbers b = numbers.before + place_in nat_eq numbers.here b

abbrev pub blank_numbers : List Blank → List ℕ
blank_numbers blanks = map (λ b. b.0) blanks
