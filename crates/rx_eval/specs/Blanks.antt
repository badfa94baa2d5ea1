-- Blank nodes by their numbers.
use Rattle.std.specs.Prelude.{ℕ, Bool, false, ◌||◌, ◌==◌, ◌+◌, Option, Some, None, if◌then◌else◌}
use Rattle.rx_rdfa.specs.Common.{Node, Iri, Blank, Resources}

-- the node is the blank node of the number
abbrev pub is_blank : Node ℕ → ℕ → Bool
is_blank (Iri iri) number = false
is_blank (Blank b) number = b == number

abbrev pub is_that_blank : Option (Node ℕ) → ℕ → Bool
is_that_blank None number = false
is_that_blank (Some node) number = is_blank node number

-- the number after that of a new node, if it is among the resources
abbrev pub number_after : Resources ℕ → ℕ → ℕ
number_after here fresh =
    if is_blank here.subject fresh || is_that_blank here.typed fresh || is_that_blank here.object fresh then fresh + 1 else fresh
