-- What is known of the IRIs of a text.
use Rattle.std.specs.Prelude.{◌≡◌, ℕ, nat_eq, List, get_or, Option, Some, None, if◌then◌else◌}
use Rattle.rx_terms.specs.Common.{pointwise, Chars}
use Rattle.rx_notation.specs.Short.{Prefixes}
use Rattle.rx_turtle.specs.declared.known.Entry.{Entry}
use Rattle.rx_turtle.specs.declared.known.Entry.TheVariants.{Empty, Kept}
use Rattle.rx_turtle.specs.declared.places.Places.{Places}
use Rattle.rx_turtle.specs.Shorts.{prefix_place}
use Rattle.rx_turtle.specs.Places.{Finds}

-- what the entry tells of the IRI
abbrev pub place_kept : Entry → Chars → Option (Option ℕ)
place_kept Empty iri = None
place_kept (Kept hash kept place) iri = if pointwise nat_eq kept.now iri then Some place else None

-- what is kept of an IRI is what is found for it
abbrev pub IsEntry : (Chars → Option ℕ) → Entry → Type 0
IsEntry found Empty = Unit {0}
IsEntry found (Kept hash kept place) = place ≡ found kept.now

pub record AreEntries (found : Chars → Option ℕ) (entries : List Entry) : Type 0 where
  pub each : (i : ℕ) → IsEntry found (get_or entries i Empty)

-- the index finds the prefixes of the context, and what is known of IRIs is the place of its prefix
pub record Shortens (context : Prefixes) (places : Places) (known : List Entry) : Type 0 where
  pub finds : Finds 0 context places
  pub entries : AreEntries (prefix_place context) known
