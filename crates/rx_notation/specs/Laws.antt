-- Laws of the layout, and those that join it with what a text denotes.
use Rattle.std.specs.Prelude.{◌≡◌, ℕ, true, List, map}
use Rattle.rx_model.specs.Common.{IsIri, Among, Triple}
use Rattle.rx_nquads.specs.Quads.{proper_triple}
use Rattle.rx_pieces.specs.Writable.{IsWritable}
use Rattle.rx_notation.specs.Short.{Prefix, Prefixes, names_rise}
use Rattle.rx_notation.specs.Layout.{used, those_among, prefixes_used, turtle}
use Rattle.rx_notation.specs.Spelling.{names_differ}
use Rattle.rx_notation.specs.Meaning.{Turtle}
use Rattle.rx_model.specs.Terms.{IsProper}

-- what a context's prefixes are: each name stands there once, and each has an IRI
pub record IsContext (context : Prefixes) : Type 0 where
  pub iris : (prefix : Prefix) → Among context prefix → IsIri prefix.1
  pub once : names_differ (map (λ (prefix : Prefix). prefix.0) context) ≡ true

-- law: the text of a list denotes the list's set, its triples as they are read; where no literal is typed xsd:string, they
-- are the list's
pub record LayoutDenotes : Type 0 where
  pub denotes : (context : Prefixes) (list : List (Triple ℕ)) → IsContext context → IsWritable list
      → Turtle (turtle context list) (map proper_triple list)
  pub stays : (list : List (Triple ℕ)) → ((t : Triple ℕ) → Among list t → IsProper t.object) → map proper_triple list ≡ list

-- law: where the names of a context rise in byte order, each stands there once, and the prefixes that a text uses are in
-- the context's order
pub record RisingContexts : Type 0 where
  pub once : (context : Prefixes) → names_rise context ≡ true → names_differ (map (λ (prefix : Prefix). prefix.0) context) ≡ true
  pub in_order : (context : Prefixes) (list : List (Triple ℕ)) → names_rise context ≡ true
      → prefixes_used context list ≡ those_among (used context list) context
