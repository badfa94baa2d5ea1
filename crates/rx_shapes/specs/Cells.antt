-- What a cell of a list has: its item by rdf:first, and what comes after it by rdf:rest (RDF Schema 1.1, 5.2).
use Rattle.std.specs.Prelude.{ℕ, List, [], ◌∷◌, slice_get, bytes_eq, Option, Some, None, if◌then◌else◌}
use Rattle.rx_model.specs.Common.{option_or, Chars, Term, Triple, rdf_first, rdf_rest}
use Rattle.rx_shapes.specs.declared.cells.CellPart.{CellPart}
use Rattle.rx_shapes.specs.declared.cells.CellPart.TheVariants as part

-- the predicate of a part of a cell
abbrev pub predicate_of : CellPart → Chars
predicate_of part.Item = rdf_first
predicate_of part.Rest = rdf_rest

-- the object of a triple that has this predicate
abbrev pub object_if : Option (Triple ℕ) → Chars → Option (Term ℕ)
object_if (Some t) predicate = if bytes_eq t.predicate predicate then Some t.object else None
object_if None predicate = None

-- the object of the first triple at these places that has the predicate
abbrev pub object_among : List (Triple ℕ) → List ℕ → Chars → Option (Term ℕ)
object_among list [] predicate = None
object_among list (place ∷ more) predicate = option_or (object_if (slice_get list place) predicate) (object_among list more predicate)
