-- What a list of triples says of each subject, in order of first occurrence.
use Rattle.std.specs.Prelude.{ℕ, nat_eq, Bool, List, [], ◌∷◌, map, filter, bytes_eq, Option, Some, None}
use Rattle.rx_model.specs.Common.{Chars, distinct, Node, Term, Triple, same_node}

abbrev pub has_subject : Node ℕ → Triple ℕ → Bool
has_subject node t = same_node nat_eq t.subject node

abbrev pub has_predicate : Chars → Triple ℕ → Bool
has_predicate predicate t = bytes_eq t.predicate predicate

-- the subjects, in order of first occurrence as a subject
abbrev pub subjects : List (Triple ℕ) → List (Node ℕ)
subjects list = distinct (same_node nat_eq) (map (λ (t : Triple ℕ). t.subject) list)

-- the triples of a subject, in their order
abbrev pub about : List (Triple ℕ) → Node ℕ → List (Triple ℕ)
about list node = filter (has_subject node) list

-- a subject's predicates, in order of first occurrence
abbrev pub predicates_of : List (Triple ℕ) → Node ℕ → List Chars
predicates_of list node = distinct bytes_eq (map (λ (t : Triple ℕ). t.predicate) (about list node))

-- the objects of a subject's predicate, in their order
abbrev pub objects_of : List (Triple ℕ) → Node ℕ → Chars → List (Term ℕ)
objects_of list node predicate = map (λ (t : Triple ℕ). t.object) (filter (has_predicate predicate) (about list node))

abbrev pub first_member : {A : Type 0} → List A → Option A
first_member [] = None
first_member (a ∷ more) = Some a

-- the first object of a subject's predicate
abbrev pub object_at : List (Triple ℕ) → Node ℕ → Chars → Option (Term ℕ)
object_at list node predicate = first_member (objects_of list node predicate)
