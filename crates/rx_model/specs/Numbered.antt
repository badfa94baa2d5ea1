-- Graphs that are the same but for the names of their blank nodes: RDF 1.1 Concepts, 3.6.
use Rattle.std.specs.Prelude.{◌≡◌, ℕ, suc, Bool, List, [], ◌∷◌, ◌++◌, map, flat_map, if◌then◌else◌}
use Rattle.rx_model.specs.Terms.{Node, Iri, Blank, Term, Resource, Literal, Triple, Graph, set_of}
use Rattle.rx_model.specs.Sets.{distinct, Among}

module _ {A B : Type 0} (to : A → B) where
  abbrev pub rename_node : Node A → Node B
  rename_node (Iri iri) = Iri iri
  rename_node (Blank b) = Blank (to b)

  abbrev pub rename_term : Term A → Term B
  rename_term (Resource node) = Resource (rename_node node)
  rename_term (Literal lexical kind) = Literal lexical kind

  abbrev pub rename : Triple A → Triple B
  rename t = record { subject = rename_node t.subject; predicate = t.predicate; object = rename_term t.object }

abbrev pub blank_of_node : {B : Type 0} → Node B → List B
blank_of_node (Iri iri) = []
blank_of_node (Blank b) = b ∷ []

abbrev pub blank_of_term : {B : Type 0} → Term B → List B
blank_of_term (Resource node) = blank_of_node node
blank_of_term (Literal lexical kind) = []

-- the blank nodes of a triple, subject before object
abbrev pub blanks_of : {B : Type 0} → Triple B → List B
blanks_of t = blank_of_node t.subject ++ blank_of_term t.object

-- the blank nodes of a list in order of occurrence
abbrev pub blanks : {B : Type 0} → List (Triple B) → List B
blanks list = flat_map blanks_of list

-- the place of the first that is alike, from 0
abbrev pub place_in : {B : Type 0} → (B → B → Bool) → List B → B → ℕ
place_in same [] b = 0
place_in same (x ∷ list) b = if same x b then 0 else suc (place_in same list b)

-- the blank nodes replaced by 0, 1, 2 in order of first occurrence (own rule)
abbrev pub numbered : {B : Type 0} → (B → B → Bool) → List (Triple B) → List (Triple ℕ)
numbered same list = map (rename (place_in same (distinct same (blanks list)))) list

-- some triple of the graph has the blank node
abbrev pub Has : {B : Type 0} → Graph B → B → Type 0
Has {B} g b = (t : Triple B) × g t × Among (blanks_of t) b

-- h is g with its blank nodes renamed one to one
pub record Renamed {A B : Type 0} (g : Graph A) (h : Graph B) : Type 0 where
  pub to : A → B
  pub one_to_one : (a b : A) → Has g a → Has g b → to a ≡ to b → a ≡ b
  pub forth : (t : Triple A) → g t → h (rename to t)
  pub back : (u : Triple B) → h u → (t : Triple A) × g t × (rename to t ≡ u)

-- law: numbering renames one to one
abbrev pub NumbersOneToOne : {B : Type 0} → (B → B → Bool) → Type 0
NumbersOneToOne {B} same = (list : List (Triple B)) → Renamed (set_of list) (set_of (numbered same list))
