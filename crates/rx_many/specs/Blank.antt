-- Whether a triple has a blank node.
use Rattle.std.specs.Prelude.{Bool, true, false, ◌||◌}
use Rattle.rx_model.specs.Terms.{Node, Iri, Blank, Term, Resource, Literal, Triple}

abbrev pub is_blank_node : {B : Type 0} → Node B → Bool
is_blank_node (Iri iri) = false
is_blank_node (Blank b) = true

abbrev pub is_blank_term : {B : Type 0} → Term B → Bool
is_blank_term (Resource node) = is_blank_node node
is_blank_term (Literal lexical kind) = false

abbrev pub has_blank : {B : Type 0} → Triple B → Bool
has_blank t = is_blank_node t.subject || is_blank_term t.object
