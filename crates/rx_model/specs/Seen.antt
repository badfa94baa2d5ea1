-- The terms of the code as terms of the model, blank nodes being numbers.
use Rattle.std.specs.Prelude.{◌≡◌, ℕ, List, map}
use Rattle.rx_terms.specs.declared.literals.LiteralKind.{LiteralKind}
use Rattle.rx_terms.specs.declared.literals.LiteralKind.TheVariants as code_kind
use Rattle.rx_terms.specs.declared.triples.Node.{Node as CodeNode}
use Rattle.rx_terms.specs.declared.triples.Node.TheVariants as code_node
use Rattle.rx_terms.specs.declared.triples.Term.{Term as CodeTerm}
use Rattle.rx_terms.specs.declared.triples.Term.TheVariants as code_term
use Rattle.rx_terms.specs.declared.triples.Triple.{Triple as CodeTriple}
use Rattle.rx_model.specs.Terms.{Kind, Plain, Tagged, Typed, Node, Iri, Blank, Term, Resource, Literal, Triple}

abbrev pub kind_seen : LiteralKind → Kind
kind_seen code_kind.Plain = Plain
kind_seen (code_kind.Tagged tag) = Tagged tag
kind_seen (code_kind.Typed iri) = Typed iri

abbrev pub node_seen : CodeNode → Node ℕ
node_seen (code_node.Iri iri) = Iri iri
node_seen (code_node.Blank b) = Blank b.0

abbrev pub term_seen : CodeTerm → Term ℕ
term_seen (code_term.Iri iri) = Resource (Iri iri)
term_seen (code_term.Blank b) = Resource (Blank b.0)
term_seen (code_term.Literal literal) = Literal literal.lexical (kind_seen literal.kind)

abbrev pub triple_seen : CodeTriple → Triple ℕ
triple_seen t = record { subject = node_seen t.subject; predicate = t.predicate; object = term_seen t.object }

abbrev pub triples_seen : List CodeTriple → List (Triple ℕ)
triples_seen list = map triple_seen list

-- law: what is seen tells which it is
pub record SeenOneToOne : Type 0 where
  pub nodes : (a b : CodeNode) → node_seen a ≡ node_seen b → a ≡ b
  pub terms : (a b : CodeTerm) → term_seen a ≡ term_seen b → a ≡ b
  pub triples : (a b : CodeTriple) → triple_seen a ≡ triple_seen b → a ≡ b
  pub lists : (a b : List CodeTriple) → triples_seen a ≡ triples_seen b → a ≡ b
