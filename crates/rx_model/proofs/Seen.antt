-- What is seen of a term tells which it is.
use Rattle.rx_model.proofs.Common.{◌≡◌, ℕ, List, [], ◌∷◌, ap, ap₂, refl, Triple, kind_seen, node_seen, term_seen, triple_seen, triples_seen, SeenOneToOne}
use Rattle.rx_terms.specs.declared.literals.LiteralKind.{LiteralKind}
use Rattle.rx_terms.specs.declared.literals.LiteralKind.TheVariants as code_kind
use Rattle.rx_terms.specs.declared.literals.Literal.{Literal as CodeLiteral}
use Rattle.rx_terms.specs.declared.triples.Blank.{Blank as CodeBlank}
use Rattle.rx_terms.specs.declared.triples.Node.{Node as CodeNode}
use Rattle.rx_terms.specs.declared.triples.Node.TheVariants as code_node
use Rattle.rx_terms.specs.declared.triples.Term.{Term as CodeTerm}
use Rattle.rx_terms.specs.declared.triples.Term.TheVariants as code_term
use Rattle.rx_terms.specs.declared.triples.Triple.{Triple as CodeTriple}

kinds : (a b : LiteralKind) → kind_seen a ≡ kind_seen b → a ≡ b
kinds code_kind.Plain code_kind.Plain e = refl
kinds (code_kind.Tagged a) (code_kind.Tagged b) e = ap code_kind.Tagged (cc)
kinds (code_kind.Typed a) (code_kind.Typed b) e = ap code_kind.Typed (cc)
kinds _ _ e = cc

number_tells : (a b : CodeBlank) → a.0 ≡ b.0 → a ≡ b
number_tells a b e = λ i. record { 0 = e i }

literal_path : (a b : CodeLiteral) → a.lexical ≡ b.lexical → a.kind ≡ b.kind → a ≡ b
literal_path a b p q = λ i. record { lexical = p i; kind = q i }

triple_path : (a b : CodeTriple) → a.subject ≡ b.subject → a.predicate ≡ b.predicate → a.object ≡ b.object → a ≡ b
triple_path a b p q r = λ i. record { subject = p i; predicate = q i; object = r i }

pub node_tells : (a b : CodeNode) → node_seen a ≡ node_seen b → a ≡ b
node_tells (code_node.Iri a) (code_node.Iri b) e = ap code_node.Iri (cc)
node_tells (code_node.Blank a) (code_node.Blank b) e = ap code_node.Blank (number_tells a b (cc))
node_tells _ _ e = cc

pub term_tells : (a b : CodeTerm) → term_seen a ≡ term_seen b → a ≡ b
term_tells (code_term.Iri a) (code_term.Iri b) e = ap code_term.Iri (cc)
term_tells (code_term.Blank a) (code_term.Blank b) e = ap code_term.Blank (number_tells a b (cc))
term_tells (code_term.Literal a) (code_term.Literal b) e = ap code_term.Literal (literal_path a b (cc) (kinds a.kind b.kind (cc)))
term_tells _ _ e = cc

pub triple_tells : (a b : CodeTriple) → triple_seen a ≡ triple_seen b → a ≡ b
triple_tells a b e = triple_path a b
    (node_tells a.subject b.subject (ap (λ (t : Triple ℕ). t.subject) e))
    (ap (λ (t : Triple ℕ). t.predicate) e)
    (term_tells a.object b.object (ap (λ (t : Triple ℕ). t.object) e))

pub list_tells : (a b : List CodeTriple) → triples_seen a ≡ triples_seen b → a ≡ b
list_tells [] [] e = refl
list_tells (a ∷ as') (b ∷ bs) e = ap₂ ◌∷◌ (triple_tells a b (cc)) (list_tells as' bs (cc))
list_tells _ _ e = cc

pub seen_one_to_one : SeenOneToOne
seen_one_to_one = record { nodes = node_tells; terms = term_tells; triples = triple_tells; lists = list_tells }
