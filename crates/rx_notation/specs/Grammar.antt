-- The tokens of a document, by the productions of RDF 1.1 Turtle, 6.5.
use Rattle.std.specs.Prelude.{◌≡◌, List, [], ◌∷◌}
use Rattle.rx_terms.specs.Text.{Chars}
use Rattle.rx_notation.specs.Short.{Prefixes}
use Rattle.rx_notation.specs.Syntax.{Full, Subject, Named, Verb, By, Type_of, Suffix, Sort, Part, IriOrLabel, Quoted, Anonymous, Nil, Bracketed, Collection, Single, Comma, Last, Item, Predicate, Done, Semicolon, Also, Statement, TurtleDocument}

-- the tokens that are always spelled alike: `@prefix`, `a`, `.`, `;`, `,`, `[`, `]`, `[]`, `(`, `)` and `()`
pub data Terminal : Type 0 where
  At_prefix : Terminal
  Small_a : Terminal
  Full_stop : Terminal
  Semicolon_sign : Terminal
  Comma_sign : Terminal
  Left_bracket : Terminal
  Right_bracket : Terminal
  Brackets : Terminal
  Left_parenthesis : Terminal
  Right_parenthesis : Terminal
  Parentheses : Terminal

pub data TurtleToken : Type 0 where
  terminal : Terminal → TurtleToken
  -- the name of a prefix that is declared
  declared : Chars → TurtleToken
  -- an IRI or a blank node's label
  iri_or_label : Subject → TurtleToken
  -- a literal with its tag or datatype (own: one token)
  quoted : Chars → Suffix → TurtleToken

abbrev pub verb_token : Verb → TurtleToken
verb_token (By reference) = iri_or_label (Named reference)
verb_token Type_of = terminal Small_a

-- the tokens of a part, and those that follow it
abbrev pub part_tokens : {sort : Sort} → Part sort → List TurtleToken → List TurtleToken
part_tokens (IriOrLabel subject) rest = iri_or_label subject ∷ rest
part_tokens (Quoted text suffix) rest = quoted text suffix ∷ rest
part_tokens Anonymous rest = terminal Brackets ∷ rest
part_tokens Nil rest = terminal Parentheses ∷ rest
part_tokens (Bracketed predicates) rest = terminal Left_bracket ∷ part_tokens predicates (terminal Right_bracket ∷ rest)
part_tokens (Collection items) rest = terminal Left_parenthesis ∷ part_tokens items (terminal Right_parenthesis ∷ rest)
part_tokens (Single object) rest = part_tokens object rest
part_tokens (Comma object objects) rest = part_tokens object (terminal Comma_sign ∷ part_tokens objects rest)
part_tokens (Last object) rest = part_tokens object rest
part_tokens (Item object items) rest = part_tokens object (part_tokens items rest)
part_tokens (Predicate verb objects further) rest = verb_token verb ∷ part_tokens objects (part_tokens further rest)
part_tokens Done rest = rest
part_tokens (Semicolon further) rest = terminal Semicolon_sign ∷ part_tokens further rest
part_tokens (Also predicates) rest = terminal Semicolon_sign ∷ part_tokens predicates rest

-- [2] statement: triples, and a full stop
abbrev pub statement_tokens : List Statement → List TurtleToken
statement_tokens [] = []
statement_tokens (s ∷ more) = iri_or_label s.subject ∷ part_tokens s.predicates (terminal Full_stop ∷ statement_tokens more)

-- [4] prefixID: `@prefix`, the name, the IRI in full, and a full stop; with what follows
abbrev pub prefix_tokens : Prefixes → List TurtleToken → List TurtleToken
prefix_tokens [] rest = rest
prefix_tokens (prefix ∷ more) rest = terminal At_prefix ∷ declared prefix.0 ∷ iri_or_label (Named (Full prefix.1)) ∷ terminal Full_stop ∷ prefix_tokens more rest

abbrev pub document_tokens : TurtleDocument → List TurtleToken
document_tokens document = prefix_tokens document.prefixes (statement_tokens document.statements)

-- law: a list of tokens is that of at most one document
abbrev pub TokensOfOne : Type 0
TokensOfOne = (a b : TurtleDocument) → document_tokens a ≡ document_tokens b → a ≡ b
