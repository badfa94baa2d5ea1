-- The tokens of a nested text, apart from the prefixes, which are known only once all tokens are.
use Rattle.std.specs.Prelude.{ℕ, List, [], ◌++◌, map, flat_map, codes}
use Rattle.rx_model.specs.Common.{Chars, Kind, Node, Iri, Blank, Literal, kind_seen}
use Rattle.rx_graph.specs.Resources.{resource_seen}
use Rattle.rx_pieces.specs.Writable.{WritableText, WritableNode, WritableKind}
use Rattle.rx_notation.specs.Short.{Prefixes}
use Rattle.rx_notation.specs.Layout.{resource_text, object_text, iris_of_node, iris_of_kind}
use Rattle.rx_notation.specs.Syntax.{Labelled}
use Rattle.rx_notation.specs.Nesting.{subject_of, verb_of, suffix_of}
use Rattle.rx_notation.specs.Writing.{Piece, inside_gap, line_gap}
use Rattle.rx_notation.specs.Writing as piece
use Rattle.rx_turtle.specs.declared.tokens.Words.{Words}
use Rattle.rx_turtle.specs.declared.tokens.Words.TheVariants as fixed
use Rattle.rx_turtle.specs.declared.tokens.Token.{Token}
use Rattle.rx_turtle.specs.declared.tokens.Token.TheVariants as token
use Rattle.rx_turtle.specs.Verbs.{key_text, iris_of_verb}

-- words that are always the same, a subject or object, a predicate, a literal
pub data Shown : Type 0 where
  Fixed : Words → Shown
  IriOrLabel : Node ℕ → Shown
  Verb : Node ℕ → Shown
  Quoted : Chars → Kind → Shown

abbrev pub token_seen : Token → Shown
token_seen (token.Fixed words) = Fixed words
token_seen (token.IriOrLabel resource) = IriOrLabel (resource_seen resource)
token_seen (token.Verb resource) = Verb (resource_seen resource)
token_seen (token.Quoted literal) = Quoted literal.now.lexical (kind_seen literal.now.kind)

abbrev pub tokens_seen : List Token → List Shown
tokens_seen tokens = map token_seen tokens

abbrev pub words_text : Words → Chars
words_text fixed.Space = codes " "
words_text fixed.Comma = codes " , "
words_text fixed.LineGap = codes " ;" ++ line_gap
words_text fixed.InsideGap = codes " ;" ++ inside_gap
words_text fixed.Open = codes "[ "
words_text fixed.Close = codes " ]"
words_text fixed.OpenList = codes "( "
words_text fixed.CloseList = codes " )"
words_text fixed.Empty = codes "[]"
words_text fixed.Nil = codes "()"
words_text fixed.End = codes " .\n"

-- ---- the piece of a document that a token stands for; a predicate is no blank node

module _ (context : Prefixes) where
  abbrev pub verb_piece : Node ℕ → Piece
  verb_piece (Iri iri) = piece.verb (verb_of context iri)
  verb_piece (Blank number) = piece.subject (Labelled number)

  abbrev pub piece_of : Shown → Piece
  piece_of (Fixed words) = piece.words (words_text words)
  piece_of (IriOrLabel node) = piece.subject (subject_of context node)
  piece_of (Verb node) = verb_piece node
  piece_of (Quoted text kind) = piece.quoted text (suffix_of context kind)

  abbrev pub pieces_of : List Shown → List Piece
  pieces_of list = map piece_of list

  -- ---- how it is written

  abbrev pub shown_text : Shown → Chars
  shown_text (Fixed words) = words_text words
  shown_text (IriOrLabel node) = resource_text context node
  shown_text (Verb node) = key_text context node
  shown_text (Quoted text kind) = object_text context (Literal text kind)

  abbrev pub shown_texts : List Shown → Chars
  shown_texts list = flat_map shown_text list

-- ---- the IRIs that are written as such

abbrev pub iris_of_shown : Shown → List Chars
iris_of_shown (Fixed words) = []
iris_of_shown (IriOrLabel node) = iris_of_node node
iris_of_shown (Verb node) = iris_of_verb node
iris_of_shown (Quoted text kind) = iris_of_kind kind

-- ---- what can be written

abbrev pub WritableShown : Shown → Type 0
WritableShown (Fixed words) = Unit {0}
WritableShown (IriOrLabel node) = WritableNode node
WritableShown (Verb node) = WritableNode node
WritableShown (Quoted text kind) = WritableText text × WritableKind kind
