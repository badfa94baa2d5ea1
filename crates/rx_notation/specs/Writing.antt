-- How a document of Turtle is written (the choice of the layout is our own): the lines of its prefixes, an empty line, and
-- its statements in pieces, which are words that are always the same, and terms.
use Rattle.std.specs.Prelude.{List, [], ◌∷◌, ◌++◌, flat_map, codes}
use Rattle.rx_terms.specs.Text.{Chars}
use Rattle.rx_pieces.specs.Writing.{string_text, iri_text, blank_text}
use Rattle.rx_notation.specs.Layout.{prefixes_text}
use Rattle.rx_notation.specs.Syntax.{Reference, Full, Short, Subject, Named, Labelled, Verb, By, Type_of, Suffix, Bare, Language, Datatype, Sort, Part, IriOrLabel, Quoted, Anonymous, Nil, Bracketed, Collection, Single, Comma, Last, Item, Predicate, Done, Semicolon, Also, Statement, TurtleDocument}

abbrev pub reference_text : Reference → Chars
reference_text (Full iri) = iri_text iri
reference_text (Short name local) = name ++ (codes ":" ++ local)

abbrev pub subject_text : Subject → Chars
subject_text (Named reference) = reference_text reference
subject_text (Labelled number) = blank_text number

abbrev pub verb_text : Verb → Chars
verb_text (By reference) = reference_text reference
verb_text Type_of = codes "a"

abbrev pub suffix_text : Suffix → Chars
suffix_text Bare = []
suffix_text (Language tag) = codes "@" ++ tag
suffix_text (Datatype reference) = codes "^^" ++ reference_text reference

pub data Piece : Type 0 where
  words : Chars → Piece
  subject : Subject → Piece
  verb : Verb → Piece
  quoted : Chars → Suffix → Piece

abbrev pub piece_text : Piece → Chars
piece_text (words chars) = chars
piece_text (subject s) = subject_text s
piece_text (verb v) = verb_text v
piece_text (quoted text suffix) = string_text text ++ suffix_text suffix

-- what stands between the semicolon behind a predicate and the next one: of a subject, and of a node in brackets
abbrev pub line_gap : Chars
line_gap = codes "\n    "

abbrev pub inside_gap : Chars
inside_gap = codes " "

-- the pieces of a part, and those that follow it, with this gap between its own predicates; where it has none the gap makes
-- no difference
abbrev pub pieces : {sort : Sort} → Chars → Part sort → List Piece → List Piece
pieces gap (IriOrLabel s) rest = subject s ∷ rest
pieces gap (Quoted text suffix) rest = quoted text suffix ∷ rest
pieces gap Anonymous rest = words (codes "[]") ∷ rest
pieces gap Nil rest = words (codes "()") ∷ rest
pieces gap (Bracketed predicates) rest = words (codes "[ ") ∷ pieces inside_gap predicates (words (codes " ]") ∷ rest)
pieces gap (Collection items) rest = words (codes "( ") ∷ pieces gap items (words (codes " )") ∷ rest)
pieces gap (Single object) rest = pieces gap object rest
pieces gap (Comma object objects) rest = pieces gap object (words (codes " , ") ∷ pieces gap objects rest)
pieces gap (Last object) rest = pieces gap object rest
pieces gap (Item object items) rest = pieces gap object (words (codes " ") ∷ pieces gap items rest)
pieces gap (Predicate v objects further) rest = verb v ∷ words (codes " ") ∷ pieces inside_gap objects (pieces gap further rest)
pieces gap Done rest = rest
pieces gap (Semicolon further) rest = words (codes " ;") ∷ pieces gap further rest
pieces gap (Also predicates) rest = words (codes " ;" ++ gap) ∷ pieces gap predicates rest

abbrev pub statement_pieces : Statement → List Piece → List Piece
statement_pieces s rest = subject s.subject ∷ words (codes " ") ∷ pieces line_gap s.predicates (words (codes " .\n") ∷ rest)

abbrev pub all_pieces : List Statement → List Piece
all_pieces [] = []
all_pieces (s ∷ more) = statement_pieces s (all_pieces more)

abbrev pub document_text : TurtleDocument → Chars
document_text document = prefixes_text document.prefixes ++ flat_map piece_text (all_pieces document.statements)
