-- What is due: the tokens that are still to come, of which some are known and others come of an object or of a cell.
use Rattle.std.specs.Prelude.{◌≡◌, ℕ, zero, suc, List, [], ◌∷◌, ◌++◌, map, length, bytes_eq, Option, Some, None, Bool, true, false, if◌then◌else◌}
use Rattle.rx_model.specs.Common.{Chars, Among, term_seen, triples_seen, Node, Iri, Blank, Term, Resource, Literal, Triple, set_of, rdf_first, rdf_rest, rdf_nil}
use Rattle.rx_shapes.specs.Shapes.{Cell}
use Rattle.rx_shapes.specs.Table.{AreShapes, shape_in}
use Rattle.rx_shapes.specs.declared.shapes.Shape.{Shape}
use Rattle.rx_shapes.specs.declared.shapes.Shape.TheVariants as shape
use Rattle.rx_shapes.specs.Subjects.{about, object_at}
use Rattle.rx_notation.specs.Short.{Prefixes}
use Rattle.rx_notation.specs.Nesting.{written, is_top, statement_of, statements}
use Rattle.rx_notation.specs.Nesting as nesting
use Rattle.rx_notation.specs.Writing.{Piece, inside_gap, pieces, statement_pieces, all_pieces}
use Rattle.rx_turtle.specs.declared.stack.Task.{Task}
use Rattle.rx_turtle.specs.declared.stack.Task.TheVariants as task
use Rattle.rx_turtle.specs.declared.source.Source.{Source}
use Rattle.rx_turtle.specs.declared.tokens.Token.{Token}
use Rattle.rx_turtle.specs.declared.tokens.Words.{Words}
use Rattle.rx_turtle.specs.declared.tokens.Words.TheVariants as fixed
use Rattle.rx_turtle.specs.declared.keys.By.TheVariants as by
use Rattle.rx_turtle.specs.Groups.{Keyed, group_key, has_key}
use Rattle.rx_turtle.specs.Said.{said_of}
use Rattle.rx_turtle.specs.Tokens.{Shown, Fixed, IriOrLabel, Verb, Quoted, token_seen, tokens_seen, piece_of, pieces_of}

-- a token, an object, or what comes after an item of a collection, with this cell
pub data Due : Type 0 where
  Say : Shown → Due
  Object : Term ℕ → Due
  After : ℕ → Due

abbrev pub task_seen : Task → Due
task_seen (task.Say token) = Say (token_seen token)
task_seen (task.Object term) = Object (term_seen term.now)
task_seen (task.After cell) = After cell.0

-- the tasks of a stack, of which the last one is due first
abbrev pub due_on : List Task → List Due
due_on [] = []
due_on (t ∷ tasks) = due_on tasks ++ task_seen t ∷ []

-- the token is the first of what is due, and all behind that was put before what was due so far
abbrev pub BeginsDue : List Due → List Due → List Due → Token → Type 0
BeginsDue due old new token = Say (token_seen token) ∷ new ≡ due ++ old

-- ---- what is due of several things, with words between them

module _ {A : Type 0} (one : A → List Due) (gap : Words) where
  abbrev pub behind : List A → List Due
  behind [] = []
  behind (a ∷ more) = Say (Fixed gap) ∷ (one a ++ behind more)

  abbrev pub parted : List A → List Due
  parted [] = []
  parted (a ∷ more) = one a ++ behind more

abbrev pub object_due : Triple ℕ → List Due
object_due t = Object t.object ∷ []

abbrev pub objects_due : List (Triple ℕ) → List Due
objects_due triples = parted object_due fixed.Comma triples

-- a predicate with its objects
abbrev pub line_due : Keyed → List Due
line_due group = Say (Verb group.0) ∷ Say (Fixed fixed.Space) ∷ objects_due group.1

abbrev pub lines_due : Words → List Keyed → List Due
lines_due gap groups = parted line_due gap groups

-- ---- the same of triples in which those of one predicate stand side by side

-- a predicate, before its first object
abbrev pub verb_due : Triple ℕ → List Due
verb_due t = Say (Verb (group_key by.Predicate t)) ∷ Say (Fixed fixed.Space) ∷ []

-- a triple behind another
abbrev pub behind_due : Words → Triple ℕ → Triple ℕ → List Due
behind_due gap s t =
    if has_key by.Predicate (group_key by.Predicate t) s then Say (Fixed fixed.Comma) ∷ Object t.object ∷ []
    else Say (Fixed gap) ∷ (verb_due t ++ Object t.object ∷ [])

-- triples behind another
abbrev pub tail_due : Words → Triple ℕ → List (Triple ℕ) → List Due
tail_due gap s [] = []
tail_due gap s (t ∷ more) = behind_due gap s t ++ tail_due gap t more

-- the first of them
abbrev pub first_due : List (Triple ℕ) → List Due
first_due [] = []
first_due (t ∷ more) = verb_due t ++ Object t.object ∷ []

-- the one behind the one at this place
abbrev pub next_due : Words → ℕ → List (Triple ℕ) → List Due
next_due gap place [] = []
next_due gap zero (s ∷ []) = []
next_due gap zero (s ∷ t ∷ more) = behind_due gap s t
next_due gap (suc place) (s ∷ more) = next_due gap place more

-- those behind the one at this place
abbrev pub tail_at : Words → ℕ → List (Triple ℕ) → List Due
tail_at gap place [] = []
tail_at gap zero (s ∷ more) = tail_due gap s more
tail_at gap (suc place) (s ∷ more) = tail_at gap place more

-- ---- what is due of a node

abbrev pub bracket_due : List Keyed → List Due
bracket_due [] = Say (Fixed fixed.Empty) ∷ []
bracket_due (group ∷ more) = Say (Fixed fixed.Open) ∷ (lines_due fixed.InsideGap (group ∷ more) ++ Say (Fixed fixed.Close) ∷ [])

abbrev pub item_due : Option (Term ℕ) → List Due
item_due None = Say (Fixed fixed.Empty) ∷ []
item_due (Some o) = Object o ∷ []

abbrev pub rest_due : Option (Term ℕ) → List Due
rest_due None = []
rest_due (Some (Resource (Blank number))) = After number ∷ []
rest_due (Some (Resource (Iri iri))) = []
rest_due (Some (Literal text kind)) = []

abbrev pub iri_due : Chars → List Due
iri_due iri = if bytes_eq iri rdf_nil then Say (Fixed fixed.Nil) ∷ [] else Say (IriOrLabel (Iri iri)) ∷ []

abbrev pub statement_due : Node ℕ → List Keyed → List Due
statement_due subject groups = Say (IriOrLabel subject) ∷ Say (Fixed fixed.Space) ∷ (lines_due fixed.LineGap groups ++ Say (Fixed fixed.End) ∷ [])

module _ (list : List (Triple ℕ)) where
  -- the item of a cell, and what comes after it
  abbrev pub cell_due : ℕ → List Due
  cell_due number = item_due (object_at list (Blank number) rdf_first) ++ rest_due (object_at list (Blank number) rdf_rest)

  abbrev pub node_due : Shape → ℕ → List Due
  node_due shape.Labelled number = Say (IriOrLabel (Blank number)) ∷ []
  node_due shape.Inside number = bracket_due (said_of list (Blank number))
  node_due shape.Cell number = Say (Fixed fixed.OpenList) ∷ (cell_due number ++ Say (Fixed fixed.CloseList) ∷ [])

  module _ (shapes : ℕ → Shape) where
    abbrev pub term_due : Term ℕ → List Due
    term_due (Resource (Iri iri)) = iri_due iri
    term_due (Resource (Blank number)) = node_due (shapes number) number
    term_due (Literal text kind) = Say (Quoted text kind) ∷ []

    -- what a task comes to, with a token first
    abbrev pub opened : Due → List Due
    opened (Say token) = Say token ∷ []
    opened (Object o) = term_due o
    opened (After number) = Say (Fixed fixed.Space) ∷ cell_due number

  -- what comes after an item is a cell
  abbrev pub AreCells : List Due → Type 0
  AreCells [] = Unit {0}
  AreCells (Say token ∷ more) = AreCells more
  AreCells (Object o ∷ more) = AreCells more
  AreCells (After number ∷ more) = Cell (set_of list) number × AreCells more

-- ---- the pieces that are due

module _ (context : Prefixes) (list : List (Triple ℕ)) (shapes : ℕ → Shape) where
  abbrev pub one_due : Due → List Piece → List Piece
  one_due (Say token) rest = piece_of context token ∷ rest
  one_due (Object o) rest = pieces inside_gap (nesting.object_at context list shapes o) rest
  one_due (After number) rest = piece_of context (Fixed fixed.Space) ∷ pieces inside_gap (written context list shapes (length list) number).1 rest

  abbrev pub due_pieces : List Due → List Piece → List Piece
  due_pieces [] rest = rest
  due_pieces (d ∷ more) rest = one_due d (due_pieces more rest)

  abbrev pub one_said : Bool → Node ℕ → List Piece → List Piece
  one_said true node rest = statement_pieces (statement_of context list shapes node) rest
  one_said false node rest = rest

  -- the statements of those subjects that have one
  abbrev pub all_said : List Keyed → List Piece → List Piece
  all_said [] rest = rest
  all_said (group ∷ more) rest = one_said (is_top shapes group.0) group.0 (all_said more rest)

-- ---- the graph that is written

abbrev pub source_triples : Source → List (Triple ℕ)
source_triples source = triples_seen source.graph.now

abbrev pub shapes_of : Source → ℕ → Shape
shapes_of source = shape_in source.shapes.now

abbrev pub IsSource : Source → Type 0
IsSource source = AreShapes (source_triples source) source.shapes.now

-- the new tokens are the old ones, and then those that were due
pub record Comes (source : Source) (due : List Due) (old new : List Token) : Type 0 where
  pub each : (context : Prefixes) (rest : List Piece) → pieces_of context (tokens_seen new) ++ rest
      ≡ pieces_of context (tokens_seen old) ++ due_pieces context (source_triples source) (shapes_of source) due rest

-- the new tokens are the old ones, and then those of a subject's statement, where it has one
pub record AddsStatement (source : Source) (subject : Node ℕ) (old new : List Token) : Type 0 where
  pub each : (context : Prefixes) (rest : List Piece) → pieces_of context (tokens_seen new) ++ rest
      ≡ pieces_of context (tokens_seen old) ++ one_said context (source_triples source) (shapes_of source) (is_top (shapes_of source) subject) subject rest

-- these are the tokens of the graph's statements
pub record AreGraphTokens (source : Source) (tokens : List Token) : Type 0 where
  pub each : (context : Prefixes) → pieces_of context (tokens_seen tokens) ≡ all_pieces (statements context (source_triples source) (shapes_of source))

-- these are all of a subject's triples, and there are some
pub record IsSubject (list : List (Triple ℕ)) (subject : Node ℕ) (triples : List (Triple ℕ)) : Type 0 where
  pub all : triples ≡ about list subject
  pub some : Among (map (λ (t : Triple ℕ). t.subject) list) subject
