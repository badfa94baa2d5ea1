-- A document of which some lines are there.
use Rattle.std.specs.Prelude.{◌≡◌, ℕ, ◌<◌, ◌^◌, Bool, true, false, ◌+◌, List, [], ◌∷◌, ◌++◌, length, map, slice_get, Option, Some, MatchOption, Result, OnOk, encode_utf8_all}
use Rattle.rx_model.specs.Common.{Chars, Among, contains, Triple}
use Rattle.rx_grammar.specs.declared.faults.Fault.{Fault}
use Rattle.rx_nquads.specs.Lines.{written_lines}
use Rattle.rx_pieces.specs.Writable.{WritableIri, WritableTriple}
use Rattle.rx_many.specs.Blank.{has_blank}
use Rattle.rx_many.specs.Lines.{QuadLine, PageBlank, comment, statement, statement_at, at_place, same_blank, lines_of, blank_table, numbered_lines, same_line, distinct_lines}
use Rattle.rx_many.specs.Numbering.{BlankNumbers}
use Rattle.rx_many.specs.Pages.{JudgedPage}
use Rattle.rx_many.specs.Writing.{dataset_line, dataset_text}
use Rattle.rx_many.specs.declared.documents.Document.{Document}

-- what every comment of the code is: its address is an IRI, and its places are numbers of 64 bits
pub record WritableComment (address : Chars) (fault : Fault) : Type 0 where
  pub iri : WritableIri address
  pub at : fault.at < 2 ^ 64
  pub token : fault.token < 2 ^ 64

abbrev pub WritableLine : QuadLine ℕ → Type 0
WritableLine (comment address fault) = WritableComment address fault
WritableLine (statement name t) = WritableTriple (Some name) t

-- the text is that of the lines
pub record SpellsLines (text : List ℕ) (lines : List (QuadLine ℕ)) : Type 0 where
  pub spelled : text ≡ encode_utf8_all (dataset_text lines)
  pub writable : (line : QuadLine ℕ) → Among (distinct_lines lines) line → WritableLine line

-- these are the statements without blank nodes among the lines, in graphs of names that several pages have
abbrev pub HoldsShared : List Chars → List (QuadLine ℕ) → List (QuadLine ℕ) → Type 0
HoldsShared shared statements lines =
    (name : Chars) (t : Triple ℕ) → Among shared name → has_blank t ≡ false → contains same_line statements (statement name t) ≡ contains same_line lines (statement name t)

-- the document has the text of these lines, where these names are of several pages
pub record LinesStand (shared : List Chars) (document : Document) (lines : List (QuadLine PageBlank)) : Type 0 where
  pub spells : SpellsLines document.text.bytes (numbered_lines lines)
  pub holds : HoldsShared shared document.statements (numbered_lines lines)

-- and their blank nodes are counted
pub record DocumentStands (shared : List Chars) (document : Document) (lines : List (QuadLine PageBlank)) : Type 0 where
  pub counted : length (blank_table lines) ≡ document.blanks.before + length document.blanks.here
  pub stands : LinesStand shared document lines

-- no blank node of these is of the page at the place
abbrev pub AreBefore : ℕ → List PageBlank → Type 0
AreBefore place blanks = (b : ℕ) → contains same_blank blanks (at_place place b) ≡ false

-- the blank nodes of the page at the place come last in the table, in their order
pub record ComeLast (place : ℕ) (numbers : BlankNumbers) (blanks : List PageBlank) : Type 0 where
  pub front : List PageBlank
  pub is : blanks ≡ front ++ map (at_place place) numbers.here
  pub count : length front ≡ numbers.before
  pub apart : AreBefore place front

-- the document is that of lines of which the last are of the page at the place
pub record PageStands (shared : List Chars) (place : ℕ) (document : Document) (lines : List (QuadLine PageBlank)) : Type 0 where
  pub last : ComeLast place document.blanks (blank_table lines)
  pub stands : LinesStand shared document lines

-- the line was added at its end, where it isn't among them, and stands at this place
pub record IsAdded (old : List (QuadLine ℕ)) (line : QuadLine ℕ) (new : List (QuadLine ℕ)) (place : ℕ) : Type 0 where
  pub lacks : contains same_line old line ≡ false
  pub at : slice_get new place ≡ Some line
  pub within : place < length new

-- the place of a line that was added, or nothing where it is among them already
abbrev pub AddsWhereNew : List (QuadLine ℕ) → QuadLine ℕ → List (QuadLine ℕ) → Option ℕ → Type 0
AddsWhereNew old line new place = MatchOption place (contains same_line old line ≡ true) (λ i. IsAdded old line new i)

-- none is among those that stand before, but for what has no blank node in a graph that several pages have
abbrev pub AreNew : List Chars → List (QuadLine PageBlank) → List (QuadLine PageBlank) → Type 0
AreNew shared lines more = (name : Chars) (t : Triple PageBlank) → (Among shared name → has_blank t ≡ false → ⊥) → Among more (statement name t) → Among lines (statement name t) → ⊥

-- of whatever lines the document was, it is of these and those of the page that were added, which are new
abbrev pub AddsPage : {T E : Type 0} → Result T E → List Chars → Document → Document → JudgedPage → Type 0
AddsPage result shared old new page = (place : ℕ) (lines : List (QuadLine PageBlank)) → DocumentStands shared old lines → AreBefore place (blank_table lines) → AreNew shared lines (lines_of place page)
    → OnOk result (DocumentStands shared new (lines ++ lines_of place page))

-- the same of a comment
abbrev pub AddsComment : {T E : Type 0} → Result T E → Document → Document → List (QuadLine PageBlank) → Type 0
AddsComment result old new more = (shared : List Chars) (lines : List (QuadLine PageBlank)) → DocumentStands shared old lines → OnOk result (DocumentStands shared new (lines ++ more))

-- it tells whether several pages have the name
pub record TellsShared (is_shared : Bool) (shared : List Chars) (name : Chars) : Type 0 where
  pub yes : is_shared ≡ true → Among shared name
  pub no : is_shared ≡ false → Among shared name → ⊥

-- the same of triples of a page
abbrev pub AddsTriples : {T E : Type 0} → Result T E → Bool → Chars → Document → Document → List (Triple ℕ) → Type 0
AddsTriples result is_shared name old new triples = (shared : List Chars) (place : ℕ) (lines : List (QuadLine PageBlank)) → PageStands shared place old lines → TellsShared is_shared shared name
    → AreNew shared lines (map (statement_at place name) triples) → OnOk result (PageStands shared place new (lines ++ map (statement_at place name) triples))

-- the same of a triple that no other page states
abbrev pub AddsNew : {T E : Type 0} → Result T E → Chars → Document → Document → Triple ℕ → Type 0
AddsNew result name old new t = (shared : List Chars) (place : ℕ) (lines : List (QuadLine PageBlank)) → PageStands shared place old lines → (Among shared name → has_blank t ≡ false → ⊥)
    → (Among lines (statement_at place name t) → ⊥) → OnOk result (PageStands shared place new (lines ++ statement_at place name t ∷ []))

-- the same of a triple that other pages may state
abbrev pub AddsOnce : {T E : Type 0} → Result T E → Chars → Document → Document → Triple ℕ → Type 0
AddsOnce result name old new t = (shared : List Chars) (place : ℕ) (lines : List (QuadLine PageBlank)) → PageStands shared place old lines → Among shared name → has_blank t ≡ false
    → OnOk result (PageStands shared place new (lines ++ statement_at place name t ∷ []))

-- the line's text was added
pub record WritesLine (old : Document) (line : QuadLine ℕ) (new : Document) : Type 0 where
  pub text : new.text ≡ written_lines (old.text.bytes ++ encode_utf8_all (dataset_line line))
  pub writable : WritableLine line
  pub blanks : new.blanks ≡ old.blanks
  pub statements : new.statements ≡ old.statements
