-- What a text in N-Quads denotes: RDF 1.1 N-Quads, section 2, as far as it is read here (own choice).
use Rattle.std.specs.Prelude.{◌≡◌, ◌↔◌, ◌⊎◌, ℕ, Bool, true, not, ◌==◌, List, [], ◌∷◌, ◌++◌, flat_map, Option, Some, None}
use Rattle.rx_model.specs.Common.{list_all, line_feed, space, number_sign, full_stop, Chars, Among, Node}
use Rattle.rx_nquads.specs.Quads.{Quad}
use Rattle.rx_nquads.specs.Spelling.{SpellsIri, SpellsNode, SpellsTerm}

-- what follows an object and a space: a full stop, or a graph name, a space and a full stop
abbrev pub SpellsGraph : Chars → Option (Node ℕ) → Type 0
SpellsGraph spelling None = spelling ≡ full_stop ∷ []
SpellsGraph spelling (Some node) = (name : Chars) × SpellsNode name node × (spelling ≡ name ++ space ∷ full_stop ∷ [])

-- the line is a statement: subject, predicate, object, optionally a graph name, and a full stop, one space between neighbours
pub record States (line : Chars) (q : Quad) : Type 0 where
  pub subject : Chars
  pub predicate : Chars
  pub object : Chars
  pub rest : Chars
  pub subject_spelled : SpellsNode subject q.triple.subject
  pub predicate_spelled : SpellsIri predicate q.triple.predicate
  pub object_spelled : SpellsTerm object q.triple.object
  pub graph_spelled : SpellsGraph rest q.graph
  pub spelled : line ≡ subject ++ space ∷ (predicate ++ space ∷ (object ++ space ∷ rest))

-- the line says nothing: it is empty, or a comment
abbrev pub HasNoStatement : Chars → Type 0
HasNoStatement [] = Unit {0}
HasNoStatement (c ∷ line) = c ≡ number_sign

abbrev pub has_no_line_feed : Chars → Bool
has_no_line_feed line = list_all (λ c. not (c == line_feed)) line

-- the text with these lines, each ended by LF
abbrev pub joined_lines : List Chars → Chars
joined_lines lines = flat_map (λ line. line ++ line_feed ∷ []) lines

-- the text denotes the set of these quads: each of its lines is a comment, empty or a statement, and the quads are those
-- that some line states
pub record Nquads (text : Chars) (quads : List Quad) : Type 0 where
  pub lines : List Chars
  pub ended : text ≡ joined_lines lines
  pub unbroken : (line : Chars) → Among lines line → has_no_line_feed line ≡ true
  pub each : (line : Chars) → Among lines line → HasNoStatement line ⊎ ((q : Quad) × States line q)
  pub stated : (q : Quad) → Among quads q ↔ ((line : Chars) × Among lines line × States line q)

-- law: a line states at most one quad
abbrev pub StatesOne : Type 0
StatesOne = (line : Chars) (q r : Quad) → States line q → States line r → q ≡ r

-- law: a text denotes at most one set of quads
abbrev pub DenotesOne : Type 0
DenotesOne = (text : Chars) (xs ys : List Quad) → Nquads text xs → Nquads text ys → (q : Quad) → Among xs q ↔ Among ys q
