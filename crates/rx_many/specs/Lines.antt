-- The lines of a document of several pages: RDF 1.1 Datasets, 2 and 3.3 (each page's graph is a named one), with blank nodes
-- that no two pages share (RDF 1.1 Semantics, 4.1: graphs are merged).
use Rattle.std.specs.Prelude.{ℕ, suc, Bool, false, ◌&&◌, List, [], ◌∷◌, ◌++◌, map, flat_map, nat_eq, bytes_eq, if◌then◌else◌}
use Rattle.rx_model.specs.Common.{Chars, contains, distinct, Triple, same_triple, rename, blanks_of, place_in}
use Rattle.rx_grammar.specs.declared.faults.Fault.{Fault}
use Rattle.rx_refs.specs.Resolve.{without_fragment}
use Rattle.rx_many.specs.Pages.{JudgedPage, Judgement, refused, accepted}

-- a line over any type B of blank nodes: that the page of this address is refused, or a triple in the graph of this name
pub data QuadLine (B : Type 0) : Type 0 where
  comment : Chars → Fault → QuadLine B
  statement : Chars → Triple B → QuadLine B

-- a blank node of a page, with the page's place in the list, so that two pages share none
abbrev pub PageBlank : Type 0
PageBlank = ℕ × ℕ

abbrev pub at_place : ℕ → ℕ → PageBlank
at_place place blank = (place, blank)

abbrev pub statement_at : ℕ → Chars → Triple ℕ → QuadLine PageBlank
statement_at place name t = statement name (rename (at_place place) t)

-- the graph's name is the address without its fragment
abbrev pub lines_by : ℕ → Chars → Judgement → List (QuadLine PageBlank)
lines_by place address (refused fault) = comment address fault ∷ []
lines_by place address (accepted triples) = map (statement_at place (without_fragment address)) triples

abbrev pub lines_of : ℕ → JudgedPage → List (QuadLine PageBlank)
lines_of place page = lines_by place page.address page.judgement

-- all lines of pages whose places begin here, page after page
abbrev pub lines_from : ℕ → List JudgedPage → List (QuadLine PageBlank)
lines_from place [] = []
lines_from place (page ∷ pages) = lines_of place page ++ lines_from (suc place) pages

-- ---- numbers of blank nodes

abbrev pub same_blank : PageBlank → PageBlank → Bool
same_blank a b = nat_eq a.0 b.0 && nat_eq a.1 b.1

abbrev pub line_blanks : {B : Type 0} → QuadLine B → List B
line_blanks (comment address fault) = []
line_blanks (statement name t) = blanks_of t

-- the blank nodes of all pages in order of first occurrence, whose places are their numbers
abbrev pub blank_table : List (QuadLine PageBlank) → List PageBlank
blank_table lines = distinct same_blank (flat_map line_blanks lines)

-- its place among these
abbrev pub blank_number : List PageBlank → PageBlank → ℕ
blank_number known blank = place_in same_blank known blank

abbrev pub rename_line : {A B : Type 0} → (A → B) → QuadLine A → QuadLine B
rename_line to (comment address fault) = comment address fault
rename_line to (statement name t) = statement name (rename to t)

abbrev pub numbered_lines : List (QuadLine PageBlank) → List (QuadLine ℕ)
numbered_lines lines = map (rename_line (blank_number (blank_table lines))) lines

-- ---- what is written

-- they state the same; no comment is the same as another, since each is of its own page
abbrev pub same_line : QuadLine ℕ → QuadLine ℕ → Bool
same_line (statement name t) (statement other u) = bytes_eq name other && same_triple nat_eq t u
same_line line other = false

-- the lines but for those that state what stands in an earlier line
abbrev pub kept_after : List (QuadLine ℕ) → List (QuadLine ℕ) → List (QuadLine ℕ)
kept_after earlier [] = []
kept_after earlier (line ∷ lines) = (if contains same_line earlier line then [] else line ∷ []) ++ kept_after (earlier ++ line ∷ []) lines

abbrev pub distinct_lines : List (QuadLine ℕ) → List (QuadLine ℕ)
distinct_lines lines = kept_after [] lines
