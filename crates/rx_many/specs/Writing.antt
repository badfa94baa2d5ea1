-- The document of several pages, character by character: N-Quads, with a comment for each page that is refused. The layout
-- and the comments are our own choice.
use Rattle.std.specs.Prelude.{ℕ, List, ◌++◌, codes, flat_map, Some}
use Rattle.rx_terms.specs.Common.{decimal, Chars}
use Rattle.rx_grammar.specs.declared.faults.Fault.{Fault}
use Rattle.rx_grammar.specs.Kinds.{kind_name}
use Rattle.rx_nquads.specs.Writing as nquads
use Rattle.rx_many.specs.Pages.{JudgedPage}
use Rattle.rx_many.specs.Lines.{QuadLine, comment, statement, lines_from, numbered_lines, distinct_lines}

-- a comment with the kind of the fault and its places, and an address; without the LF that ends the line
abbrev pub comment_with : Chars → ℕ → ℕ → Chars → Chars
comment_with kind at token address =
    codes "# refused: " ++ (kind ++ (codes " at byte " ++ (decimal at ++ (codes " in token " ++ (decimal token ++ (codes " of " ++ address))))))

abbrev pub comment_text : Chars → Fault → Chars
comment_text address fault = comment_with (kind_name fault.kind) fault.at fault.token address

abbrev pub dataset_line : QuadLine ℕ → Chars
dataset_line (comment address fault) = comment_text address fault ++ codes "\n"
dataset_line (statement name t) = nquads.line_text (Some name) t

-- the text of these lines, of which none states what an earlier one does
abbrev pub dataset_text : List (QuadLine ℕ) → Chars
dataset_text lines = flat_map dataset_line (distinct_lines lines)

-- the document of the pages: for each in order a comment, or a line for each of its quads that stands in no earlier line,
-- all blank nodes being numbered in order of first occurrence over all pages
abbrev pub pages_document : List JudgedPage → Chars
pages_document pages = dataset_text (numbered_lines (lines_from 0 pages))
