-- How the pages of worked rows are read, and the text that is right for each.
use Rattle.std.specs.Prelude.{ℕ, List, [], ◌∷◌, ◌++◌, None, Result, Ok, Err, codes, flat_map, bytes_eq, encode_utf8_all, if◌then◌else◌}
use Rattle.rx_terms.specs.Common.{String, Chars}
use Rattle.rx_chars.specs.Named.{named_table}
use Rattle.rx_grammar.specs.Kinds.{refused_line}
use Rattle.rx_grammar.specs.declared.limits.Limits.{Limits}
use Rattle.rx_grammar.specs.declared.faults.Fault.{Fault}
use Rattle.rx_grammar.specs.Common.{Syntax, Html, StartTag, Tree, end, element, text}
use Rattle.rx_rdfa.specs.Common.{standard, with_facts, base_of, written}
use Rattle.rx_grammar.specs.Trees.{Nodes}
use Rattle.rx_rdfa.specs.Tree.{ElementTag}
use Rattle.rx_rdfa.specs.Pages.{tags_of}
use Rattle.rx_rdfa.specs.Resources.{resources}
use Rattle.rx_rdfa.specs.Inherited.{below}
use Rattle.rx_rdfa.specs.Times.{time_kind}
use Rattle.rx_rdfa.specs.Element.{start_of, end_of as element_end}
use Rattle.rx_rdfa.specs.Lists.{entries_at, cells}
use Rattle.rx_pages.specs.Nesting.{told_trees}
use Rattle.rx_pages.specs.PageReader.{Progress, page_read, page_ended}
use Rattle.rx_refs.specs.Parts.{components_of}
use Rattle.rx_refs.specs.Dots.{step, without_dots}
use Rattle.rx_refs.specs.Resolve.{target, resolved}
use Rattle.rx_microdata.specs.Visits.{Bounds}
use Rattle.rx_microdata.specs.Json.{Outcome, Given, Refused, outcome}
use Rattle.rx_nquads.specs.Writing.{nquads}
use Rattle.json.specs.Print.{escape_byte}
use Rattle.serde_json.specs.Written.{compact_text}
use Rattle.std.specs.Fmt.{digits}
use lib.Utf8.{encode}

-- 512 levels, tags of 1 MiB, pages of 1 GiB
abbrev pub limits : Limits
limits = record { depth = 512; tag = 1048576; page = 1073741824 }

abbrev pub first_tree : List Tree → Tree
first_tree [] = end
first_tree (tree ∷ trees) = tree

-- a start tag with its attributes' values, in brackets
abbrev pub tag_text : StartTag → Chars
tag_text t =
    codes "[" ++ t.name ++ flat_map (λ (a : Chars × Chars). codes " " ++ a.0 ++ codes "=" ++ a.1) t.attributes ++ (if t.slash then codes "/]" else codes "]")

-- elements, each ended by a slash, and the text between
abbrev pub nodes_text : Tree → Chars
nodes_text end = []
nodes_text (element t inside rest) = tag_text t ++ nodes_text inside ++ codes "/" ++ nodes_text rest
nodes_text (text chars rest) = chars ++ nodes_text rest

-- what is said of the page's tree, or its fault: a page that is refused has no other text
abbrev pub said_of : (Tree → List ℕ) → Result Progress Fault → List ℕ
said_of tell (Ok progress) = tell (first_tree (told_trees progress.told))
said_of tell (Err fault) = refused_line fault

abbrev pub page_text : (Tree → List ℕ) → Syntax → Limits → List ℕ → List ℕ
page_text tell syntax limits page = said_of tell (page_ended (page_read syntax limits page))

-- what a page is read as
unfoldable pub tree_text : Syntax → Limits → List ℕ → List ℕ
unfolding encode digits named_table
tree_text syntax limits page = page_text (λ tree. encode_utf8_all (nodes_text tree) ++ codes "\n") syntax limits page

-- the address of a page that names no other
abbrev pub here : Chars
here = codes "http://h.example/d"

abbrev pub triples_of : Chars → Nodes ElementTag → Chars
triples_of address tree = nquads (written (base_of tree address) (with_facts standard [] tree)) None

-- the N-Quads of what is written of a page in HTML at an address, in order
unfoldable pub triples_text : Chars → Chars → List ℕ
unfolding encode digits named_table time_kind components_of step without_dots target resolved resources below start_of element_end entries_at cells
triples_text address page = page_text (λ tree. encode_utf8_all (triples_of address (tags_of tree))) Html limits (encode_utf8_all page)

abbrev pub outcome_text : Outcome → List ℕ
outcome_text (Given value) = compact_text value ++ codes "\n"
outcome_text (Refused fault) = refused_line fault

-- the JSON of the items of a page in HTML, or their fault
unfoldable pub items_text : Bounds → Chars → List ℕ
unfolding encode digits named_table components_of step without_dots target resolved escape_byte
items_text bounds page = page_text (λ tree. outcome_text (outcome bounds here tree)) Html limits (encode_utf8_all page)

-- a row: its name, a page, and the lines of the text that is right for it
pub record Row : Type 0 where
  pub name : String
  pub page : String
  pub lines : List String

abbrev pub row : String → String → List String → Row
row name page lines = record { name = name; page = page; lines = lines }

abbrev pub text_of_lines : List String → List ℕ
text_of_lines lines = flat_map (λ line. encode_utf8_all (codes line) ++ codes "\n") lines

-- the names of the rows that have another text
abbrev pub wrong : (Chars → List ℕ) → List Row → List String
wrong text_of [] = []
wrong text_of (r ∷ rows) = if bytes_eq (text_of (codes r.page)) (text_of_lines r.lines) then wrong text_of rows else r.name ∷ wrong text_of rows
