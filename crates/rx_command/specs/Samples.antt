-- The sample page, and the line that is said of it. Own.
use Rattle.std.specs.Prelude.{◌≡◌, ◌≤◌, ◌<◌, ◌⊎◌, ℕ, zero, suc, List, ◌++◌, length, Option, Some, None, encode_utf8_all, codes}
use Rattle.rx_grammar.specs.Common.{Chars, Html, PlacedCharacter, Tree, Line, Phase}
use Rattle.rx_model.specs.Common.{decimal, Triple}
use Rattle.rx_rdfa.specs.Standard as names
use Rattle.rx_rdfa.specs.Whole.{written}
use Rattle.rx_pages.specs.Fronts.{IsUnderway}
use Rattle.rx_nest.specs.ShownLines.{shown_line}
use Rattle.rx_nquads.specs.Writing.{nquads}
use Rattle.rx_walk.specs.Settings.{Setting}
use Rattle.rx_page.specs.Settings.{standard_limits, setting_for}
use Rattle.rx_ports.specs.Shelves.{ShelfContent}
use Rattle.rx_job.specs.Words.{job, samples, most_items}
use Rattle.rx_page.specs.Tasks.{IsAccepted, facts_in}
use Rattle.rx_command.specs.Outcome.{HasPageText, HasPageGraph}
use Rattle.rx_command.specs.Gathering.{GatheredText, GatheredGraphs}
use Rattle.rx_microdata.specs.Base.{base_in}

-- what stands before the items
abbrev pub head : List ℕ
head = codes "<!DOCTYPE html>\n<html vocab=\"http://schema.org/\">\n<body typeof=\"ItemList\">\n"

-- an item before the end tag of its name, and from there on
abbrev pub item_before : ℕ → List ℕ
item_before i = codes "<div property=\"itemListElement\" typeof=\"Product\"><span property=\"name\">Item " ++ decimal i

abbrev pub item_behind : List ℕ
item_behind = codes "</span></div>\n"

-- what stands behind the items
abbrev pub behind_items : List ℕ
behind_items = codes "</body>\n</html>\n"

-- the page up to the end of so many items
abbrev pub items_to : ℕ → List ℕ
items_to zero = head
items_to (suc i) = items_to i ++ (item_before i ++ item_behind)

-- the page of so many items
abbrev pub sample_page : ℕ → List ℕ
sample_page count = items_to count ++ behind_items

-- the page up to the end tag of the name of item i, where a piece ends
abbrev pub cut_in : ℕ → List ℕ
cut_in i = items_to i ++ item_before i

-- where a piece of the page ends: before the end tag of the name of each item, and at the page's end
pub data IsCut (count : ℕ) : List ℕ → Type 0 where
  in_item : (i : ℕ) → i < count → IsCut count (cut_in i)
  at_end : IsCut count (sample_page count)

-- so many elements are open behind these bytes of a page, by the grammar: those that the page's tree shows
pub record HasDepth (bytes : List ℕ) (depth : ℕ) : Type 0 where
  pub line : Line
  pub phase : Phase
  pub run : List PlacedCharacter
  pub part : List ℕ
  pub underway : IsUnderway Html standard_limits bytes line phase run part
  pub is : depth ≡ length (shown_line Html line)

-- the most elements that are open where a piece of the page ends
pub record IsDeepest (count depth : ℕ) : Type 0 where
  pub bytes : List ℕ
  pub cut : IsCut count bytes
  pub has : HasDepth bytes depth
  pub most : (others : List ℕ) → IsCut count others → (other : ℕ) × HasDepth others other × (other ≤ depth)

-- The page of each number that may be asked for is one of the grammar, and no start tag of it is refused.
abbrev pub SamplesArePages : Type 0
SamplesArePages = (count : ℕ) → count ≤ most_items → (tree : Tree) × IsAccepted Html names.standard (sample_page count) tree

-- how a sample is read, and at which address
abbrev pub sample_setting : Setting
sample_setting = setting_for Html names.standard

abbrev pub sample_address : Chars
sample_address = codes "http://localhost/"

-- the triples that RDFa's rules give the tree, as they are written
abbrev pub triples_in : Tree → List (Triple ℕ)
triples_in tree = written (base_in sample_address tree) (facts_in names.standard tree)

-- a line with these numbers: how many items, how many bytes the page has, how many triples it gives, how many bytes their
-- text has, and how deep the page is
abbrev pub line_with : ℕ → ℕ → ℕ → ℕ → ℕ → List ℕ
line_with count size triples output depth =
    codes "sample " ++ (decimal count ++ (codes ": " ++ (decimal size ++ (codes " bytes, " ++ (decimal triples
    ++ (codes " triples, " ++ (decimal output ++ (codes " output bytes, depth " ++ (decimal depth ++ codes "\n")))))))))

-- the line that is said of a page of so many items and of this depth with these triples
abbrev pub line_for : ℕ → ℕ → List (Triple ℕ) → List ℕ
line_for count depth triples = line_with count (length (sample_page count)) (length triples) (length (encode_utf8_all (nquads triples None))) depth

-- the line says how large the page is, how many triples RDFa's rules give it, how large their text is, and how deep the
-- page is
pub record IsSample (count : ℕ) (line : List ℕ) : Type 0 where
  pub tree : Tree
  pub is : IsAccepted Html names.standard (sample_page count) tree
  pub depth : ℕ
  pub deepest : IsDeepest count depth
  pub spelled : line ≡ line_for count depth (triples_in tree)

-- the words ask for a sample, of which this line is said
pub record SaysOfSample (words : List Chars) (line : List ℕ) : Type 0 where
  pub count : ℕ
  pub asks : job words ≡ Some (samples count)
  pub is : IsSample count line

-- the outcome is this text
abbrev pub Yields : List Chars → Option ShelfContent → List ℕ → Type 0
Yields words told text = HasPageText words told text ⊎ (SaysOfSample words text ⊎ GatheredText words told text)

-- the outcome is this text, which, where pages are read, denotes exactly their graphs
abbrev pub YieldsGraph : List Chars → Option ShelfContent → List ℕ → Type 0
YieldsGraph words told text = HasPageGraph words told text ⊎ (SaysOfSample words text ⊎ GatheredGraphs words told text)

-- the outcome is this text, and it denotes what it has to
abbrev pub YieldsBoth : List Chars → Option ShelfContent → List ℕ → Type 0
YieldsBoth words told text = Yields words told text × YieldsGraph words told text
