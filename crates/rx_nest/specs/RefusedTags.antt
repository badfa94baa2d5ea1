-- A start tag that is refused for what it means, by the grammar and by the reader.
use Rattle.std.specs.Prelude.{◌≡◌, ◌↔◌, ◌+◌, ℕ, List, ◌++◌, take, Some, None, Ok}
use Rattle.rx_grammar.specs.declared.faults.Fault.{Fault}
use Rattle.rx_grammar.specs.Common.{Page, Tree, Line, Phase, Begun}
use Rattle.rx_pages.specs.PageReader.{Progress, page_read}
use Rattle.rx_nest.specs.Signs.{sees, nothing_seen, signs_of}
use Rattle.rx_nest.specs.Ways.{Way, IsAtOne, IsRefusal}
use Rattle.rx_nest.specs.Faults.{MeaningAt}
use Rattle.rx_nest.specs.FaultPlaces.{BeginsRefused, IsAcceptedFront}

-- The bytes through the fault's place are the front of a page, with nothing unfinished; those before its token are one that shows no such tag. Each
-- page that begins with the first has a start tag there, which is the first that is refused.
pub record RefusesLast (way : Way) (bytes : List ℕ) (fault : Fault) : Type 0 where
  pub line : Line
  pub phase : Phase
  pub begun : Begun way.syntax way.limits (take (fault.at + 1) bytes) None line phase
  pub before : IsAcceptedFront way (take fault.token bytes)
  pub refused : BeginsRefused way (take (fault.at + 1) bytes) fault
  pub is_tag : (rest : List ℕ) (tree : Tree) → Page way.syntax way.limits (take (fault.at + 1) bytes ++ rest) tree → IsAtOne fault (signs_of tree)

-- The reader reads a front of the bytes, and shows a start tag that is refused, and none before it.
pub record ReaderRefuses (way : Way) (bytes : List ℕ) (fault : Fault) : Type 0 where
  pub front : List ℕ
  pub rest : List ℕ
  pub are : bytes ≡ front ++ rest
  pub now : Progress
  pub read : page_read way.syntax way.limits front ≡ Ok now
  pub refused : way.refused (sees nothing_seen now.told).signs ≡ Some fault

-- law: exactly the faults of a meaning are those that the reader shows, and each lies so
pub record IsRefusedTag (way : Way) (bytes : List ℕ) (fault : Fault) : Type 0 where
  pub shown : MeaningAt way bytes fault ↔ ReaderRefuses way bytes fault
  pub lies : MeaningAt way bytes fault → RefusesLast way bytes fault

abbrev pub RefusedTagsAreLast : Type 0
RefusedTagsAreLast = (way : Way) → IsRefusal way.refused → (bytes : List ℕ) (fault : Fault) → IsRefusedTag way bytes fault
