-- How a page is read whose triples are wanted, of what the code is given.
use Rattle.std.specs.Prelude.{ℕ, List, Option}
use Rattle.rx_grammar.specs.Common.{Chars, Syntax, Bor}
use Rattle.rx_terms.specs.declared.triples.Triple.{Triple as CodeTriple}
use Rattle.rx_nquads.specs.Graphs.{lent_name}
use Rattle.rx_job.specs.Words.{Extraction, Task, extracts, itemizes}
use Rattle.rx_job.specs.declared.formats.Format.{Format}
use Rattle.rx_nest.specs.Ways.{Way}
use Rattle.rx_page.specs.Settings.{rdfa_way, GivesList}
use Rattle.rx_command.specs.declared.pages.Approach.{Approach}

abbrev pub approach_way : Approach → Way
approach_way approach = rdfa_way approach.syntax approach.context

abbrev pub extraction_of : Approach → Format → Option (Bor Chars) → Extraction
extraction_of approach format graph =
    record { syntax = approach.syntax; format = format; graph = lent_name graph; address = approach.address }

-- the task of an extraction that reads a page so
abbrev pub extracts_by : Approach → Format → Option (Bor Chars) → Task
extracts_by approach format graph = extracts (extraction_of approach format graph)

-- the task of finding the items of a page
abbrev pub itemizes_by : Syntax → Chars → Task
itemizes_by syntax address = itemizes (record { syntax = syntax; address = address })

-- the page's list of triples
abbrev pub GivesListOf : Approach → List ℕ → List CodeTriple → Type 0
GivesListOf approach = GivesList approach.syntax approach.context approach.address
