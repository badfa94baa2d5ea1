-- The calls by which a tree is handed to a reader, and the front of a tree that some calls are.
use Rattle.std.specs.Prelude.{◌≡◌, ℕ, suc, List, [], ◌∷◌, ◌++◌, length}
use Rattle.rx_terms.specs.Text.{Chars}
use Rattle.rx_grammar.specs.Trees.{Nodes, end, element, text}
use Rattle.rx_rdfa.specs.Naming.{Path, Naming}
use Rattle.rx_rdfa.specs.Blanks.{Bnode, Owner, model}
use Rattle.rx_rdfa.specs.Facts.{Facts}
use Rattle.rx_rdfa.specs.Inherited.{inherited}
use Rattle.rx_rdfa.specs.Machine.{Machine, inherit, enter, read, leave, run, machine_begun}

pub data Call : Type 0 where
  Enter : Facts → Call
  Read : Chars → Call
  Leave : Call

-- the calls for some nodes
abbrev pub calls : Nodes Facts → List Call
calls end = []
calls (element facts inside rest) = Enter facts ∷ (calls inside ++ (Leave ∷ calls rest))
calls (text chars rest) = Read chars ∷ calls rest

module _ {B O : Type 0} (naming : Naming B O) (base : Chars) where
  abbrev pub step : Call → Machine B O → Machine B O
  step (Enter facts) m = enter naming base facts m
  step (Read chars) m = read chars m
  step Leave m = leave naming base m

  abbrev pub after : List Call → Machine B O → Machine B O
  after [] m = m
  after (call ∷ more) m = after more (step call m)

-- the elements that are open after some calls: their facts from the innermost on, its path, and the number of the next
-- element inside it
pub record FactsLine : Type 0 where
  pub facts : List Facts
  pub path : Path
  pub next : ℕ

abbrev pub closed_line : FactsLine → List Facts → Path → FactsLine
closed_line line [] path = line
closed_line line (f ∷ above) [] = line
closed_line line (f ∷ above) (i ∷ path) = record { facts = above; path = path; next = suc i }

abbrev pub move : Call → FactsLine → FactsLine
move (Enter facts) line = record { facts = facts ∷ line.facts; path = line.next ∷ line.path; next = 0 }
move (Read chars) line = line
move Leave line = closed_line line line.facts line.path

abbrev pub line_after : List Call → FactsLine → FactsLine
line_after [] line = line
line_after (call ∷ more) line = line_after more (move call line)

abbrev pub no_line : FactsLine
no_line = record { facts = []; path = []; next = 0 }

-- after the calls there is one frame for each open element, and the innermost hands on what its children inherit
pub record FramesAt {B O : Type 0} (naming : Naming B O) (base : Chars) (list : List Call) : Type 0 where
  pub open_elements : length (after naming base list machine_begun).standings ≡ length (line_after list no_line).facts
  pub context :
      inherit naming base (after naming base list machine_begun).standings
      ≡ inherited naming base (line_after list no_line).facts (line_after list no_line).path

-- law: that holds after any front of calls
abbrev pub FramesAreContexts : Type 0
FramesAreContexts = (base : Chars) (list : List Call) → FramesAt model base list

-- law: the calls for a tree are its reading
abbrev pub CallsRead : Type 0
CallsRead = (base : Chars) (tree : Nodes Facts) (m : Machine Bnode Owner) → after model base (calls tree) m ≡ run model base tree m
