-- What holds of the grammar as a whole.
use Rattle.std.specs.Prelude.{◌≡◌, ℕ, ◌⊎◌, List, ◌++◌, None}
use Rattle.rx_terms.specs.Text.{Chars}
use Rattle.rx_chars.specs.declared.syntax.Syntax.{Syntax}
use Rattle.rx_grammar.specs.declared.contents.Content.{Content}
use Rattle.rx_grammar.specs.declared.faults.Fault.{Fault}
use Rattle.rx_grammar.specs.declared.limits.Limits.{Limits}
use Rattle.rx_grammar.specs.Tokens.{Token}
use Rattle.rx_grammar.specs.Spelling.{Spells}
use Rattle.rx_grammar.specs.Trees.{Tree}
use Rattle.rx_grammar.specs.Items.{next_of}
use Rattle.rx_grammar.specs.Pages.{Page}
use Rattle.rx_grammar.specs.PageFaults.{FaultAt}

-- In one syntax and content at most one front of a list of characters spells a token, with the character after it as the next one, and
-- it spells one token only.
pub record IsSameToken (front other : Chars) (a b : Token) : Type 0 where
  pub front_is : front ≡ other
  pub token_is : a ≡ b

abbrev pub OneToken : Type 0
OneToken = (syntax : Syntax) (inside : Content) (front more other others : Chars) (a b : Token) → front ++ more ≡ other ++ others
    → Spells syntax inside front (next_of more None) a → Spells syntax inside other (next_of others None) b → IsSameToken front other a b

-- a byte list has at most one tree
abbrev pub OneTree : Type 0
OneTree = (syntax : Syntax) (limits : Limits) (bytes : List ℕ) (a b : Tree) → Page syntax limits bytes a → Page syntax limits bytes b → a ≡ b

-- it has a tree or a fault,
abbrev pub PageOrFault : Type 0
PageOrFault = (syntax : Syntax) (limits : Limits) (bytes : List ℕ)
    → ((tree : Tree) × Page syntax limits bytes tree) ⊎ ((fault : Fault) × FaultAt syntax limits bytes fault)

-- not both,
abbrev pub NotBoth : Type 0
NotBoth =
    (syntax : Syntax) (limits : Limits) (bytes : List ℕ) (tree : Tree) (fault : Fault) → Page syntax limits bytes tree → FaultAt syntax limits bytes fault → ⊥

-- and at most one fault
abbrev pub OneFault : Type 0
OneFault = (syntax : Syntax) (limits : Limits) (bytes : List ℕ) (a b : Fault) → FaultAt syntax limits bytes a → FaultAt syntax limits bytes b → a ≡ b
