-- Pages of a dataset, as they were judged.
use Rattle.std.specs.Prelude.{ℕ, List}
use Rattle.rx_model.specs.Common.{Chars, Triple}
use Rattle.rx_grammar.specs.declared.faults.Fault.{Fault}

-- what comes of a page: it is refused with its first fault, or gives the triples of its graph
pub data Judgement : Type 0 where
  refused : Fault → Judgement
  accepted : List (Triple ℕ) → Judgement

-- a page, by its address
pub record JudgedPage : Type 0 where
  pub address : Chars
  pub judgement : Judgement

abbrev pub refused_page : Chars → Fault → JudgedPage
refused_page address fault = record { address = address; judgement = refused fault }

abbrev pub accepted_page : Chars → List (Triple ℕ) → JudgedPage
accepted_page address triples = record { address = address; judgement = accepted triples }
