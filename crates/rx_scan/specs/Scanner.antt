-- What contracts see of a scanner.
use Rattle.std.specs.Prelude.{ℕ, Bool, List, Option}
use Rattle.rx_grammar.specs.declared.faults.Fault.{Fault}
use Rattle.rx_pages.specs.PageReader.{Spot}
use Rattle.rx_scan.specs.declared.places.Position.{Position}
use Rattle.rx_scan.specs.declared.places.Setting.{Setting}
use Rattle.rx_scan.specs.declared.answers.TokenKind.{TokenKind}
use Rattle.rx_scan.specs.Buffers.{Buffered}
use Rattle.rx_scan.specs.Pending.{Pending}

-- What is read and how; where it stands; the bytes of a character that isn't whole; what is kept of the characters since the last token;
-- the text that was read since the step began; and where the last tag ended.
pub record Reading : Type 0 where
  pub setting : Setting
  pub place : Position
  pub held : List ℕ
  pub pending : Pending
  pub text : Buffered
  pub end : ℕ

-- A scanner: what it has read, what the last step answered, and whether there was one; the fault that was answered, and want of memory.
pub record Scanner : Type 0 where
  pub reading : Reading
  pub what : TokenKind
  pub stepped : Bool
  pub failed : Option Fault
  pub out_of_memory : Bool

abbrev pub reading_spot : Reading → Spot
reading_spot v = record { inside = v.setting.inside; leads = v.setting.leads }
