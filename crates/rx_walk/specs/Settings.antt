-- How a page is read by RDFa's rules.
use Rattle.std.specs.Prelude.{[]}
use Rattle.rx_rdfa.specs.Common.{Syntax, Limits, Context}
use Rattle.rx_nest.specs.Ways.{Way}
use Rattle.rx_walk.specs.Refused.{refused_in}

-- its syntax and limits, and the names with which it begins
pub record Setting : Type 0 where
  pub syntax : Syntax
  pub limits : Limits
  pub context : Context

-- a start tag is refused for what it says to RDFa
abbrev pub way_of : Setting → Way
way_of setting = record { syntax = setting.syntax; limits = setting.limits; refused = refused_in setting.context [] }
