-- What is kept of a page while its elements are told: the table, and the base as far as it is known.
use Rattle.std.specs.Prelude.{◌≡◌, List, [], ◌∷◌, Option, Result}
use Rattle.rx_rdfa.specs.Common.{Chars, Syntax, Limits, Stop, base_by}
use Rattle.rx_nest.specs.Signs as sign
use Rattle.rx_nest.specs.Signs.{Sign}
use Rattle.rx_nest.specs.Listening.{Hears}
use Rattle.rx_nest.specs.Ways.{Way, refuses_none}
use Rattle.rx_base.specs.Seekings.{Seeking, known, sought}
use Rattle.rx_base.specs.Sought.{sought_seen}
use Rattle.rx_items.specs.declared.collectors.Base.{Base}
use Rattle.rx_items.specs.declared.collectors.Base.TheVariants as base
use Rattle.rx_items.specs.declared.collectors.Collector.{Collector}
use Rattle.rx_items.specs.Growing.{Growing, element_begun, text_gathered, element_ended}
use Rattle.rx_items.specs.Showing.{tag_in, nothing_grown}

-- how a page is read by Microdata's rules: its syntax and limits, and its address
pub record MicrodataSetting : Type 0 where
  pub syntax : Syntax
  pub limits : Limits
  pub address : Chars

-- no start tag is refused for what it means
abbrev pub microdata_way : MicrodataSetting → Way
microdata_way setting = record { syntax = setting.syntax; limits = setting.limits; refused = refuses_none }

-- the table after a sign
abbrev pub after_sign : Growing → Sign → Growing
after_sign g (sign.begun t) = element_begun g (tag_in t) t.token t.at
after_sign g (sign.said c) = text_gathered g (c ∷ [])
after_sign g sign.finished = element_ended g

abbrev pub told_all : Growing → List Sign → Growing
told_all g [] = g
told_all g (first ∷ more) = told_all (after_sign g first) more

-- the base of a page at an address, of which this is known
abbrev pub BaseIs : Chars → Seeking → Base → Type 0
BaseIs address seeking (base.Sought looks) = seeking ≡ sought_seen looks
BaseIs address seeking (base.Known iri) = (href : Option Chars) × (seeking ≡ known href) × (iri ≡ base_by href address)

-- the base, where more is told
abbrev pub BaseMoves : Chars → (Seeking → Seeking) → Base → Base → Type 0
BaseMoves address move old new = (seeking : Seeking) → BaseIs address seeking old → BaseIs address (move seeking) new

-- The collector was told these signs of a page.
pub record Collects (setting : MicrodataSetting) (collector : Collector) (signs : List Sign) : Type 0 where
  pub address_is : collector.address ≡ setting.address
  pub table_is : collector.table ≡ told_all nothing_grown signs
  pub base_is : BaseIs setting.address (sought signs) collector.base

-- Whatever signs a collector was told, it was told these too.
abbrev pub CollectsMore : Collector → List Sign → Result (Unit {0}) Stop → Collector → Type 0
CollectsMore old more result new =
    (setting : MicrodataSetting) (signs : List Sign) → Collects setting old signs
    → Hears (microdata_way setting).refused (Collects setting) signs more result new
