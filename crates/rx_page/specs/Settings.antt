-- How a page is read, by what it is read for.
use Rattle.std.specs.Prelude.{ℕ, List}
use Rattle.rx_rdfa.specs.Common.{Chars, Syntax, Fault, Limits, Context}
use Rattle.rx_terms.specs.declared.triples.Triple.{Triple as CodeTriple}
use Rattle.rx_nest.specs.Faults.{Refuses}
use Rattle.rx_nest.specs.Ways.{Way, refuses_none}
use Rattle.rx_walk.specs.Settings.{Setting, way_of}
use Rattle.rx_walk.specs.Walks.{WalkEnded}
use Rattle.rx_items.specs.Collecting.{MicrodataSetting as ItemSetting}
use Rattle.rx_items.specs.Walks as item
use Rattle.rx_items.specs.declared.kept.Kept.{Kept}
use Rattle.rx_walk.specs.Checks.{Accepted}

-- 512 levels, tags of 1 MiB, pages of 1 GiB
abbrev pub standard_limits : Limits
standard_limits = record { depth = 512; tag = 1048576; page = 1073741824 }

-- how a page is read under these names
abbrev pub setting_for : Syntax → Context → Setting
setting_for syntax context = record { syntax = syntax; limits = standard_limits; context = context }

-- how its items are read at an address
abbrev pub item_setting_for : Syntax → Chars → ItemSetting
item_setting_for syntax address = record { syntax = syntax; limits = standard_limits; address = address }

-- the way of a page whose triples are read, or its faults: a start tag is refused for what it says to RDFa under these names
abbrev pub rdfa_way : Syntax → Context → Way
rdfa_way syntax context = way_of (setting_for syntax context)

-- that of a page whose items are read: no start tag is refused for what it means
abbrev pub item_way : Syntax → Way
item_way syntax = record { syntax = syntax; limits = standard_limits; refused = refuses_none }

-- the bytes have this fault, the first of their form and of what their tags mean
abbrev pub HasFirst : Way → List ℕ → Fault → Type 0
HasFirst way bytes fault = Refuses way bytes fault

-- the bytes are a page with this list of triples
abbrev pub GivesList : Syntax → Context → Chars → List ℕ → List CodeTriple → Type 0
GivesList syntax context address bytes list = WalkEnded (setting_for syntax context) address bytes list

-- the bytes are a page with these items
abbrev pub PageHasItems : Syntax → Chars → List ℕ → Kept → Type 0
PageHasItems syntax address bytes found = item.ItemWalkEnded (item_setting_for syntax address) bytes found

-- the bytes are a page of which no start tag is refused
abbrev pub GivesRight : Syntax → Context → List ℕ → Unit {0} → Type 0
GivesRight syntax context bytes done = Accepted (setting_for syntax context) bytes
