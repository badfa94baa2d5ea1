-- What the lent view stands for.
use Rattle.std.specs.Prelude.{List}
use Rattle.rx_rdfa.specs.Common.{ElementTag, Context}
use Rattle.rx_names.specs.Lines.{KeptNames, NamesStand}
use Rattle.rx_names.specs.declared.names.NamesView.{NamesView}

abbrev pub names_seen : NamesView → KeptNames
names_seen view = view.names.now

-- what holds with the context along each line of tags whose names these are, the nearest tag coming first
abbrev pub Along : NamesView → (Context → List ElementTag → Type 0) → Type 0
Along names Holds = (line : List ElementTag) → NamesStand (names_seen names) line → Holds (names_seen names).context line
