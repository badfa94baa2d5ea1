-- The JSON object of an item, of its parts.
use Rattle.std.specs.Prelude.{List}
use Rattle.rx_terms.specs.Text.{Chars}
use Rattle.rx_microdata.specs.Facts as facts
use Rattle.rx_items.specs.Showing.{ShowsValue}
use Rattle.rx_items.specs.declared.rows.RowValue.{RowValue}
use Rattle.rx_items.specs.Held.{ShowsTokens}
use Rattle.rx_items.specs.declared.kept.Kept.{Kept}
use Rattle.rx_items.specs.declared.kept.Tokens.{Tokens}

-- what is so of each list of texts that these tokens show
abbrev pub OfTokens : Chars → Tokens → (List Chars → Type 0) → Type 0
OfTokens words tokens Holds = (texts : List Chars) → ShowsTokens words tokens texts → Holds texts

-- what is so of each value that a row's value shows
abbrev pub OfValue : Kept → RowValue → (facts.Value → Type 0) → Type 0
OfValue kept value Holds = (v : facts.Value) → ShowsValue kept.words kept.text kept.times.items value v → Holds v
