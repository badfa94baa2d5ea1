-- What stands beside a table's rows, one after another.
use Rattle.rx_terms.specs.Common.{Bor, BTreeMap, Chars}
use Rattle.std.specs.Prelude.{◌≡◌, ℕ, List, Some, slice_get}
use Rattle.rx_grammar.specs.Trees.{Tree}
use Rattle.rx_microdata.specs.Elements.{Placed}
use Rattle.rx_items.specs.Rows.{rows_of}
use Rattle.rx_items.specs.Showing.{ShowsRows}
use Rattle.rx_items.specs.declared.rows.Row.{Row}
use Rattle.rx_items.specs.Held.{FitsRow, RowsAreNumbered}
use Rattle.rx_items.specs.Ids.{LooksFor, look_in}
use Rattle.rx_items.specs.Members.{Rises, Sorted}
use Rattle.rx_items.specs.declared.kept.BesideRow.{BesideRow}

-- this stands beside the row at a place
abbrev pub Builds : Chars → List Placed → List ℕ → List Row → ℕ → BesideRow → Type 0
Builds words ps members rows place x =
    (row : Row) (p : Placed) → slice_get rows place ≡ Some row → slice_get ps place ≡ Some p → FitsRow words ps members place row p x

-- what is so of the rows of each page that these rows show, of which these are the members, where its ids are known
abbrev pub HoldsOfRows : Chars → List Row → List ℕ → BTreeMap (Bor (List ℕ)) ℕ → (List Placed → Type 0) → Type 0
HoldsOfRows words rows members ids Holds =
    (text : Chars) (times : List Chars) (tree : Tree)
    → Sorted words text times rows (rows_of tree) members → Rises rows members
    → LooksFor rows ids (look_in (rows_of tree)) → Holds (rows_of tree)

-- the same where these rows are all that is known
abbrev pub OfShown : Chars → List Row → (List Placed → Type 0) → Type 0
OfShown words rows Holds =
    (text : Chars) (times : List Chars) (tree : Tree) → ShowsRows words text times rows (rows_of tree) → Holds (rows_of tree)

-- the same of rows that stand at their places
abbrev pub OfNumbered : Chars → List Row → (List Placed → Type 0) → Type 0
OfNumbered words rows Holds =
    (gathered : Chars) (times : List Chars) (ps : List Placed) → ShowsRows words gathered times rows ps → RowsAreNumbered 0 ps → Holds ps
