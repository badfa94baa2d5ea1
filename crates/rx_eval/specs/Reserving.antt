-- Places that are reserved in lists, and filled later.
use Rattle.std.specs.Prelude.{◌≡◌, ℕ, List, ◌++◌, map, Option, Some, None}
use Rattle.rx_rdfa.specs.Common.{Chars, Term, entry}
use Rattle.rx_eval.specs.Listing.{Entries}
use Rattle.rx_eval.specs.OwnersSeen.{Owning, put_entries, places_for, fill_all}

-- law: when places were reserved in an owner's lists of some predicates, and any entries were put behind them, filling the
-- places with a value gives what putting the value there at once would have given
abbrev pub ReservedAreFilled : Type 0
ReservedAreFilled = (number : ℕ) (predicates : List Chars) (more : Entries) (owners : List (Option Owning)) (value : Term ℕ)
    → fill_all (places_for number predicates owners) value (put_entries (map (entry number (Some None)) predicates ++ more) owners)
    ≡ put_entries (map (entry number (Some (Some value))) predicates ++ more) owners
