-- The names in force along a line of tags, as they are kept: all rows of the tags, and for each tag how many stood below it.
use Rattle.std.specs.Prelude.{◌≡◌, ℕ, ◌-◌, List, [], ◌∷◌, ◌++◌, take, length, slice_index, sum_by, Option}
use Rattle.rx_rdfa.specs.Common.{option_or, Chars, ElementTag, Context, table_value}
use Rattle.rx_names.specs.declared.rows.Declaration.{Declaration}
use Rattle.rx_names.specs.Rows.{declared_rows, last_of, prefix_in, vocabulary_in, language_in, flattened, declared}

pub record KeptNames : Type 0 where
  pub context : Context
  pub rows : List Declaration
  pub marks : List ℕ

abbrev pub no_tags : Context → KeptNames
no_tags context = record { context = context; rows = []; marks = [] }

abbrev pub tag_pushed : KeptNames → ElementTag → KeptNames
tag_pushed kept tag = record { context = kept.context; rows = kept.rows ++ declared_rows tag; marks = kept.marks ++ length kept.rows ∷ [] }

-- without the last tag
abbrev pub popped : KeptNames → KeptNames
popped kept = record {
  context = kept.context;
  rows = take (slice_index kept.marks (length kept.marks - 1)) kept.rows;
  marks = take (length kept.marks - 1) kept.marks;
}

-- what is kept of a line, the nearest tag coming first
abbrev pub names_kept : Context → List ElementTag → KeptNames
names_kept context [] = no_tags context
names_kept context (tag ∷ above) = tag_pushed (names_kept context above) tag

-- what is kept is that of this line
pub record NamesStand (kept : KeptNames) (line : List ElementTag) : Type 0 where
  pub is : kept ≡ names_kept kept.context line

abbrev pub kept_prefix : KeptNames → Chars → Option Chars
kept_prefix kept name = option_or (last_of (prefix_in name) kept.rows) (table_value name kept.context.prefixes)

abbrev pub vocabulary_of : KeptNames → Option Chars
vocabulary_of kept = flattened (last_of vocabulary_in kept.rows)

abbrev pub kept_language : KeptNames → Option Chars
kept_language kept = flattened (last_of language_in kept.rows)

abbrev pub declared_along : List ElementTag → ℕ
declared_along line = sum_by declared line
