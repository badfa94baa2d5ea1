-- The values of each key of an object, as they come one after another.
use Rattle.std.specs.Prelude.{ℕ, List}
use Rattle.rx_terms.specs.Common.{nat_cmp, match_ordering, slice_cmp}
use Rattle.serde_json.specs.Data.{Data, Items, Members, array, no_items, item, no_members, member}

-- the values with one more at their end
abbrev pub items_and : Items → Data → Items
items_and no_items value = item value no_items
items_and (item first values) value = item first (items_and values value)

-- a value behind those that a key has
abbrev pub value_appended : Data → Data → Data
value_appended value (array values) = array (items_and values value)
value_appended value other = array (item value no_items)

-- the members in byte order of their keys, with a value behind those of its key
abbrev pub with_last : List ℕ → Data → Members → Members
with_last key value no_members = member key (array (item value no_items)) no_members
with_last key value (member first values more) =
    match_ordering (slice_cmp nat_cmp key first) (member key (array (item value no_items)) (member first values more)) (member first (value_appended value values) more)
    (member first values (with_last key value more))
