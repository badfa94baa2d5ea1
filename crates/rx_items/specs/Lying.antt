-- How the rows of a page lie in each other.
use Rattle.std.specs.Prelude.{◌≡◌, ◌<◌, ◌≤◌, ℕ, true, List, Some, slice_get}
use Rattle.rx_items.specs.declared.rows.Row.{Row}

pub record Lies (rows : List Row) : Type 0 where
  -- the nearest item around a row that is inside an item is that item, or one inside it
  pub inside : (i j : ℕ) (item row : Row) → slice_get rows i ≡ Some item → slice_get rows j ≡ Some row → item.head.is_item ≡ true → i < j → j < item.past
      → (k : ℕ) × (row.scope ≡ Some k) × (i ≤ k)
  -- the nearest item around a row is an item, inside which the row is
  pub around : (j k : ℕ) (row : Row) → slice_get rows j ≡ Some row → row.scope ≡ Some k
      → (item : Row) × (slice_get rows k ≡ Some item) × (item.head.is_item ≡ true) × (k < j) × (j < item.past)
