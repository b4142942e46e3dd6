-- Room in a list.
use Rattle.std.specs.Prelude.{ℕ, ◌+◌, ◌≤◌}

-- n more records fit into a list of so many cells, after those that are used: their cells are lent, and below the limit of the list
pub record RoomIn (cells used n limit : ℕ) : Type 0 where
  pub lent : used + n ≤ cells
  pub below : used + n ≤ limit
