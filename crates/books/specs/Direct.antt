-- What a direct book holds: one cell for each id, and cell 0 is never used.
use Rattle.std.specs.Prelude.{ℕ, ◌-◌, cond, List, length, None, Option, ◌==◌, slice_index_or}
use Rattle.books.specs.Books.{Book}

abbrev pub direct_held : {R : Type 0} → List (Option R) → ℕ → Option R
direct_held cells id = cond (id == 0) None (slice_index_or cells id None)

-- the difference stops at 0, so no cells and one cell have the limit 0
abbrev pub direct_book : {R : Type 0} → List (Option R) → Book R
direct_book cells = record { held = direct_held cells; bound = length cells; limit = length cells - 1 }
