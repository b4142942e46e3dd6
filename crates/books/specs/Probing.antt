-- What a probing book holds: each record stands beside its id, in any cell.
use Rattle.std.specs.Prelude.{ℕ, cond, List, [], ◌∷◌, length, Some, None, Option, ◌==◌}
use Rattle.books.specs.declared.ring.Entry.{Entry}
use Rattle.books.specs.Books.{Book}

-- a cell that is not free holds an id and its record
abbrev pub Cells : Type 0 → Type 0
Cells R = List (Option (Entry R))

-- what a cell says of an id, where the cells after it say `rest`
abbrev pub says : {R : Type 0} → Option (Entry R) → ℕ → Option R → Option R
says None id rest = rest
says (Some e) id rest = cond (id == e.id) (Some e.item) rest

unfoldable pub probing_held : {R : Type 0} → Cells R → ℕ → Option R
probing_held [] id = None
probing_held (c ∷ cs) id = says c id (probing_held cs id)

-- SPIR-V's own limit on the bound of ids
abbrev pub probing_bound : ℕ
probing_bound = 4194303

abbrev pub probing_book : {R : Type 0} → Cells R → Book R
probing_book cells = record { held = probing_held cells; bound = probing_bound; limit = length cells }
