-- Records written one after another into the cells of a list, from a number on; and the arena, which is written so.
use Rattle.std.specs.Prelude.{◌≡◌, ℕ, ◌+◌, List, [], ◌∷◌, Some, None, Option, length, slice_set}
use Rattle.std.specs.List.{slice_get}
use Rattle.records.specs.declared.expressions.Expression.{Expression}
use Rattle.reader.specs.declared.arena.Arena.{Arena}
use Rattle.reader.specs.Checks.{max_expressions}
use Rattle.memory.specs.Rooms.{RoomIn}

abbrev pub written : {X : Type 0} → List X → ℕ → List X → List X
written cells u [] = cells
written cells u (x ∷ xs) = written (slice_set cells u x) (u + 1) xs

-- a list with record i changed, if there is one
abbrev pub changed_by : {X : Type 0} → List X → ℕ → (X → X) → Option X → List X
changed_by xs i change None = xs
changed_by xs i change (Some x) = slice_set xs i (change x)

abbrev pub changed : {X : Type 0} → List X → ℕ → (X → X) → List X
changed xs i change = changed_by xs i change (slice_get xs i)

-- room for n expressions more
abbrev pub Room : Arena → ℕ → Type 0
Room a n = RoomIn (length a.cells.now) a.used n max_expressions

-- the same list after some expressions, n of them, were appended
pub record Appends (from to : Arena) (es : List Expression) (n : ℕ) : Type 0 where
  pub same_list : to.cells.ghost_name ≡ from.cells.ghost_name
  pub cells : to.cells.now ≡ written from.cells.now from.used es
  pub used : to.used ≡ from.used + n
