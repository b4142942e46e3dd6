-- What a call checks before it writes, and the refusal of each check.
use Rattle.std.specs.Prelude.{ℕ, Bool, not, ◌&&◌, Some, None, Ok, Err, Option, Result, nat_le}
use Rattle.records.specs.declared.refusals.Error.{Error}
use Rattle.records.specs.declared.refusals.Error.TheVariants.{InvalidResultId, Full, Mismatch}
use Rattle.records.specs.Refusals.{and_then, check}
use Rattle.memory.specs.Lookups.{new_value, has_space}
use Rattle.memory.specs.Shelves.{Shelf}
use Rattle.memory.specs.Cells.{room_for, Cells, counts_inside}
use Rattle.reader.specs.States.{State, Step}

-- the most records that each list may have
abbrev pub max_types : ℕ
max_types = 4096

abbrev pub max_variables : ℕ
max_variables = 1024

abbrev pub max_arguments : ℕ
max_arguments = 255

abbrev pub max_constants : ℕ
max_constants = 4096

abbrev pub max_expressions : ℕ
max_expressions = 65536

abbrev pub max_statements : ℕ
max_statements = 65536

-- While reading, the emit range begins among the expressions, and one statement cell is held for finish.
abbrev pub range_inside : ℕ → Cells → Bool
range_inside start c = nat_le start c.expressions.count && room_for 1 c.statements max_statements

abbrev pub state_inside : Option ℕ → Cells → Bool
state_inside None c = counts_inside c
state_inside (Some start) c = counts_inside c && range_inside start c

-- one expression more, and its id in the values book
abbrev pub value_room : Cells → Shelf → Bool
value_room c b = room_for 1 c.expressions max_expressions && has_space b.values

-- The first two checks of a call that makes one value: 16 for the numbers of the state, 6.
abbrev pub new_checks : Option ℕ → Cells → Shelf → ℕ → Result (Unit {0}) Error
new_checks emitter c b id =
    and_then (check (not (state_inside emitter c)) Mismatch) (λ _. check (not (new_value b id)) (InvalidResultId 0))

-- The checks of a call that makes one value, in their order: 16 for the numbers of the state, 6, what the call itself looks
-- for (5, 13, 7), 15. `room` is whether its own list, if it has one, has a free cell.
abbrev pub value_checks : {X : Type 0} → Option ℕ → Cells → Shelf → ℕ → Result X Error → Bool → Result X Error
value_checks emitter c b id found room =
    and_then (check (not (state_inside emitter c)) Mismatch) (λ _.
    and_then (check (not (new_value b id)) (InvalidResultId 0)) (λ _.
    and_then found (λ x.
    and_then (check (not (room && value_room c b)) Full) (λ _.
    Ok x))))

-- A call by its checks: where one fails, it is refused and leaves everything as it was.
abbrev pub by_checks : {X Y : Type 0} → State → Result X Error → (X → Step Y) → Step Y
by_checks s (Ok x) f = f x
by_checks s (Err e) f = record { state = s; answer = Err e }
