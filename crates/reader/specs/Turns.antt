-- Set-up, start and finish: the turns from one state to the other.
use Rattle.std.specs.Prelude.{ℕ, Bool, cond, not, ◌&&◌, Some, None, Ok, Err, Option, Result, ◌==◌, nat_lt}
use Rattle.records.specs.declared.refusals.Error.{Error}
use Rattle.records.specs.declared.refusals.Error.TheVariants.{Full, Mismatch}
use Rattle.records.specs.declared.statements.Statement.{Statement}
use Rattle.records.specs.declared.statements.Statement.TheVariants.{Emit}
use Rattle.books.specs.Books.{count}
use Rattle.records.specs.Refusals.{and_then, check}
use Rattle.memory.specs.declared.lists.Counts.{Counts}
use Rattle.memory.specs.declared.lists.Lists.{Lists}
use Rattle.reader.specs.declared.states.AtRest.{AtRest}
use Rattle.reader.specs.declared.states.Reading.{Reading}
use Rattle.memory.specs.Shelves.{Shelf}
use Rattle.memory.specs.Cells.{room_for, Cells}
use Rattle.reader.specs.States.{State, Step, at_rest, reading}
use Rattle.reader.specs.Checks.{max_statements, state_inside, by_checks}
use Rattle.reader.specs.Updates.{push_statement}

-- Set-up: 16 exactly if a book holds a record; else a reader at rest that has used nothing.

abbrev pub books_empty : Shelf → Bool
books_empty b = count b.types == 0 && (count b.values == 0 && count b.couples == 0)

abbrev pub no_counts : Counts
no_counts = record { types = 0; variables = 0; arguments = 0; constants = 0; expressions = 0; statements = 0; brought = 0 }

abbrev pub set_up : Shelf → Result AtRest Error
set_up b = and_then (check (not (books_empty b)) Mismatch) (λ _. Ok (record { counts = no_counts }))

-- Start: 15 exactly if no statement cell is free. The emit range begins at the expressions to come.

abbrev pub start_checks : Cells → Result (Unit {0}) Error
start_checks c =
    and_then (check (not (state_inside None c)) Mismatch) (λ _.
    check (not (room_for 1 c.statements max_statements)) Full)

abbrev pub starts : State → Step (Unit {0})
starts s = by_checks s (start_checks s.cells) (λ _. record {
  state = record s { emitter = Some s.cells.expressions.count };
  answer = Ok tt;
})

-- Finish: the range from `start` is closed. An empty range makes no statement.

abbrev pub emit : ℕ → ℕ → Statement
emit first end = Emit (record { first = first; end = end })

abbrev pub closed : ℕ → Cells → Cells
closed start c = cond (nat_lt start c.expressions.count) (push_statement c (emit start c.expressions.count)) c

abbrev pub finish_checks : Option ℕ → Cells → Result ℕ Error
finish_checks None c = Err Mismatch
finish_checks (Some start) c = and_then (check (not (state_inside (Some start) c)) Mismatch) (λ _. Ok start)

abbrev pub finishes : State → Step (Unit {0})
finishes s = by_checks s (finish_checks s.emitter s.cells) (λ start. record {
  state = record s { emitter = None; cells = closed start s.cells };
  answer = Ok tt;
})

-- Either turn answers the new state, or the old one with the refusal.

abbrev pub after_start : Result Reading (AtRest × Error) → Lists → Shelf → Step (Unit {0})
after_start (Ok r) l b = record { state = reading r l b; answer = Ok tt }
after_start (Err e) l b = record { state = at_rest e.0 l b; answer = Err e.1 }

abbrev pub after_finish : Result AtRest (Reading × Error) → Lists → Shelf → Step (Unit {0})
after_finish (Ok r) l b = record { state = at_rest r l b; answer = Ok tt }
after_finish (Err e) l b = record { state = reading e.0 l b; answer = Err e.1 }
