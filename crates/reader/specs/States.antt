-- The reader's state: what the lists and books hold, how far they are used, and where the open emit range begins.
use Rattle.std.specs.Prelude.{ℕ, Some, None, Option, Result}
use Rattle.records.specs.declared.refusals.Error.{Error}
use Rattle.memory.specs.Cells.{Cells, cells_of}
use Rattle.memory.specs.Shelves.{Shelf}
use Rattle.memory.specs.declared.lists.Lists.{Lists}
use Rattle.reader.specs.declared.states.AtRest.{AtRest}
use Rattle.reader.specs.declared.states.Reading.{Reading}

pub record State : Type 0 where
  -- where the open emit range begins; there is none at rest
  pub emitter : Option ℕ
  pub cells : Cells
  pub books : Shelf

-- a call's end: the state after it, and its answer
pub record Step (X : Type 0) : Type 0 where
  pub state : State
  pub answer : Result X Error

-- the two states by the reader's numbers

abbrev pub at_rest : AtRest → Lists → Shelf → State
at_rest r l books = record { emitter = None; cells = cells_of r.counts l; books = books }

abbrev pub reading : Reading → Lists → Shelf → State
reading r l books = record { emitter = Some r.emitter.start_len; cells = cells_of r.counts l; books = books }
