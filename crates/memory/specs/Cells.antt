-- The six lists that the caller lends, and how far they are used.
use Rattle.std.specs.Prelude.{ℕ, ◌+◌, min, Bool, ◌&&◌, List, length, take, nat_le, slice_set}
use Rattle.records.specs.declared.constants.Constant.{Constant}
use Rattle.records.specs.declared.expressions.Expression.{Expression}
use Rattle.records.specs.declared.statements.Statement.{Statement}
use Rattle.records.specs.declared.types.TypeInner.{TypeInner}
use Rattle.records.specs.declared.variables.GlobalVariable.{GlobalVariable}
use Rattle.records.specs.declared.variables.FunctionArgument.{FunctionArgument}
use Rattle.memory.specs.declared.lists.Lists.{Lists}
use Rattle.memory.specs.declared.lists.Counts.{Counts}

-- a list that the caller lends: its cells, and how many of them are used, from the first on
pub record Filled (X : Type 0) : Type 0 where
  pub cells : List X
  pub count : ℕ

abbrev pub used : {X : Type 0} → Filled X → List X
used f = take f.count f.cells

-- whether the count lies inside the list
abbrev pub inside : {X : Type 0} → Filled X → Bool
inside f = nat_le f.count (length f.cells)

-- Whether n more records fit. A cell is free if it is lent, not used and below the limit of its list.
abbrev pub room_for : {X : Type 0} → ℕ → Filled X → ℕ → Bool
room_for n f limit = nat_le (f.count + n) (min (length f.cells) limit)

-- one record more
abbrev pub pushed : {X : Type 0} → Filled X → X → Filled X
pushed f x = record { cells = slice_set f.cells f.count x; count = f.count + 1 }

-- the six lists, and how many values were brought
pub record Cells : Type 0 where
  pub brought : ℕ
  pub types : Filled TypeInner
  pub variables : Filled GlobalVariable
  pub arguments : Filled FunctionArgument
  pub constants : Filled Constant
  pub expressions : Filled Expression
  pub statements : Filled Statement

-- the caller's lists with the reader's counts
abbrev pub cells_of : Counts → Lists → Cells
cells_of c l = record {
  brought = c.brought;
  types = record { cells = l.types.now; count = c.types };
  variables = record { cells = l.variables.now; count = c.variables };
  arguments = record { cells = l.arguments.now; count = c.arguments };
  constants = record { cells = l.constants.now; count = c.constants };
  expressions = record { cells = l.expressions.now; count = c.expressions };
  statements = record { cells = l.statements.now; count = c.statements };
}

-- Whether the counts lie inside the lists that came with them; each value brought is an expression.
abbrev pub counts_inside : Cells → Bool
counts_inside c =
    inside c.types && (inside c.variables && (inside c.arguments && (inside c.constants
    && (inside c.expressions && (inside c.statements && nat_le c.brought c.expressions.count)))))
