-- One record more in a list, or in a book.
use Rattle.std.specs.Prelude.{ℕ, ◌+◌, Ok}
use Rattle.records.specs.declared.constants.Constant.{Constant}
use Rattle.records.specs.declared.expressions.Expression.{Expression}
use Rattle.records.specs.declared.handles.TypeHandle.{TypeHandle}
use Rattle.records.specs.declared.lookups.LookupType.{LookupType}
use Rattle.records.specs.declared.lookups.LookupExpression.{LookupExpression}
use Rattle.records.specs.declared.lookups.LookupSampledImage.{LookupSampledImage}
use Rattle.records.specs.declared.statements.Statement.{Statement}
use Rattle.records.specs.declared.types.TypeInner.{TypeInner}
use Rattle.records.specs.declared.variables.GlobalVariable.{GlobalVariable}
use Rattle.records.specs.declared.variables.FunctionArgument.{FunctionArgument}
use Rattle.books.specs.Books.{added}
use Rattle.memory.specs.Shelves.{Shelf}
use Rattle.memory.specs.Cells.{pushed, Cells}
use Rattle.reader.specs.States.{State, Step}

abbrev pub push_type : Cells → TypeInner → Cells
push_type c t = record c { types = pushed c.types t }

abbrev pub push_variable : Cells → GlobalVariable → Cells
push_variable c v = record c { variables = pushed c.variables v }

abbrev pub push_argument : Cells → FunctionArgument → Cells
push_argument c a = record c { arguments = pushed c.arguments a }

abbrev pub push_constant : Cells → Constant → Cells
push_constant c k = record c { constants = pushed c.constants k }

abbrev pub push_expression : Cells → Expression → Cells
push_expression c e = record c { expressions = pushed c.expressions e }

abbrev pub push_statement : Cells → Statement → Cells
push_statement c s = record c { statements = pushed c.statements s }

-- one value more was brought
abbrev pub one_brought : Cells → Cells
one_brought c = record c { brought = c.brought + 1 }

abbrev pub put_type : Shelf → ℕ → LookupType → Shelf
put_type b id l = record b { types = added b.types id l }

abbrev pub put_value : Shelf → ℕ → LookupExpression → Shelf
put_value b id l = record b { values = added b.values id l }

abbrev pub put_couple : Shelf → ℕ → LookupSampledImage → Shelf
put_couple b id l = record b { couples = added b.couples id l }

-- the book record of a value
abbrev pub lookup_at : ℕ → TypeHandle → LookupExpression
lookup_at n t = record { handle = record { index = n }; ty = t }

-- A value more: its expression is appended, and the id names it. `c` has the lists with what else the call appends.
abbrev pub named : State → ℕ → Cells → Expression → TypeHandle → Step LookupExpression
named s id c e t = record {
  state = record s { cells = push_expression c e; books = put_value s.books id (lookup_at c.expressions.count t) };
  answer = Ok (lookup_at c.expressions.count t);
}
