-- The calls of a reader at rest: what each checks, in order, and what it leaves and answers.
use Rattle.std.specs.Prelude.{ℕ, Bool, true, not, ◌&&◌, List, Some, None, Ok, Option, Result}
use Rattle.records.specs.Expressions.{global_variable, function_argument, constant_of}
use Rattle.records.specs.Flags.{no_flags}
use Rattle.records.specs.declared.constants.Literal.{Literal}
use Rattle.records.specs.declared.handles.TypeHandle.{TypeHandle}
use Rattle.records.specs.declared.lookups.LookupExpression.{LookupExpression}
use Rattle.records.specs.declared.refusals.Error.{Error}
use Rattle.records.specs.declared.refusals.Error.TheVariants.{InvalidResultId, InvalidType, Full, Mismatch}
use Rattle.records.specs.declared.types.TypeInner.{TypeInner}
use Rattle.records.specs.Types.{same_type}
use Rattle.run.specs.Rules.{literal_type}
use Rattle.records.specs.Refusals.{and_then, check}
use Rattle.reader.specs.declared.types.TypeDeclaration.{TypeDeclaration}
use Rattle.reader.specs.declared.declare.TypePlan.{TypePlan}
use Rattle.memory.specs.Shelves.{Shelf}
use Rattle.memory.specs.Cells.{used, room_for, Cells}
use Rattle.reader.specs.States.{State, Step}
use Rattle.memory.specs.Lookups.{new_type, has_space, type_for}
use Rattle.reader.specs.Checks.{max_types, max_variables, max_arguments, max_constants, state_inside, by_checks, value_checks}
use Rattle.memory.specs.Firsts.{first_equal}
use Rattle.reader.specs.Types.{inner_of, resource_for}
use Rattle.reader.specs.Updates.{push_type, push_variable, push_argument, push_constant, put_type, named}

-- an equal type that is found again takes no cell of the list
abbrev pub type_room : Cells → Option ℕ → Bool
type_room c (Some h) = true
type_room c None = room_for 1 c.types max_types

abbrev pub type_checks : Cells → Shelf → ℕ → TypeDeclaration → Result TypePlan Error
type_checks c b id d =
    and_then (check (not (state_inside None c)) Mismatch) (λ _.
    and_then (check (not (new_type b id)) (InvalidResultId 0)) (λ _.
    and_then (inner_of (used c.types) b d) (λ t.
    and_then (check (not (type_room c (first_equal t (used c.types)) && has_space b.types)) Full) (λ _.
    Ok (record { inner = t; found = first_equal t (used c.types) })))))

-- the lists with the type, and its number
abbrev pub type_placed : Cells → TypeInner → Option ℕ → Cells
type_placed c t (Some h) = c
type_placed c t None = push_type c t

abbrev pub type_handle : Cells → Option ℕ → TypeHandle
type_handle c (Some h) = record { index = h }
type_handle c None = record { index = c.types.count }

abbrev pub type_step : State → ℕ → TypeInner → Option ℕ → Step TypeHandle
type_step s id t found = record {
  state = record s {
    cells = type_placed s.cells t found;
    books = put_type s.books id (record { handle = type_handle s.cells found });
  };
  answer = Ok (type_handle s.cells found);
}

abbrev pub declares_type : State → ℕ → TypeDeclaration → Step TypeHandle
declares_type s id d = by_checks s (type_checks s.cells s.books id d) (λ p. type_step s id p.inner p.found)

-- Variables, arguments and constants: each also appends an expression, which the id then names.

abbrev pub variable_checks : Cells → Shelf → ℕ → ℕ → Result TypeHandle Error
variable_checks c b id ty = value_checks None c b id (resource_for (used c.types) b ty) (room_for 1 c.variables max_variables)

abbrev pub declares_variable : State → ℕ → ℕ → Step LookupExpression
declares_variable s id ty =
    by_checks s (variable_checks s.cells s.books id ty) (λ h.
    named s id (push_variable s.cells (record { ty = h; flags = no_flags })) (global_variable (record { index = s.cells.variables.count })) h)

abbrev pub argument_checks : Cells → Shelf → ℕ → ℕ → Result TypeHandle Error
argument_checks c b id ty = value_checks None c b id (resource_for (used c.types) b ty) (room_for 1 c.arguments max_arguments)

abbrev pub declares_argument : State → ℕ → ℕ → Step LookupExpression
declares_argument s id ty =
    by_checks s (argument_checks s.cells s.books id ty) (λ h.
    named s id (push_argument s.cells (record { ty = h; flags = no_flags })) (function_argument (record { index = s.cells.arguments.count })) h)

-- the type of a constant: the scalar of its literal
abbrev pub literal_for : List TypeInner → Shelf → ℕ → Literal → Result TypeHandle Error
literal_for types b id literal =
    and_then (type_for types b 0 id) (λ f.
    and_then (check (not (same_type f.inner (literal_type literal))) (InvalidType 0)) (λ _.
    Ok f.handle))

abbrev pub constant_checks : Cells → Shelf → ℕ → ℕ → Literal → Result TypeHandle Error
constant_checks c b id ty literal =
    value_checks None c b id (literal_for (used c.types) b ty literal) (room_for 1 c.constants max_constants)

abbrev pub declares_constant : State → ℕ → ℕ → Literal → Step LookupExpression
declares_constant s id ty literal =
    by_checks s (constant_checks s.cells s.books id ty literal) (λ h.
    named s id (push_constant s.cells (record { ty = h; value = literal })) (constant_of (record { index = s.cells.constants.count })) h)
