-- Bringing values, while reading: what each call checks, in order, and what it leaves and answers.
use Rattle.std.specs.Prelude.{ℕ, true, not, List, length, Some, Ok, Option, Result}
use Rattle.std.specs.List.{slice_get}
use Rattle.std.specs.Option.{ok_or}
use Rattle.records.specs.Expressions.{supplied, access}
use Rattle.records.specs.declared.handles.TypeHandle.{TypeHandle}
use Rattle.records.specs.declared.lookups.LookupExpression.{LookupExpression}
use Rattle.records.specs.declared.refusals.Error.{Error}
use Rattle.records.specs.declared.refusals.Error.TheVariants.{InvalidOperand, InvalidType, Mismatch}
use Rattle.records.specs.declared.types.TypeInner.{TypeInner}
use Rattle.records.specs.declared.types.TypeInner.TheVariants.{Scalar}
use Rattle.run.specs.Rules.{is_int}
use Rattle.images.specs.Rules.{array_base}
use Rattle.records.specs.Refusals.{and_then, check}
use Rattle.reader.specs.declared.bring.Element.{Element}
use Rattle.memory.specs.Shelves.{Shelf}
use Rattle.memory.specs.Cells.{used, Cells}
use Rattle.reader.specs.States.{State, Step}
use Rattle.memory.specs.Lookups.{type_for, value_for}
use Rattle.reader.specs.Checks.{by_checks, value_checks}
use Rattle.reader.specs.Types.{is_resource}
use Rattle.reader.specs.Updates.{one_brought, named}

-- the type of a brought value: a scalar or vector
abbrev pub number_for : List TypeInner → Shelf → ℕ → Result TypeHandle Error
number_for types b id =
    and_then (type_for types b 0 id) (λ f.
    and_then (check (is_resource f.inner) (InvalidType 0)) (λ _.
    Ok f.handle))

abbrev pub value_bring_checks : Option ℕ → Cells → Shelf → ℕ → ℕ → Result TypeHandle Error
value_bring_checks emitter c b id ty = value_checks emitter c b id (number_for (used c.types) b ty) true

-- its value is the input whose number is that of the values brought before
abbrev pub brings_value : State → ℕ → ℕ → Step LookupExpression
brings_value s id ty =
    by_checks s (value_bring_checks s.emitter s.cells s.books id ty) (λ h.
    named s id (one_brought s.cells) (supplied h s.cells.brought) h)

-- an element of a binding array by an integer: its base, its index and its type
abbrev pub element_for : List TypeInner → ℕ → Shelf → ℕ → ℕ → Result Element Error
element_for types expressions b base index =
    and_then (value_for types expressions b 0 base) (λ x.
    and_then (value_for types expressions b 0 index) (λ i.
    and_then (ok_or (array_base x.inner) (InvalidType 0)) (λ h.
    and_then (ok_or (slice_get types h.index) Mismatch) (λ _.
    and_then (check (not (is_int (Some i.inner) Scalar)) (InvalidOperand 0)) (λ _.
    Ok (record { base = x.handle; index = i.handle; ty = h }))))))

abbrev pub element_checks : Option ℕ → Cells → Shelf → ℕ → ℕ → ℕ → Result Element Error
element_checks emitter c b id base index =
    value_checks emitter c b id (element_for (used c.types) (length (used c.expressions)) b base index) true

abbrev pub brings_element : State → ℕ → ℕ → ℕ → Step LookupExpression
brings_element s id base index =
    by_checks s (element_checks s.emitter s.cells s.books id base index) (λ e.
    named s id s.cells (access e.base e.index) e.ty)
