-- Which image and sampler an instruction means, and which component it gathers.
use Rattle.std.specs.Prelude.{ℕ, zero, suc, cond, None, Ok, Err, Option, Result, nat_lt}
use Rattle.std.specs.List.{slice_get}
use Rattle.std.specs.Option.{ok_or, option_map}
use Rattle.records.specs.declared.constants.Constant.{Constant}
use Rattle.records.specs.declared.constants.Literal.{Literal}
use Rattle.records.specs.declared.constants.Literal.TheVariants.{U32, I32, F32}
use Rattle.records.specs.declared.expressions.Expression.{Expression}
use Rattle.records.specs.declared.expressions.ExpressionTag.{ExpressionTag}
use Rattle.records.specs.declared.expressions.ExpressionTag.TheVariants as tags
use Rattle.records.specs.declared.expressions.SwizzleComponent.{SwizzleComponent}
use Rattle.records.specs.declared.handles.ExpressionHandle.{ExpressionHandle}
use Rattle.records.specs.declared.handles.FunctionArgumentHandle.{FunctionArgumentHandle}
use Rattle.records.specs.declared.handles.GlobalVariableHandle.{GlobalVariableHandle}
use Rattle.records.specs.declared.handles.TypeHandle.{TypeHandle}
use Rattle.records.specs.declared.refusals.Error.{Error}
use Rattle.records.specs.declared.refusals.Error.TheVariants.{InvalidOperand, InvalidImageExpression, InvalidGlobalVar, Mismatch}
use Rattle.records.specs.declared.types.TypeInner.{TypeInner}
use Rattle.records.specs.declared.variables.GlobalVariable.{GlobalVariable}
use Rattle.records.specs.declared.variables.FunctionArgument.{FunctionArgument}
use Rattle.units.specs.Arithmetic.{sint_to_bits}
use Rattle.units.specs.declared.values.Root.{Root}
use Rattle.units.specs.declared.values.Root.TheVariants.{Variable, Argument}
use Rattle.records.specs.Numbers.{component_numbered}
use Rattle.records.specs.Refusals.{and_then}
use Rattle.images.specs.declared.find.FoundResource.{FoundResource}
use Rattle.images.specs.Rules.{array_base}
use Rattle.images.specs.Used.{Used}

-- what a number in a record names; 16 where it lies outside

abbrev pub expression_at : Used → ExpressionHandle → Result Expression Error
expression_at u h = ok_or (slice_get u.expressions h.index) Mismatch

abbrev pub variable_type : Used → GlobalVariableHandle → Result TypeHandle Error
variable_type u h = ok_or (option_map (λ (v : GlobalVariable). v.ty) (slice_get u.variables h.index)) Mismatch

abbrev pub argument_type : Used → FunctionArgumentHandle → Result TypeHandle Error
argument_type u h = ok_or (option_map (λ (a : FunctionArgument). a.ty) (slice_get u.arguments h.index)) Mismatch

abbrev pub inner_at : Used → TypeHandle → Result TypeInner Error
inner_at u h = ok_or (slice_get u.types h.index) Mismatch

-- The type of the image of a load or store: that of the variable or argument itself, or under any number of elements. An
-- element's base comes before it; anything else is no image: 8. Expression h is looked at, in at most k steps.

abbrev pub image_type_by : (ℕ → Result TypeHandle Error) → Used → ℕ → ℕ → Expression → ExpressionTag → Result TypeHandle Error
image_type_by below u place h e tags.GlobalVariable = variable_type u e.variable
image_type_by below u place h e tags.FunctionArgument = argument_type u e.argument
image_type_by below u place h e tags.Access = cond (nat_lt e.base.index h) (below e.base.index) (Err Mismatch)
image_type_by below u place h e _ = Err (InvalidImageExpression place)

unfoldable pub image_type_in : ℕ → Used → ℕ → ℕ → Result TypeHandle Error
image_type_in zero u place h = Err Mismatch
image_type_in (suc k) u place h =
    and_then (ok_or (slice_get u.expressions h) Mismatch) (λ e. image_type_by (image_type_in k u place) u place h e e.tag)

-- steps enough
abbrev pub image_type : Used → ℕ → ℕ → Result TypeHandle Error
image_type u place h = image_type_in (suc h) u place h

-- The image or sampler of a sample or gather: a variable, an argument, or an element of a variable; else 9. Its type is
-- that of the element.

abbrev pub resource : Used → Root → TypeHandle → Result FoundResource Error
resource u root h = and_then (inner_at u h) (λ t. Ok (record { root = root; inner = t }))

abbrev pub element_of : Used → ℕ → Expression → ExpressionTag → Result FoundResource Error
element_of u place e tags.GlobalVariable =
    and_then (variable_type u e.variable) (λ h.
    and_then (inner_at u h) (λ t.
    and_then (ok_or (array_base t) (InvalidGlobalVar place)) (λ b.
    resource u (Variable e.variable) b)))
element_of u place e _ = Err (InvalidGlobalVar place)

abbrev pub resource_by : Used → ℕ → Expression → ExpressionTag → Result FoundResource Error
resource_by u place e tags.GlobalVariable = and_then (variable_type u e.variable) (λ h. resource u (Variable e.variable) h)
resource_by u place e tags.FunctionArgument = and_then (argument_type u e.argument) (λ h. resource u (Argument e.argument) h)
resource_by u place e tags.Access = and_then (expression_at u e.base) (λ b. element_of u place b b.tag)
resource_by u place e _ = Err (InvalidGlobalVar place)

abbrev pub resource_at : Used → ℕ → ExpressionHandle → Result FoundResource Error
resource_at u place h = and_then (expression_at u h) (λ e. resource_by u place e e.tag)

-- The component of a gather is an integer constant from 0 to 3, by its bits; else 7.

abbrev pub component_of : Literal → Option SwizzleComponent
component_of (U32 n) = component_numbered n
component_of (I32 i) = component_numbered (sint_to_bits i)
component_of (F32 x) = None

abbrev pub component_constant : Used → ℕ → Expression → Result SwizzleComponent Error
component_constant u place e =
    and_then (ok_or (option_map (λ (c : Constant). c.value) (slice_get u.constants e.constant.index)) Mismatch) (λ l.
    ok_or (component_of l) (InvalidOperand place))

abbrev pub component_by : Used → ℕ → Expression → ExpressionTag → Result SwizzleComponent Error
component_by u place e tags.Constant = component_constant u place e
component_by u place e _ = Err (InvalidOperand place)

abbrev pub component_at : Used → ℕ → ExpressionHandle → Result SwizzleComponent Error
component_at u place h = and_then (expression_at u h) (λ e. component_by u place e e.tag)
