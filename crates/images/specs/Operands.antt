-- The operands after a mask: looked up, and held to their types.
use Rattle.std.specs.Prelude.{Bool, cond, not, length, Some, None, Ok, Option, Result}
use Rattle.std.specs.Option.{option_map, option_transpose}
use Rattle.records.specs.declared.handles.ExpressionHandle.{ExpressionHandle}
use Rattle.records.specs.declared.refusals.Error.{Error}
use Rattle.records.specs.declared.refusals.Error.TheVariants.{InvalidOperand}
use Rattle.records.specs.declared.types.ImageDimension.{ImageDimension}
use Rattle.records.specs.declared.types.TypeInner.{TypeInner}
use Rattle.records.specs.Refusals.{and_then, check}
use Rattle.words.specs.declared.operands.IdRef.{IdRef}
use Rattle.words.specs.declared.operands.Gradient.{Gradient}
use Rattle.words.specs.declared.operands.ImageOperands.{ImageOperands}
use Rattle.memory.specs.Lookups.{type_for, value_for}
use Rattle.memory.specs.Shelves.{Shelf}
use Rattle.memory.specs.declared.found.FoundType.{FoundType}
use Rattle.memory.specs.declared.found.FoundValue.{FoundValue}
use Rattle.images.specs.declared.operands.Operand.{Operand}
use Rattle.images.specs.declared.operands.FoundGradient.{FoundGradient}
use Rattle.images.specs.declared.operands.FoundOperands.{FoundOperands}
use Rattle.images.specs.Used.{Used}
use Rattle.images.specs.Rules.{is_float_scalar, grad_fits, offset_fits, is_integer_scalar}

-- ids

abbrev pub value_of : Used → Shelf → IdRef → Result FoundValue Error
value_of u b r = value_for u.types (length u.expressions) b r.place r.id

abbrev pub type_of : Used → Shelf → IdRef → Result FoundType Error
type_of u b r = type_for u.types b r.place r.id

abbrev pub operand : Used → Shelf → IdRef → Result Operand Error
operand u b r = and_then (value_of u b r) (λ v. Ok (record { value = v; place = r.place }))

abbrev pub optional : Used → Shelf → Option IdRef → Result (Option Operand) Error
optional u b o = option_transpose (option_map (operand u b) o)

abbrev pub gradient : Used → Shelf → Gradient → Result FoundGradient Error
gradient u b g =
    and_then (operand u b g.x) (λ x.
    and_then (operand u b g.y) (λ y.
    Ok (record { x = x; y = y })))

abbrev pub optional_grad : Used → Shelf → Option Gradient → Result (Option FoundGradient) Error
optional_grad u b g = option_transpose (option_map (gradient u b) g)

-- the operands by rising bit; those that are stepped over are not looked up
abbrev pub operands_for : Used → Shelf → ImageOperands → Result FoundOperands Error
operands_for u b o =
    and_then (optional u b o.bias) (λ bias.
    and_then (optional u b o.lod) (λ lod.
    and_then (optional_grad u b o.grad) (λ grad.
    and_then (optional u b o.const_offset) (λ offset.
    and_then (optional u b o.sample) (λ sample.
    Ok (record { bias = bias; lod = lod; grad = grad; offset = offset; sample = sample }))))))

-- their types, in the same order: 7, blaming the operand

abbrev pub typed_by : Bool → Operand → Result (Unit {0}) Error
typed_by right o = check (not right) (InvalidOperand o.place)

-- an operand that is there has a right type
abbrev pub typed : (TypeInner → Bool) → Option Operand → Result (Unit {0}) Error
typed right None = Ok tt
typed right (Some o) = typed_by (right o.value.inner) o

abbrev pub bias_fits : Option Operand → Result (Unit {0}) Error
bias_fits o = typed is_float_scalar o

-- of a sample a Float, of a load an integer
abbrev pub lod_fits : Bool → Option Operand → Result (Unit {0}) Error
lod_fits load o = typed (cond load is_integer_scalar is_float_scalar) o

abbrev pub grads_fit : ImageDimension → Option FoundGradient → Result (Unit {0}) Error
grads_fit d None = Ok tt
grads_fit d (Some g) = and_then (typed (grad_fits d) (Some g.x)) (λ _. typed (grad_fits d) (Some g.y))

abbrev pub offset_operand_fits : ImageDimension → Option Operand → Result (Unit {0}) Error
offset_operand_fits d o = typed (offset_fits d) o

abbrev pub sample_fits : Option Operand → Result (Unit {0}) Error
sample_fits o = typed is_integer_scalar o

abbrev pub operands_fit : Bool → ImageDimension → FoundOperands → Result (Unit {0}) Error
operands_fit load d o =
    and_then (bias_fits o.bias) (λ _.
    and_then (lod_fits load o.lod) (λ _.
    and_then (grads_fit d o.grad) (λ _.
    and_then (offset_operand_fits d o.offset) (λ _.
    sample_fits o.sample))))

abbrev pub handle_of : Option Operand → Option ExpressionHandle
handle_of o = option_map (λ (x : Operand). x.value.handle) o
