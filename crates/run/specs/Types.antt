-- Tests on types, and what an operation makes of the types of its operands.
use Rattle.std.specs.Prelude.{ℕ, Bool, true, false, cond, Some, None, Option, nat_lt}
use Rattle.records.specs.declared.types.ScalarKind.{ScalarKind}
use Rattle.records.specs.declared.types.ScalarKind.TheVariants.{Sint, Uint, Float, Bool as BoolKind}
use Rattle.records.specs.declared.types.ImageClass.{ImageClass}
use Rattle.records.specs.declared.types.ImageClass.TheVariants.{Sampled, Depth, Storage}
use Rattle.records.specs.declared.types.TypeInner.{TypeInner}
use Rattle.records.specs.declared.types.TypeInner.TheVariants.{Scalar, Vector, Image, Sampler, BindingArray}
use Rattle.records.specs.Numbers.{size_of}

-- options, one after another

abbrev pub on : {X Y : Type 0} → Option X → (X → Option Y) → Option Y
on None f = None
on (Some x) f = f x

-- a test of what may be missing
abbrev pub none_or : {X : Type 0} → (X → Bool) → Option X → Bool
none_or test None = true
none_or test (Some x) = test x

abbrev pub when : {X : Type 0} → Bool → X → Option X
when b x = cond b (Some x) None

-- the kind of a scalar, and of an integer or a Float scalar
abbrev pub scalar_kind : TypeInner → Option ScalarKind
scalar_kind (Scalar k) = Some k
scalar_kind _ = None

abbrev pub is_integer : ScalarKind → Bool
is_integer Sint = true
is_integer Uint = true
is_integer Float = false
is_integer BoolKind = false

abbrev pub is_float : ScalarKind → Bool
is_float Float = true
is_float _ = false

-- how many components, and their kind; a texture or sampler has none
abbrev pub count_in : TypeInner → ℕ
count_in (Scalar k) = 1
count_in (Vector s k) = size_of s
count_in _ = 0

abbrev pub class_kind : ImageClass → ScalarKind
class_kind (Sampled k m) = k
class_kind (Depth m) = Float
class_kind (Storage k) = k

-- of an image the kind of its texels
abbrev pub kind_in : TypeInner → ScalarKind
kind_in (Scalar k) = k
kind_in (Vector s k) = k
kind_in (Image d a c) = class_kind c
kind_in Sampler = Float
kind_in (BindingArray b) = Float

-- the type of one component of a vector
abbrev pub part_type : ℕ → TypeInner → Option TypeInner
part_type i (Vector s k) = when (nat_lt i (size_of s)) (Scalar k)
part_type i _ = None
