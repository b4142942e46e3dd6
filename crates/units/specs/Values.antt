-- Values and their types.
use Rattle.std.specs.Prelude.{ℕ, [], ◌∷◌, Float as Binary}
use Rattle.records.specs.declared.types.ScalarKind.{ScalarKind}
use Rattle.records.specs.declared.types.ScalarKind.TheVariants as kinds
use Rattle.records.specs.declared.types.VectorSize.{VectorSize}
use Rattle.records.specs.declared.types.VectorSize.TheVariants.{Bi, Tri, Quad}
use Rattle.records.specs.declared.types.TypeInner.{TypeInner}
use Rattle.records.specs.declared.types.TypeInner.TheVariants.{Scalar, Vector, Sampler}
use Rattle.units.specs.declared.values.Width.{Width}
use Rattle.units.specs.declared.values.Width.TheVariants.{One, Two, Three, Four}
use Rattle.units.specs.declared.values.Lanes.{Lanes}
use Rattle.units.specs.declared.values.Lanes.TheVariants.{Float, Sint, Uint, Bool}
use Rattle.units.specs.declared.values.Components.{Components}
use Rattle.units.specs.declared.values.Value.{Value}
use Rattle.units.specs.declared.values.Value.TheVariants.{Number, Texture}
use Rattle.units.specs.Arithmetic.{zero_float}

abbrev pub count_of : Width → ℕ
count_of One = 1
count_of Two = 2
count_of Three = 3
count_of Four = 4

abbrev pub width_of : VectorSize → Width
width_of Bi = Two
width_of Tri = Three
width_of Quad = Four

abbrev pub kind_of : Lanes → ScalarKind
kind_of (Float xs) = kinds.Float
kind_of (Sint xs) = kinds.Sint
kind_of (Uint xs) = kinds.Uint
kind_of (Bool xs) = kinds.Bool

-- a scalar of kind Float
abbrev pub float_scalar : Binary → Components
float_scalar x = record { width = One; lanes = Float (x ∷ zero_float ∷ zero_float ∷ zero_float ∷ []) }

abbrev pub shape : Width → ScalarKind → TypeInner
shape One k = Scalar k
shape Two k = Vector Bi k
shape Three k = Vector Tri k
shape Four k = Vector Quad k

-- a reference is never of a scalar or a vector
abbrev pub as_handle : TypeInner → TypeInner
as_handle (Scalar k) = Sampler
as_handle (Vector s k) = Sampler
as_handle t = t

abbrev pub type_of : Value → TypeInner
type_of (Number c) = shape c.width (kind_of c.lanes)
type_of (Texture r) = as_handle r.ty
