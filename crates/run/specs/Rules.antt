-- What each expression needs, and the type of what it comes to. Types only: no value is looked at.
use Rattle.std.specs.Prelude.{ℕ, Bool, true, false, cond, not, ◌&&◌, ◌||◌, List, is_some, Some, None, Ok, Err, Option, Result, ◌==◌, nat_lt, slice_index_or}
use Rattle.records.specs.declared.constants.Literal.{Literal}
use Rattle.records.specs.declared.constants.Literal.TheVariants.{U32, I32, F32}
use Rattle.records.specs.declared.handles.TypeHandle.{TypeHandle}
use Rattle.records.specs.declared.handles.ExpressionHandle.{ExpressionHandle}
use Rattle.records.specs.declared.types.ScalarKind.{ScalarKind}
use Rattle.records.specs.declared.types.ScalarKind.TheVariants.{Sint, Uint, Float, Bool as BoolKind}
use Rattle.records.specs.declared.types.VectorSize.{VectorSize}
use Rattle.records.specs.declared.types.VectorSize.TheVariants.{Bi, Tri, Quad}
use Rattle.records.specs.declared.types.ImageDimension.{ImageDimension}
use Rattle.records.specs.declared.types.ImageDimension.TheVariants.{D1, D2, D3, Cube}
use Rattle.records.specs.declared.types.ImageClass.{ImageClass}
use Rattle.records.specs.declared.types.ImageClass.TheVariants.{Depth}
use Rattle.records.specs.declared.types.TypeInner.{TypeInner}
use Rattle.records.specs.declared.types.TypeInner.TheVariants.{Scalar, Vector, Image, Sampler, BindingArray}
use Rattle.records.specs.declared.expressions.SwizzleComponent.{SwizzleComponent}
use Rattle.records.specs.declared.expressions.SwizzleComponent.TheVariants.{X}
use Rattle.records.specs.declared.expressions.SampleLevel.{SampleLevel}
use Rattle.records.specs.declared.expressions.SampleLevel.TheVariants.{Auto, Zero, Exact, Bias, Gradient}
use Rattle.records.specs.declared.expressions.ExpressionTag.{ExpressionTag}
use Rattle.records.specs.declared.expressions.ExpressionTag.TheVariants.{GlobalVariable, FunctionArgument, Constant, Supplied, Access, AccessIndex, Compose, Splat, Swizzle, Divide, Round, As, ImageSample, ImageLoad}
use Rattle.records.specs.declared.expressions.Expression.{Expression}
use Rattle.run.specs.declared.rules.Miss.{Miss}
use Rattle.run.specs.declared.rules.Miss.TheVariants.{Lacking, Outside}
use Rattle.run.specs.Envs.{Env}
use Rattle.records.specs.Numbers.{size_of, component_number}
use Rattle.records.specs.Types.{same_type}
use Rattle.run.specs.Types.{on, none_or, when, scalar_kind, class_kind, part_type}

-- the types of the values worked out so far
abbrev pub Known : Type 0
Known = ℕ → Option TypeInner

-- what the first pass sees of an expression: the type that it comes to, or why it has none
abbrev pub Sight : Type 0
Sight = Result TypeInner Miss

-- what a number outside the used lists makes of an expression, and what a missing type does
abbrev pub listed : {X : Type 0} → Option X → (X → Sight) → Sight
listed None f = Err Outside
listed (Some x) f = f x

abbrev pub known : Option TypeInner → (TypeInner → Sight) → Sight
known None f = Err Lacking
known (Some t) f = f t

abbrev pub fine : Option TypeInner → Sight
fine None = Err Lacking
fine (Some t) = Ok t

abbrev pub test : Bool → TypeInner → Sight
test b t = cond b (Ok t) (Err Lacking)

-- whether the type of an operand is this one
abbrev pub is_of : Option TypeInner → TypeInner → Bool
is_of None u = false
is_of (Some t) u = same_type t u

abbrev pub is_int : Option TypeInner → (ScalarKind → TypeInner) → Bool
is_int o of = is_of o (of Sint) || is_of o (of Uint)

-- textures, samplers and arrays of them; scalars and vectors

abbrev pub texture_type : TypeInner → Option TypeInner
texture_type (Scalar k) = None
texture_type (Vector s k) = None
texture_type t = Some t

abbrev pub number_type : TypeInner → Option TypeInner
number_type (Scalar k) = Some (Scalar k)
number_type (Vector s k) = Some (Vector s k)
number_type _ = None

abbrev pub literal_type : Literal → TypeInner
literal_type (U32 x) = Scalar Uint
literal_type (I32 x) = Scalar Sint
literal_type (F32 x) = Scalar Float

-- a variable or argument by the handle of its type
abbrev pub resource : Env → Option TypeHandle → Sight
resource env o = listed o (λ h. listed (env.types h.index) (λ t. fine (texture_type t)))

-- an element of a binding array; the index is an integer scalar
abbrev pub element : Env → TypeInner → TypeInner → Sight
element env (BindingArray b) i =
    cond (is_int (Some i) Scalar) (listed (env.types b.index) (λ t. fine (texture_type t))) (Err Lacking)
element env _ i = Err Lacking

-- whether the first of four, as many as the size says, pass a test
abbrev pub of_first : {X : Type 0} → VectorSize → List X → X → (X → Bool) → Bool
of_first size xs d passes =
    let at : ℕ → Bool = λ i. passes (slice_index_or xs i d) in
    (at 0 && at 1) && ((nat_lt (size_of size) 3 || at 2) && (nat_lt (size_of size) 4 || at 3))

abbrev pub no_handle : ExpressionHandle
no_handle = record { index = 0 }

-- the types of the components that a Compose takes: as many scalars as the size says
abbrev pub composes : Known → VectorSize → List ExpressionHandle → ScalarKind → Bool
composes tys size cs k = of_first size cs no_handle (λ h. is_of (tys h.index) (Scalar k))

abbrev pub compose_type : Known → VectorSize → List ExpressionHandle → TypeInner → Sight
compose_type tys size cs (Vector s k) = test (size_of s == size_of size && composes tys size cs k) (Vector s k)
compose_type tys size cs _ = Err Lacking

abbrev pub splat_type : VectorSize → TypeInner → Option TypeInner
splat_type size t = on (scalar_kind t) (λ k. Some (Vector size k))

-- whether a vector of n components has those that the first `size` of a pattern name
abbrev pub has_pattern : ℕ → VectorSize → List SwizzleComponent → Bool
has_pattern n size p = of_first size p X (λ c. nat_lt (component_number c) n)

abbrev pub swizzle_type : VectorSize → List SwizzleComponent → TypeInner → Option TypeInner
swizzle_type size p (Vector s k) = when (has_pattern (size_of s) size p) (Vector size k)
swizzle_type size p _ = None

abbrev pub castable : ScalarKind → Bool
castable BoolKind = false
castable _ = true

abbrev pub cast_type : TypeInner → Option TypeInner
cast_type t = on (scalar_kind t) (λ k. when (castable k) (Scalar Sint))

-- a place in an image of a dimension, of a kind
abbrev pub place_type : ImageDimension → ScalarKind → TypeInner
place_type D1 k = Scalar k
place_type D2 k = Vector Bi k
place_type D3 k = Vector Tri k
place_type Cube k = Vector Tri k

abbrev pub is_depth : ImageClass → Bool
is_depth (Depth m) = true
is_depth _ = false

-- operands that may be missing

abbrev pub layer_fits : Known → Bool → Option ExpressionHandle → Bool
layer_fits tys arrayed None = not arrayed
layer_fits tys arrayed (Some h) = arrayed && is_of (tys h.index) (Scalar Sint)

abbrev pub offset_fits : Known → ImageDimension → Option ExpressionHandle → Bool
offset_fits tys d = none_or (λ h. is_int (tys h.index) (place_type d))

abbrev pub float_fits : Known → Option ExpressionHandle → Bool
float_fits tys = none_or (λ h. is_of (tys h.index) (Scalar Float))

abbrev pub integer_fits : Known → Option ExpressionHandle → Bool
integer_fits tys = none_or (λ h. is_int (tys h.index) Scalar)

abbrev pub level_fits : Known → ImageDimension → SampleLevel → Bool
level_fits tys d Auto = true
level_fits tys d Zero = true
level_fits tys d (Exact h) = is_of (tys h.index) (Scalar Float)
level_fits tys d (Bias h) = is_of (tys h.index) (Scalar Float)
level_fits tys d (Gradient x y) = is_of (tys x.index) (place_type d Float) && is_of (tys y.index) (place_type d Float)

-- what a sample or gather, and a load, of an image comes to
abbrev pub sample_fits : Known → Expression → ImageDimension → Bool → Bool
sample_fits tys e d arrayed =
    is_of (tys e.other.index) Sampler && (is_of (tys e.image.coordinate.index) (place_type d Float)
    && (layer_fits tys arrayed e.image.array_index && (offset_fits tys d e.image.offset
    && (level_fits tys d e.image.level && float_fits tys e.image.depth_ref))))

abbrev pub answered_by : Bool → ImageClass → TypeInner
answered_by one c = cond one (Scalar Float) (Vector Quad (class_kind c))

abbrev pub sampled_by : Expression → ImageClass → TypeInner
sampled_by e c = answered_by ((is_depth c || is_some e.image.depth_ref) && not (is_some e.image.gather)) c

abbrev pub sample_type : Known → Expression → TypeInner → Sight
sample_type tys e (Image d a c) = test (sample_fits tys e d a) (sampled_by e c)
sample_type tys e _ = Err Lacking

abbrev pub load_fits : Known → Expression → ImageDimension → Bool → Bool
load_fits tys e d arrayed =
    is_int (tys e.image.coordinate.index) (place_type d) && (layer_fits tys arrayed e.image.array_index
    && (integer_fits tys e.image.sample && integer_fits tys e.image.lod))

abbrev pub load_type : Known → Expression → TypeInner → Sight
load_type tys e (Image d a c) = test (load_fits tys e d a) (answered_by (is_depth c) c)
load_type tys e _ = Err Lacking

-- the numbers that a record names, inside the used lists

abbrev pub inside_one : Env → ExpressionHandle → Bool
inside_one env h = nat_lt h.index env.count

abbrev pub inside_option : Env → Option ExpressionHandle → Bool
inside_option env = none_or (inside_one env)

abbrev pub inside_level : Env → SampleLevel → Bool
inside_level env Auto = true
inside_level env Zero = true
inside_level env (Exact h) = inside_one env h
inside_level env (Bias h) = inside_one env h
inside_level env (Gradient x y) = inside_one env x && inside_one env y

abbrev pub inside_components : Env → VectorSize → List ExpressionHandle → Bool
inside_components env size cs = of_first size cs no_handle (inside_one env)

abbrev pub inside_image : Env → Expression → Bool
inside_image env e =
    inside_one env e.base && (inside_one env e.image.coordinate && (inside_option env e.image.array_index
    && (inside_option env e.image.offset && (inside_level env e.image.level && (inside_option env e.image.depth_ref
    && (inside_option env e.image.sample && inside_option env e.image.lod))))))

abbrev pub inside_tag : Env → Expression → ExpressionTag → Bool
inside_tag env e GlobalVariable = is_some (env.variables e.variable.index)
inside_tag env e FunctionArgument = is_some (env.arguments e.argument.index)
inside_tag env e Constant = is_some (env.constants e.constant.index)
inside_tag env e Supplied = is_some (env.types e.ty.index)
inside_tag env e Access = inside_one env e.base && inside_one env e.other
inside_tag env e AccessIndex = inside_one env e.base
inside_tag env e Compose = is_some (env.types e.ty.index) && inside_components env e.size e.components
inside_tag env e Splat = inside_one env e.base
inside_tag env e Swizzle = inside_one env e.base
inside_tag env e Divide = inside_one env e.base && inside_one env e.other
inside_tag env e Round = inside_one env e.base
inside_tag env e As = inside_one env e.base
inside_tag env e ImageSample = inside_one env e.other && inside_image env e
inside_tag env e ImageLoad = inside_image env e

abbrev pub inside_result : Env → Option TypeHandle → Bool
inside_result env = none_or (λ h. is_some (env.types h.index))

-- the type of what a record comes to, were all its numbers inside: first of one that is made of an expression of a type
abbrev pub made_of : Env → Known → Expression → TypeInner → ExpressionTag → Sight
made_of env tys e base Access = known (tys e.other.index) (element env base)
made_of env tys e base AccessIndex = fine (part_type e.index base)
made_of env tys e base Splat = fine (splat_type e.size base)
made_of env tys e base Swizzle = fine (swizzle_type e.size e.pattern base)
made_of env tys e base As = fine (cast_type base)
made_of env tys e base ImageSample = sample_type tys e base
made_of env tys e base ImageLoad = load_type tys e base
made_of env tys e base _ = Err Lacking

-- then of one whose type does not hang on one base alone
abbrev pub leaf_rule : Env → Known → Expression → ExpressionTag → Option Sight
leaf_rule env tys e GlobalVariable = Some (resource env (env.variables e.variable.index))
leaf_rule env tys e FunctionArgument = Some (resource env (env.arguments e.argument.index))
leaf_rule env tys e Constant = Some (listed (env.constants e.constant.index) (λ l. Ok (literal_type l)))
leaf_rule env tys e Supplied = Some (listed (env.types e.ty.index) (λ t. fine (number_type t)))
leaf_rule env tys e Compose = Some (listed (env.types e.ty.index) (compose_type tys e.size e.components))
leaf_rule env tys e Divide = Some (test (is_of (tys e.base.index) (Scalar Float) && is_of (tys e.other.index) (Scalar Float)) (Scalar Float))
leaf_rule env tys e Round = Some (test (is_of (tys e.base.index) (Scalar Float)) (Scalar Float))
leaf_rule env tys e _ = None

abbrev pub otherwise : {X : Type 0} → Option X → X → X
otherwise None y = y
otherwise (Some x) y = x

abbrev pub rule_of : Env → Known → Expression → Sight
rule_of env tys e = otherwise (leaf_rule env tys e e.tag) (known (tys e.base.index) (λ base. made_of env tys e base e.tag))

-- and of the type that the record states, if it states one
abbrev pub result_fits : Env → Option TypeHandle → TypeInner → Sight
result_fits env None t = Ok t
result_fits env (Some h) t = listed (env.types h.index) (λ r. test (same_type t r) t)

abbrev pub resulting : Env → Option TypeHandle → Sight → Sight
resulting env o (Ok t) = result_fits env o t
resulting env o (Err miss) = Err miss

-- What is seen of a record: a number outside comes before anything that it lacks.
abbrev pub seen : Env → Known → Expression → Sight
seen env tys e =
    cond (inside_result env e.result && inside_tag env e e.tag) (resulting env e.result (rule_of env tys e)) (Err Outside)
