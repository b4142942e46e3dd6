-- The type of an expression from the records alone, along one path of bases: what the first pass goes by.
use Rattle.std.specs.Prelude.{ℕ, zero, suc, cond, List, Some, None, Option, nat_lt}
use Rattle.std.specs.List.{slice_get}
use Rattle.records.specs.declared.handles.TypeHandle.{TypeHandle}
use Rattle.records.specs.declared.types.ScalarKind.TheVariants.{Sint, Float}
use Rattle.records.specs.declared.types.TypeInner.{TypeInner}
use Rattle.records.specs.declared.types.TypeInner.TheVariants.{Scalar, Vector, Image, BindingArray}
use Rattle.records.specs.declared.expressions.ExpressionTag.{ExpressionTag}
use Rattle.records.specs.declared.expressions.ExpressionTag.TheVariants.{GlobalVariable, FunctionArgument, Constant, Supplied, Access, AccessIndex, Compose, Splat, Swizzle, Divide, Round, As, ImageSample, ImageLoad}
use Rattle.records.specs.declared.expressions.Expression.{Expression}
use Rattle.run.specs.declared.before.Before.{Before}
use Rattle.run.specs.Envs.{Env, env_of}
use Rattle.run.specs.Types.{on, kind_in}
use Rattle.run.specs.Rules.{Known, literal_type, is_depth, answered_by, sampled_by}

abbrev pub type_by : Env → Option TypeHandle → Option TypeInner
type_by env o = on o (λ h. env.types h.index)

abbrev pub element_type : Env → TypeInner → Option TypeInner
element_type env (BindingArray b) = env.types b.index
element_type env _ = None

abbrev pub sampled_type : Expression → TypeInner → Option TypeInner
sampled_type e (Image d a c) = Some (sampled_by e c)
sampled_type e _ = None

abbrev pub loaded_type : TypeInner → Option TypeInner
loaded_type (Image d a c) = Some (answered_by (is_depth c) c)
loaded_type _ = None

-- base is the type of the record's base, where it has one
abbrev pub static_tag : Env → Option TypeInner → Expression → ExpressionTag → Option TypeInner
static_tag env base e GlobalVariable = type_by env (env.variables e.variable.index)
static_tag env base e FunctionArgument = type_by env (env.arguments e.argument.index)
static_tag env base e Constant = on (env.constants e.constant.index) (λ l. Some (literal_type l))
static_tag env base e Supplied = env.types e.ty.index
static_tag env base e Access = on base (element_type env)
static_tag env base e AccessIndex = on base (λ t. Some (Scalar (kind_in t)))
static_tag env base e Compose = env.types e.ty.index
static_tag env base e Splat = on base (λ t. Some (Vector e.size (kind_in t)))
static_tag env base e Swizzle = on base (λ t. Some (Vector e.size (kind_in t)))
static_tag env base e Divide = Some (Scalar Float)
static_tag env base e Round = Some (Scalar Float)
static_tag env base e As = Some (Scalar Sint)
static_tag env base e ImageSample = on base (sampled_type e)
static_tag env base e ImageLoad = on base loaded_type

-- a stated result type is the type
abbrev pub static_of : Env → Option TypeInner → Expression → Option TypeHandle → Option TypeInner
static_of env base e None = static_tag env base e e.tag
static_of env base e (Some h) = env.types h.index

-- in at most k steps; a base comes before the expression
unfoldable pub static_in : ℕ → Env → List Expression → Known
static_in zero env es h = None
static_in (suc k) env es h =
    on (slice_get es h) (λ e. static_of env (cond (nat_lt e.base.index h) (static_in k env es e.base.index) None) e e.result)

-- steps enough
abbrev pub static : Env → List Expression → Known
static env es h = static_in (suc h) env es h

-- what the first pass knows before expression i
abbrev pub known_before : Env → List Expression → ℕ → Known
known_before env es i h = cond (nat_lt h i) (static env es h) None

abbrev pub known_by : Before → Known
known_by b = known_before (env_of b.lists) b.lists.expressions.now b.i
