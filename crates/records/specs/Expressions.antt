-- The expression records by their constructors. A part that a record does not use has one fixed value.
use Rattle.std.specs.Prelude.{ℕ, List, [], ◌∷◌, Some, None}
use Rattle.records.specs.declared.handles.TypeHandle.{TypeHandle}
use Rattle.records.specs.declared.handles.ExpressionHandle.{ExpressionHandle}
use Rattle.records.specs.declared.handles.GlobalVariableHandle.{GlobalVariableHandle}
use Rattle.records.specs.declared.handles.FunctionArgumentHandle.{FunctionArgumentHandle}
use Rattle.records.specs.declared.handles.ConstantHandle.{ConstantHandle}
use Rattle.records.specs.declared.types.VectorSize.{VectorSize}
use Rattle.records.specs.declared.types.VectorSize.TheVariants.{Bi}
use Rattle.records.specs.declared.expressions.SwizzleComponent.{SwizzleComponent}
use Rattle.records.specs.declared.expressions.SwizzleComponent.TheVariants.{X}
use Rattle.records.specs.declared.expressions.SampleLevel.TheVariants.{Auto}
use Rattle.records.specs.declared.expressions.ExpressionTag.{ExpressionTag}
use Rattle.records.specs.declared.expressions.ExpressionTag.TheVariants.{GlobalVariable, FunctionArgument, Constant, Supplied, Access, AccessIndex, Compose, Splat, Swizzle, Divide, Round, As, ImageSample, ImageLoad}
use Rattle.records.specs.declared.expressions.ImageParts.{ImageParts}
use Rattle.records.specs.declared.expressions.Expression.{Expression}

abbrev pub no_variable : GlobalVariableHandle
no_variable = record { index = 0 }

abbrev pub no_argument : FunctionArgumentHandle
no_argument = record { index = 0 }

abbrev pub no_constant : ConstantHandle
no_constant = record { index = 0 }

abbrev pub no_type : TypeHandle
no_type = record { index = 0 }

abbrev pub no_expression : ExpressionHandle
no_expression = record { index = 0 }

abbrev pub no_components : List ExpressionHandle
no_components = no_expression ∷ no_expression ∷ no_expression ∷ no_expression ∷ []

abbrev pub no_pattern : List SwizzleComponent
no_pattern = X ∷ X ∷ X ∷ X ∷ []

abbrev pub no_image : ImageParts
no_image = record {
  coordinate = no_expression;
  array_index = None;
  gather = None;
  offset = None;
  level = Auto;
  depth_ref = None;
  sample = None;
  lod = None;
}

-- a record that names a variable, argument, constant, type or input, and no expression
abbrev pub leaf : ExpressionTag → GlobalVariableHandle → FunctionArgumentHandle → ConstantHandle → TypeHandle → ℕ → Expression
leaf tag v a c t i = record {
  tag = tag;
  result = None;
  variable = v;
  argument = a;
  constant = c;
  ty = t;
  base = no_expression;
  other = no_expression;
  index = i;
  size = Bi;
  components = no_components;
  pattern = no_pattern;
  image = no_image;
}

-- one that is made of one or two expressions
abbrev pub node : ExpressionTag → ExpressionHandle → ExpressionHandle → ℕ → VectorSize → List SwizzleComponent → Expression
node tag b o i s p = record {
  tag = tag;
  result = None;
  variable = no_variable;
  argument = no_argument;
  constant = no_constant;
  ty = no_type;
  base = b;
  other = o;
  index = i;
  size = s;
  components = no_components;
  pattern = p;
  image = no_image;
}

-- one that asks a texture unit
abbrev pub asking : ExpressionTag → ExpressionHandle → ExpressionHandle → ImageParts → Expression
asking tag b o i = record {
  tag = tag;
  result = None;
  variable = no_variable;
  argument = no_argument;
  constant = no_constant;
  ty = no_type;
  base = b;
  other = o;
  index = 0;
  size = Bi;
  components = no_components;
  pattern = no_pattern;
  image = i;
}

abbrev pub global_variable : GlobalVariableHandle → Expression
global_variable v = leaf GlobalVariable v no_argument no_constant no_type 0

abbrev pub function_argument : FunctionArgumentHandle → Expression
function_argument a = leaf FunctionArgument no_variable a no_constant no_type 0

abbrev pub constant_of : ConstantHandle → Expression
constant_of c = leaf Constant no_variable no_argument c no_type 0

-- a brought value: its type and the number of its input
abbrev pub supplied : TypeHandle → ℕ → Expression
supplied t i = leaf Supplied no_variable no_argument no_constant t i

abbrev pub access : ExpressionHandle → ExpressionHandle → Expression
access base index = node Access base index 0 Bi no_pattern

abbrev pub access_index : ExpressionHandle → ℕ → Expression
access_index base index = node AccessIndex base no_expression index Bi no_pattern

abbrev pub compose : TypeHandle → VectorSize → List ExpressionHandle → Expression
compose t s cs = record {
  tag = Compose;
  result = None;
  variable = no_variable;
  argument = no_argument;
  constant = no_constant;
  ty = t;
  base = no_expression;
  other = no_expression;
  index = 0;
  size = s;
  components = cs;
  pattern = no_pattern;
  image = no_image;
}

abbrev pub splat : VectorSize → ExpressionHandle → Expression
splat size value = node Splat value no_expression 0 size no_pattern

abbrev pub swizzle : VectorSize → ExpressionHandle → List SwizzleComponent → Expression
swizzle size vector pattern = node Swizzle vector no_expression 0 size pattern

abbrev pub divide : ExpressionHandle → ExpressionHandle → Expression
divide left right = node Divide left right 0 Bi no_pattern

abbrev pub round : ExpressionHandle → Expression
round arg = node Round arg no_expression 0 Bi no_pattern

-- As: to Sint
abbrev pub cast : ExpressionHandle → Expression
cast expr = node As expr no_expression 0 Bi no_pattern

abbrev pub image_sample : ExpressionHandle → ExpressionHandle → ImageParts → Expression
image_sample image sampler parts = asking ImageSample image sampler parts

abbrev pub image_load : ExpressionHandle → ImageParts → Expression
image_load image parts = asking ImageLoad image no_expression parts

-- the same record, whose value has to be of a type
abbrev pub with_result : TypeHandle → Expression → Expression
with_result t e = record {
  tag = e.tag;
  result = Some t;
  variable = e.variable;
  argument = e.argument;
  constant = e.constant;
  ty = e.ty;
  base = e.base;
  other = e.other;
  index = e.index;
  size = e.size;
  components = e.components;
  pattern = e.pattern;
  image = e.image;
}
