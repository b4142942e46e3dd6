-- What the numbers of the lists stand for.
use Rattle.std.specs.Prelude.{ℕ, List, length, Option}
use Rattle.std.specs.List.{slice_get}
use Rattle.std.specs.Option.{option_map}
use Rattle.records.specs.declared.handles.TypeHandle.{TypeHandle}
use Rattle.records.specs.declared.types.TypeInner.{TypeInner}
use Rattle.records.specs.declared.constants.Constant.{Constant}
use Rattle.records.specs.declared.constants.Literal.{Literal}
use Rattle.records.specs.declared.variables.GlobalVariable.{GlobalVariable}
use Rattle.records.specs.declared.variables.FunctionArgument.{FunctionArgument}
use Rattle.run.specs.declared.lists.Lists.{Lists}

pub record Env : Type 0 where
  pub types : ℕ → Option TypeInner
  pub variables : ℕ → Option TypeHandle
  pub arguments : ℕ → Option TypeHandle
  pub constants : ℕ → Option Literal
  -- how many expressions there are
  pub count : ℕ

abbrev pub env_of : Lists → Env
env_of l = record {
  types = slice_get l.types.now;
  variables = λ h. option_map (λ (v : GlobalVariable). v.ty) (slice_get l.variables.now h);
  arguments = λ h. option_map (λ (a : FunctionArgument). a.ty) (slice_get l.arguments.now h);
  constants = λ h. option_map (λ (c : Constant). c.value) (slice_get l.constants.now h);
  count = length l.expressions.now;
}

-- the same by plain lists
abbrev pub env_from : List TypeInner → List GlobalVariable → List FunctionArgument → List Constant → ℕ → Env
env_from types variables arguments constants count = record {
  types = slice_get types;
  variables = λ h. option_map (λ (v : GlobalVariable). v.ty) (slice_get variables h);
  arguments = λ h. option_map (λ (a : FunctionArgument). a.ty) (slice_get arguments h);
  constants = λ h. option_map (λ (c : Constant). c.value) (slice_get constants h);
  count = count;
}
