-- The used parts of the lists.
use Rattle.std.specs.Prelude.{List}
use Rattle.records.specs.declared.constants.Constant.{Constant}
use Rattle.records.specs.declared.expressions.Expression.{Expression}
use Rattle.records.specs.declared.types.TypeInner.{TypeInner}
use Rattle.records.specs.declared.variables.GlobalVariable.{GlobalVariable}
use Rattle.records.specs.declared.variables.FunctionArgument.{FunctionArgument}
use Rattle.run.specs.declared.lists.Lists.{Lists as UsedLists}
use Rattle.memory.specs.Cells.{used, Cells}

pub record Used : Type 0 where
  pub types : List TypeInner
  pub variables : List GlobalVariable
  pub arguments : List FunctionArgument
  pub constants : List Constant
  pub expressions : List Expression

abbrev pub used_of : UsedLists → Used
used_of l = record {
  types = l.types.now;
  variables = l.variables.now;
  arguments = l.arguments.now;
  constants = l.constants.now;
  expressions = l.expressions.now;
}

abbrev pub used_in : Cells → Used
used_in c = record {
  types = used c.types;
  variables = used c.variables;
  arguments = used c.arguments;
  constants = used c.constants;
  expressions = used c.expressions;
}
