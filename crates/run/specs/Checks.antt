-- What the three checks of a run's lists find, in their order.
use Rattle.std.specs.Prelude.{List, Option}
use Rattle.units.specs.declared.values.Components.{Components}
use Rattle.run.specs.declared.lists.Lists.{Lists}
use Rattle.run.specs.declared.passes.Halt.{Halt}
use Rattle.run.specs.Envs.{env_of}
use Rattle.run.specs.Inputs.{halting_inputs}
use Rattle.run.specs.Rules.{Known}
use Rattle.run.specs.Runs.{or_else, halting}
use Rattle.run.specs.Statics.{known_before}
use Rattle.run.specs.Stores.{halting_stores}

abbrev pub inputs_halt : Lists → List Components → Option Halt
inputs_halt l ins = halting_inputs (env_of l) ins l.expressions.now

abbrev pub expressions_halt : Lists → Option Halt
expressions_halt l = halting (env_of l) (known_before (env_of l) l.expressions.now) 0 l.expressions.now

-- the stores come after all expressions
abbrev pub known_to_stores : Lists → Known
known_to_stores l = known_before (env_of l) l.expressions.now (env_of l).count

abbrev pub stores_halt : Lists → Option Halt
stores_halt l = halting_stores (env_of l) (known_to_stores l) 0 l.statements.now

abbrev pub lists_halt : Lists → List Components → Option Halt
lists_halt l ins = or_else (inputs_halt l ins) (or_else (expressions_halt l) (stores_halt l))
