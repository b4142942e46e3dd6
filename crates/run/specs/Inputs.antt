-- Inputs: each Supplied record needs one of its type.
use Rattle.std.specs.Prelude.{ℕ, cond, List, Some, None, Option}
use Rattle.std.specs.List.{slice_get}
use Rattle.std.specs.Option.{option_map}
use Rattle.records.specs.declared.types.TypeInner.{TypeInner}
use Rattle.records.specs.declared.expressions.ExpressionTag.{ExpressionTag}
use Rattle.records.specs.declared.expressions.ExpressionTag.TheVariants.{Supplied}
use Rattle.records.specs.declared.expressions.Expression.{Expression}
use Rattle.units.specs.declared.values.Components.{Components}
use Rattle.units.specs.declared.values.Value.TheVariants.{Number}
use Rattle.units.specs.Values.{type_of}
use Rattle.run.specs.declared.passes.Halt.{Halt}
use Rattle.run.specs.declared.passes.Halt.TheVariants.{WrongInput, Outside}
use Rattle.run.specs.Envs.{Env}
use Rattle.run.specs.Rules.{is_of}
use Rattle.run.specs.Runs.{first_halt}

-- the type of an input by its number, if it is there
abbrev pub input_type : List Components → ℕ → Option TypeInner
input_type ins k = option_map (λ (c : Components). type_of (Number c)) (slice_get ins k)

-- the input must be of the type that the record names, which must be listed
abbrev pub input_halt_by : Option TypeInner → Option TypeInner → Option Halt
input_halt_by None input = Some Outside
input_halt_by (Some t) input = cond (is_of input t) None (Some WrongInput)

-- why the inputs halt a run at a record, if they do
abbrev pub input_halt : Env → List Components → Expression → ExpressionTag → Option Halt
input_halt env ins e Supplied = input_halt_by (env.types e.ty.index) (input_type ins e.index)
input_halt env ins e _ = None

abbrev pub halting_inputs : Env → List Components → List Expression → Option Halt
halting_inputs env ins = first_halt (λ i e. input_halt env ins e e.tag) 0
