-- The run over a list of expressions.
use Rattle.std.specs.Prelude.{ℕ, suc, List, [], ◌∷◌, ◌++◌, length, Some, None, Ok, Err, Option, Result, slice_index_or}
use Rattle.records.specs.declared.expressions.Expression.{Expression}
use Rattle.run.specs.declared.rules.Miss.{Miss}
use Rattle.run.specs.declared.rules.Miss.TheVariants as misses
use Rattle.run.specs.declared.passes.Halt.{Halt}
use Rattle.run.specs.declared.passes.Halt.TheVariants.{Stuck, Outside}
use Rattle.run.specs.Envs.{Env}
use Rattle.run.specs.Rules.{Sight, Known, seen}
use Rattle.std.specs.List.{slice_get}
use Rattle.std.specs.Option.{option_map}
use Rattle.units.specs.Values.{type_of}
use Rattle.units.specs.declared.values.Value.{Value}
use Rattle.units.specs.declared.values.Components.{Components}
use Rattle.run.specs.Worth.{Values, no_value, no_components}

abbrev pub value_at : List Value → Values
value_at vs h = slice_index_or vs h no_value

-- an input by its number; one that is not there is not asked for
abbrev pub input_at : List Components → ℕ → Components
input_at ins k = slice_index_or ins k no_components

abbrev pub or_else : Option Halt → Option Halt → Option Halt
or_else None rest = rest
or_else (Some h) rest = Some h

-- the first halt, where `f` says whether a record halts a run; they have the numbers i, i + 1 and so on
unfoldable pub first_halt : {X : Type 0} → (ℕ → X → Option Halt) → ℕ → List X → Option Halt
first_halt f i [] = None
first_halt f i (x ∷ xs) = or_else (f i x) (first_halt f (suc i) xs)

-- a check, by what may halt a run there
abbrev pub or_halt : Option Halt → Result (Unit {0}) Halt
or_halt None = Ok tt
or_halt (Some h) = Err h

-- what a miss at expression i halts a run by
abbrev pub halt_by : Miss → ℕ → Halt
halt_by misses.Lacking i = Stuck i
halt_by misses.Outside i = Outside

-- an expression that is fine lets the run go on
abbrev pub halt_of : Sight → ℕ → Option Halt
halt_of (Ok t) i = None
halt_of (Err miss) i = Some (halt_by miss i)

-- where a run over expressions i, i + 1 and so on halts, if it does; `tys i` is what is known before expression i
abbrev pub halting : Env → (ℕ → Known) → ℕ → List Expression → Option Halt
halting env tys = first_halt (λ i e. halt_of (seen env (tys i) e) i)

-- the values of some expressions and then of those after them; `w` gives one from those before it
unfoldable pub worked : (Values → Expression → Value) → List Value → List Expression → List Value
worked w vs [] = vs
worked w vs (e ∷ es) = worked w (vs ++ w (value_at vs) e ∷ []) es

-- what is known of the values worked out so far: their types
abbrev pub types_of : List Value → Known
types_of vs h = option_map type_of (slice_get vs h)

-- how a run over the expressions ends: with all their values, or halted
pub data Progress : Type 0 where
  Went : List Value → Progress
  Halted : Halt → Progress

abbrev pub proceeds : Sight → ℕ → Progress → Progress
proceeds (Ok t) i rest = rest
proceeds (Err miss) i rest = Halted (halt_by miss i)

-- the run: each expression is looked at by the types of the values before it, and then worked out from them
unfoldable pub run_over : Env → (Values → Expression → Value) → List Value → List Expression → Progress
run_over env w vs [] = Went vs
run_over env w vs (e ∷ es) = proceeds (seen env (types_of vs) e) (length vs) (run_over env w (vs ++ w (value_at vs) e ∷ []) es)

-- how it ends by the two passes
abbrev pub by_passes : Option Halt → List Value → Progress
by_passes None vs = Went vs
by_passes (Some h) vs = Halted h
