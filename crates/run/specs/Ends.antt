-- A whole run: what it answers, and what it writes.
use Rattle.std.specs.Prelude.{ℕ, Bool, cond, ◌||◌, List, [], ◌++◌, length, drop, Some, None, Ok, Err, Option, Result, nat_lt}
use Rattle.records.specs.declared.refusals.Error.{Error}
use Rattle.records.specs.declared.refusals.Error.TheVariants.{InvalidType, Full, Mismatch}
use Rattle.records.specs.declared.expressions.Expression.{Expression}
use Rattle.records.specs.declared.statements.Statement.{Statement}
use Rattle.units.specs.declared.values.Components.{Components}
use Rattle.units.specs.declared.values.Value.{Value}
use Rattle.units.specs.declared.requests.Request.{Request}
use Rattle.units.specs.Requests.{Answers}
use Rattle.run.specs.declared.passes.Halt.{Halt}
use Rattle.run.specs.declared.passes.Halt.TheVariants as halts
use Rattle.run.specs.declared.runs.Outcome.{Outcome}
use Rattle.run.specs.declared.runs.Outcome.TheVariants.{Done, StuckAtExpression, StuckAtStore}
use Rattle.run.specs.declared.lists.Lists.{Lists}
use Rattle.run.specs.Envs.{Env, env_of}
use Rattle.run.specs.Inputs.{halting_inputs}
use Rattle.run.specs.Runs.{Progress, run_over, types_of, value_at, input_at}
use Rattle.run.specs.Stores.{halting_stores, stores, store_count}
use Rattle.run.specs.Worth.{worth}

-- to stick is a result of its own; the rest are refusals
abbrev pub end_of : Halt → Result Outcome Error
end_of (halts.Stuck i) = Ok (StuckAtExpression i)
end_of (halts.StuckAtStore j) = Ok (StuckAtStore j)
end_of halts.Outside = Err Mismatch
end_of halts.WrongInput = Err (InvalidType 0)

-- the answer, and what is written to the front of the two lists
pub record After : Type 0 where
  pub answer : Result Outcome Error
  pub values : List Value
  pub requests : List Request

abbrev pub nothing_written : Result Outcome Error → After
nothing_written r = record { answer = r; values = []; requests = [] }

abbrev pub halted : Halt → After
halted h = nothing_written (end_of h)

-- the stores come after all expressions
abbrev pub after_stores : List Statement → List Value → Option Halt → After
after_stores ss vs None = record { answer = Ok Done; values = vs; requests = stores (value_at vs) ss }
after_stores ss vs (Some h) = halted h

abbrev pub after_expressions : Env → List Statement → Progress → After
after_expressions env ss (Progress.Went vs) = after_stores ss vs (halting_stores env (types_of vs) 0 ss)
after_expressions env ss (Progress.Halted h) = halted h

abbrev pub after_inputs : Option Halt → After → After
after_inputs None rest = rest
after_inputs (Some h) rest = halted h

-- whether a list is too short
abbrev pub short : List Expression → List Statement → ℕ → ℕ → Bool
short es ss cells store_cells = nat_lt cells (length es) || nat_lt store_cells (store_count ss)

abbrev pub after_run : Env → Answers → List Components → List Expression → List Statement → ℕ → ℕ → After
after_run env answers ins es ss cells store_cells =
    cond (short es ss cells store_cells) (nothing_written (Err Full))
    (after_inputs (halting_inputs env ins es) (after_expressions env ss (run_over env (worth env answers (input_at ins)) [] es)))

-- the same by the lists
abbrev pub after_lists : Lists → Answers → List Components → ℕ → ℕ → After
after_lists l answers ins cells store_cells = after_run (env_of l) answers ins l.expressions.now l.statements.now cells store_cells

-- cells past what is written stay
abbrev pub over : {X : Type 0} → List X → List X → List X
over written old = written ++ drop (length written) old
