-- Laws of the run's definitions: a run over a list in two parts, over longer lists, and the requests made again.
use Rattle.std.specs.Prelude.{◌≡◌, ℕ, ◌+◌, ◌≤◌, List, [], ◌++◌, length, take, Some, None, Option}
use Rattle.std.specs.List.{slice_get}
use Rattle.records.specs.declared.expressions.Expression.{Expression}
use Rattle.records.specs.declared.statements.Statement.{Statement}
use Rattle.units.specs.declared.values.Components.{Components}
use Rattle.units.specs.declared.values.Value.{Value}
use Rattle.units.specs.declared.values.Value.TheVariants.{Number}
use Rattle.units.specs.declared.requests.Request.{Request}
use Rattle.units.specs.Requests.{Answers}
use Rattle.run.specs.Asked.{request_of, asked}
use Rattle.run.specs.Envs.{Env}
use Rattle.run.specs.Inputs.{halting_inputs}
use Rattle.run.specs.Rules.{Known}
use Rattle.run.specs.Runs.{Progress, run_over, types_of, value_at, or_else}
use Rattle.run.specs.Stores.{halting_stores, stores, store_count}
use Rattle.run.specs.Worth.{Values, worth}

-- what comes after a run that went on to the end of its list
abbrev pub goes_on : Progress → (List Value → Progress) → Progress
goes_on (Progress.Went vs) rest = rest vs
goes_on (Progress.Halted h) rest = Progress.Halted h

-- A run over a list in two parts is a run over the first, and then one over the second from the values of the first.
abbrev pub RunAppends : Type 0
RunAppends = (env : Env) (w : Values → Expression → Value) (vs : List Value) (es fs : List Expression)
    → run_over env w vs (es ++ fs) ≡ goes_on (run_over env w vs es) (λ us. run_over env w us fs)

-- what one list has at a number, the other has there too
abbrev pub Keeps : {X : Type 0} → (ℕ → Option X) → (ℕ → Option X) → Type 0
Keeps {X} at at' = (n : ℕ) (x : X) → at n ≡ Some x → at' n ≡ Some x

-- lists that have more at their ends, and nothing else in what was there
pub record Grows (env env' : Env) : Type 0 where
  pub types : Keeps env.types env'.types
  pub variables : Keeps env.variables env'.variables
  pub arguments : Keeps env.arguments env'.arguments
  pub constants : Keeps env.constants env'.constants
  pub count : env.count ≤ env'.count

-- A run that goes on to the end comes to the same values over longer lists.
abbrev pub RunGrows : Type 0
RunGrows = (env env' : Env) (answers : Answers) (ins : ℕ → Components) (es : List Expression) (vs : List Value) → Grows env env'
    → run_over env (worth env answers ins) [] es ≡ Progress.Went vs → run_over env' (worth env' answers ins) [] es ≡ Progress.Went vs

-- The request of an expression, made again from all values that a run wrote, is the one that was asked: that of the values
-- before it.
abbrev pub AsksAgain : Type 0
AsksAgain = (env : Env) (answers : Answers) (ins : ℕ → Components) (es : List Expression) (vs : List Value) (i : ℕ) (e : Expression)
    → run_over env (worth env answers ins) [] es ≡ Progress.Went vs → slice_get es i ≡ Some e → request_of (value_at vs) e ≡ request_of (value_at (take i vs)) e

-- Its answer is the value there.
abbrev pub AsksAnswered : Type 0
AsksAnswered = (env : Env) (answers : Answers) (ins : ℕ → Components) (es : List Expression) (vs : List Value) (i : ℕ) (e : Expression) (q : Request)
    → run_over env (worth env answers ins) [] es ≡ Progress.Went vs → slice_get es i ≡ Some e → request_of (value_at vs) e ≡ Some q
    → slice_get vs i ≡ Some (Number (answers q))

-- The requests of a list in two parts are those of the first, and then those of the second.
abbrev pub AskedAppends : Type 0
AskedAppends = (at : Values) (es fs : List Expression) → asked at (es ++ fs) ≡ asked at es ++ asked at fs

-- Values after those of a run change none of its requests.
abbrev pub AskedGrows : Type 0
AskedGrows = (env : Env) (answers : Answers) (ins : ℕ → Components) (es : List Expression) (vs us : List Value)
    → run_over env (worth env answers ins) [] es ≡ Progress.Went vs → asked (value_at (vs ++ us)) es ≡ asked (value_at vs) es

-- Likewise the stores of a list in two parts, how many they are, and the first that halts a run.
abbrev pub StoresAppend : Type 0
StoresAppend = (at : Values) (ss ts : List Statement) → stores at (ss ++ ts) ≡ stores at ss ++ stores at ts

abbrev pub StoreCountsAdd : Type 0
StoreCountsAdd = (ss ts : List Statement) → store_count (ss ++ ts) ≡ store_count ss + store_count ts

abbrev pub StoreHaltsAppend : Type 0
StoreHaltsAppend = (env : Env) (tys : Known) (j : ℕ) (ss ts : List Statement)
    → halting_stores env tys j (ss ++ ts) ≡ or_else (halting_stores env tys j ss) (halting_stores env tys (j + length ss) ts)

-- Stores that do not halt a run go on so over longer lists and more values, and their requests stay.
abbrev pub StoresGrow : Type 0
StoresGrow = (env env' : Env) (vs us : List Value) (j : ℕ) (ss : List Statement) → Grows env env'
    → halting_stores env (types_of vs) j ss ≡ None
    → (halting_stores env' (types_of (vs ++ us)) j ss ≡ None) × (stores (value_at (vs ++ us)) ss ≡ stores (value_at vs) ss)

-- Likewise the first record whose input does not fit; inputs that fit go on so over longer lists.
abbrev pub InputsAppend : Type 0
InputsAppend = (env : Env) (ins : List Components) (es fs : List Expression)
    → halting_inputs env ins (es ++ fs) ≡ or_else (halting_inputs env ins es) (halting_inputs env ins fs)

abbrev pub InputsGrow : Type 0
InputsGrow = (env env' : Env) (ins : List Components) (es : List Expression) → Grows env env' → halting_inputs env ins es ≡ None
    → halting_inputs env' ins es ≡ None
