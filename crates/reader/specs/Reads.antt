-- Reading one instruction: its words, its checks in order, and what it leaves and answers.
use Rattle.std.specs.Prelude.{ℕ, ◌+◌, Bool, not, ◌&&◌, List, Some, None, Ok, Option, Result, nat_lt}
use Rattle.records.specs.Flags.{union}
use Rattle.records.specs.declared.expressions.Expression.{Expression}
use Rattle.records.specs.declared.flags.SamplingFlags.{SamplingFlags}
use Rattle.records.specs.declared.lookups.LookupExpression.{LookupExpression}
use Rattle.records.specs.declared.refusals.Error.{Error}
use Rattle.records.specs.declared.refusals.Error.TheVariants.{Full, Mismatch}
use Rattle.records.specs.declared.statements.Statement.{Statement}
use Rattle.records.specs.declared.statements.Statement.TheVariants.{ImageStore}
use Rattle.records.specs.declared.types.VectorSize.{VectorSize}
use Rattle.records.specs.declared.variables.GlobalVariable.{GlobalVariable}
use Rattle.records.specs.declared.variables.FunctionArgument.{FunctionArgument}
use Rattle.units.specs.declared.values.Root.{Root}
use Rattle.units.specs.declared.values.Root.TheVariants.{Variable, Argument}
use Rattle.records.specs.Refusals.{and_then, check}
use Rattle.words.specs.Instructions.{instruction}
use Rattle.memory.specs.Cells.{room_for, Cells}
use Rattle.memory.specs.Lookups.{has_space}
use Rattle.memory.specs.Shelves.{Shelf}
use Rattle.images.specs.Plans.{plan_for}
use Rattle.images.specs.Records.{split_place, split_layer, split_count, reference_count, sample_records, sample_count, load_records, load_count, widened_value, store_records, store_count}
use Rattle.images.specs.Rules.{one}
use Rattle.images.specs.Used.{used_in}
use Rattle.images.specs.declared.instructions.Plan.{Plan}
use Rattle.images.specs.declared.instructions.Plan.TheVariants as plans
use Rattle.images.specs.declared.plans.SamplePlan.{SamplePlan}
use Rattle.images.specs.declared.plans.LoadPlan.{LoadPlan}
use Rattle.images.specs.declared.plans.StorePlan.{StorePlan}
use Rattle.reader.specs.declared.read.Answer.{Answer}
use Rattle.reader.specs.declared.read.Answer.TheVariants as answers
use Rattle.reader.specs.declared.read.ReadPlan.{ReadPlan}
use Rattle.reader.specs.States.{State, Step}
use Rattle.reader.specs.Checks.{max_expressions, max_statements, state_inside, by_checks}
use Rattle.reader.specs.Turns.{closed}
use Rattle.reader.specs.Updates.{push_statement, lookup_at, put_value, put_couple}
use Rattle.reader.specs.Writes.{written, changed}

-- Room (15). A store takes one statement cell, one more if the range that it closes is not empty, and one stays held; its own
-- expressions belong to that range.

abbrev pub store_cells : Option ℕ → ℕ → ℕ
store_cells None after = 2
store_cells (Some start) after = 2 + one (nat_lt start after)

abbrev pub store_room : Option ℕ → Cells → StorePlan → Bool
store_room emitter c p =
    room_for (store_count p) c.expressions max_expressions
    && room_for (store_cells emitter (c.expressions.count + store_count p)) c.statements max_statements

abbrev pub plan_room : Option ℕ → Cells → Shelf → Plan → Bool
plan_room emitter c b (plans.Couple l) = has_space b.couples
plan_room emitter c b (plans.Sample p) = room_for (sample_count p) c.expressions max_expressions && has_space b.values
plan_room emitter c b (plans.Load p) = room_for (load_count p) c.expressions max_expressions && has_space b.values
plan_room emitter c b (plans.Store p) = store_room emitter c p

-- The order of the refusals: those of the words, 16 for the numbers of the state, those of the instruction, 15.
abbrev pub read_checks : Option ℕ → Cells → Shelf → List ℕ → Result ReadPlan Error
read_checks emitter c b words =
    and_then (instruction words) (λ i.
    and_then (check (not (state_inside emitter c)) Mismatch) (λ _.
    and_then (plan_for (used_in c) b i) (λ p.
    and_then (check (not (plan_room emitter c b p)) Full) (λ _.
    Ok (record { id = i.ids.result.id; plan = p })))))

-- n more expressions
abbrev pub appended : Cells → List Expression → ℕ → Cells
appended c es n = record c { expressions = record { cells = written c.expressions.cells c.expressions.count es; count = c.expressions.count + n } }

-- A flag goes to a variable or an argument.

abbrev pub variable_with : SamplingFlags → GlobalVariable → GlobalVariable
variable_with flag v = record v { flags = union v.flags flag }

abbrev pub argument_with : SamplingFlags → FunctionArgument → FunctionArgument
argument_with flag a = record a { flags = union a.flags flag }

abbrev pub flagged : Cells → SamplingFlags → Root → Cells
flagged c flag (Variable h) = record c { variables = record c.variables { cells = changed c.variables.cells h.index (variable_with flag) } }
flagged c flag (Argument h) = record c { arguments = record c.arguments { cells = changed c.arguments.cells h.index (argument_with flag) } }

-- the last of one or two records
abbrev pub last_of : Option VectorSize → ℕ
last_of None = 0
last_of (Some s) = 1

-- the book record of a result: the last expression, and the result type
abbrev pub sample_lookup : ℕ → SamplePlan → LookupExpression
sample_lookup u p = lookup_at (u + split_count p.split + reference_count p.split p.reference + last_of p.splat) p.result

abbrev pub load_lookup : ℕ → LoadPlan → LookupExpression
load_lookup u p = lookup_at (u + split_count p.split + last_of p.splat) p.result

abbrev pub sample_cells : Cells → SamplePlan → Cells
sample_cells c p =
    flagged (flagged (appended c (sample_records c.expressions.count p) (sample_count p)) p.flag p.image_root) p.flag p.sampler_root

abbrev pub load_cells : Cells → LoadPlan → Cells
load_cells c p = appended c (load_records c.expressions.count p) (load_count p)

abbrev pub store_statement : ℕ → StorePlan → Statement
store_statement u p =
    ImageStore p.image (split_place u p.split) (split_layer u p.split) (widened_value (u + split_count p.split) p.value p.size)

-- a store closes the range from `start`, and is listed after it
abbrev pub store_cells_after : ℕ → Cells → StorePlan → Cells
store_cells_after start c p =
    push_statement (closed start (appended c (store_records c.expressions.count p) (store_count p))) (store_statement c.expressions.count p)

abbrev pub start_of : Option ℕ → ℕ
start_of None = 0
start_of (Some start) = start

abbrev pub plan_step : State → ℕ → Plan → Step Answer
plan_step s id (plans.Couple l) = record {
  state = record s { books = put_couple s.books id l };
  answer = Ok (answers.Couple l);
}
plan_step s id (plans.Sample p) =
    let l : LookupExpression = sample_lookup s.cells.expressions.count p in
    record {
      state = record s { cells = sample_cells s.cells p; books = put_value s.books id l };
      answer = Ok (answers.Value l);
    }
plan_step s id (plans.Load p) =
    let l : LookupExpression = load_lookup s.cells.expressions.count p in
    record {
      state = record s { cells = load_cells s.cells p; books = put_value s.books id l };
      answer = Ok (answers.Value l);
    }
plan_step s id (plans.Store p) = record {
  state = record s {
    emitter = Some (s.cells.expressions.count + store_count p);
    cells = store_cells_after (start_of s.emitter) s.cells p;
  };
  answer = Ok answers.Store;
}

abbrev pub reads : State → List ℕ → Step Answer
reads s words = by_checks s (read_checks s.emitter s.cells s.books words) (λ r. plan_step s r.id r.plan)
