-- Asking for the flags of a variable or argument: 5 where it is not declared.
use Rattle.std.specs.Prelude.{ℕ, not, List, Result}
use Rattle.std.specs.List.{slice_get}
use Rattle.std.specs.Option.{ok_or, option_map}
use Rattle.records.specs.declared.flags.SamplingFlags.{SamplingFlags}
use Rattle.records.specs.declared.refusals.Error.{Error}
use Rattle.records.specs.declared.refusals.Error.TheVariants.{InvalidId, Mismatch}
use Rattle.records.specs.declared.variables.GlobalVariable.{GlobalVariable}
use Rattle.records.specs.declared.variables.FunctionArgument.{FunctionArgument}
use Rattle.records.specs.Refusals.{and_then, check}
use Rattle.memory.specs.Cells.{used, Cells, counts_inside}

-- the flags of record h of a list of the caller's
abbrev pub flags_at : {X : Type 0} → (X → SamplingFlags) → Cells → List X → ℕ → Result SamplingFlags Error
flags_at flags c records h =
    and_then (check (not (counts_inside c)) Mismatch) (λ _.
    ok_or (option_map flags (slice_get records h)) (InvalidId 0))

abbrev pub variable_flags : Cells → ℕ → Result SamplingFlags Error
variable_flags c h = flags_at (λ (v : GlobalVariable). v.flags) c (used c.variables) h

abbrev pub argument_flags : Cells → ℕ → Result SamplingFlags Error
argument_flags c h = flags_at (λ (a : FunctionArgument). a.flags) c (used c.arguments) h
