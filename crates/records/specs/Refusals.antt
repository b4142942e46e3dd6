-- The one table of the sixteen refusals: number, layer and place. Every promise refers to it.
use Rattle.std.specs.Prelude.{ℕ, Bool, cond, Some, None, Ok, Err, Option, Result}
use Rattle.records.specs.declared.refusals.Error.{Error}
use Rattle.records.specs.declared.refusals.Error.TheVariants.{IncompleteData, InvalidOperandCount, UnsupportedInstruction, UnsupportedOperand, InvalidId, InvalidResultId, InvalidOperand, InvalidImageExpression, InvalidGlobalVar, InvalidImage, InvalidCoordinate, InvalidVectorType, InvalidType, MissingType, Full, Mismatch}
use Rattle.records.specs.declared.refusals.Layer.{Layer}
use Rattle.records.specs.declared.refusals.Layer.TheVariants.{Words, Ids, Rules, Memory}
use Rattle.records.specs.declared.refusals.Fault.{Fault}

abbrev pub fault_at : ℕ → Layer → ℕ → Fault
fault_at n l p = record { number = n; layer = l; place = p }

-- The place of the first is the number of words given. A refusal of no word in particular, and every refusal of a call
-- without words, has place 0; of the others it is the index of the blamed word.
abbrev pub fault_of : Error → Fault
fault_of (IncompleteData given) = fault_at 1 Words given
fault_of InvalidOperandCount = fault_at 2 Words 0
fault_of UnsupportedInstruction = fault_at 3 Words 0
fault_of (UnsupportedOperand mask) = fault_at 4 Words mask
fault_of (InvalidId id) = fault_at 5 Ids id
fault_of (InvalidResultId id) = fault_at 6 Ids id
fault_of (InvalidOperand word) = fault_at 7 Rules word
fault_of (InvalidImageExpression image) = fault_at 8 Rules image
fault_of (InvalidGlobalVar image) = fault_at 9 Rules image
fault_of (InvalidImage image) = fault_at 10 Rules image
fault_of (InvalidCoordinate coordinate) = fault_at 11 Rules coordinate
fault_of (InvalidVectorType value) = fault_at 12 Rules value
fault_of (InvalidType type) = fault_at 13 Rules type
fault_of (MissingType coordinate) = fault_at 14 Rules coordinate
fault_of Full = fault_at 15 Memory 0
fault_of Mismatch = fault_at 16 Memory 0

-- the fault of an answer, if it is refused
abbrev pub refusal_of : {X : Type 0} → Result X Error → Option Fault
refusal_of (Ok x) = None
refusal_of (Err e) = Some (fault_of e)

-- Checks, one after another: the first that fails is the answer.

abbrev pub refuse : {X : Type 0} → Bool → Error → Result X Error → Result X Error
refuse wrong e r = cond wrong (Err e) r

-- a check alone
abbrev pub check : Bool → Error → Result (Unit {0}) Error
check wrong e = refuse wrong e (Ok tt)

-- what follows a check that answers something
abbrev pub and_then : {X Y : Type 0} → Result X Error → (X → Result Y Error) → Result Y Error
and_then (Ok x) f = f x
and_then (Err e) f = Err e
