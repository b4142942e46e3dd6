-- What the words of one image instruction say, and in which order a fault is looked for.
use Rattle.std.specs.Prelude.{ℕ, ◌+◌, ◌/◌, ◌%◌, Bool, not, ◌||◌, List, length, take, drop, Ok, Option, Result, ◌==◌, nat_lt, slice_index}
use Rattle.std.specs.Option.{ok_or}
use Rattle.records.specs.declared.refusals.Error.{Error}
use Rattle.records.specs.declared.refusals.Error.TheVariants.{IncompleteData, InvalidOperandCount, UnsupportedInstruction, UnsupportedOperand, InvalidOperand}
use Rattle.records.specs.Refusals.{refuse, check, and_then}
use Rattle.words.specs.declared.opcodes.Opcode.{Opcode}
use Rattle.words.specs.declared.opcodes.Layout.{Layout}
use Rattle.words.specs.declared.opcodes.Layout.TheVariants.{Couple, Plain, Component, Reference, Write}
use Rattle.words.specs.declared.opcodes.OpcodeRow.{OpcodeRow}
use Rattle.words.specs.declared.operands.IdRef.{IdRef}
use Rattle.words.specs.declared.operands.ImageOperands.{ImageOperands}
use Rattle.words.specs.declared.instructions.Ids.{Ids}
use Rattle.words.specs.declared.instructions.Instruction.{Instruction}
use Rattle.words.specs.Opcodes.{numbered, row_of, place}
use Rattle.words.specs.Masks.{supports, allows, words_needed}
use Rattle.words.specs.Operands.{operands_of}

-- the id in the word at a place
abbrev pub id_word : List ℕ → ℕ → IdRef
id_word ws place = record { id = slice_index ws place; place = place }

-- an id that the opcode does not have
abbrev pub no_id : IdRef
no_id = record { id = 0; place = 0 }

abbrev pub ids : IdRef → IdRef → IdRef → IdRef → IdRef → IdRef → IdRef → IdRef → Ids
ids t r i s c k d v = record { result_type = t; result = r; image = i; sampler = s; coordinate = c; component = k; reference = d; value = v }

-- Where SPIR-V puts each id, by the places of their words:
-- result type, result, image or sampled image, sampler, coordinate, component, reference, value.
abbrev pub ids_at : (ℕ → IdRef) → IdRef → Layout → Ids
ids_at at - Couple = ids (at 1) (at 2) (at 3) (at 4) - - - -
ids_at at - Plain = ids (at 1) (at 2) (at 3) - (at 4) - - -
ids_at at - Component = ids (at 1) (at 2) (at 3) - (at 4) (at 5) - -
ids_at at - Reference = ids (at 1) (at 2) (at 3) - (at 4) - (at 5) -
ids_at at - Write = ids - - (at 1) - (at 2) - - (at 3)

abbrev pub ids_of : Layout → List ℕ → Ids
ids_of layout ws = ids_at (id_word ws) no_id layout

-- result type, result and image of an instruction with a result, the rest still to be filled in
abbrev pub of_result : ℕ → ℕ → ℕ → Ids
of_result t r i = ids (record { id = t; place = 1 }) (record { id = r; place = 2 }) (record { id = i; place = 3 }) no_id no_id no_id no_id no_id

-- the first word has the count in its high 16 bits and the opcode in its low 16
abbrev pub count_in : ℕ → ℕ
count_in first = first / 65536

abbrev pub opcode_in : ℕ → Option Opcode
opcode_in first = numbered (first % 65536)

abbrev pub too_few_words : List ℕ → Bool
too_few_words ws = length ws == 0 || nat_lt (length ws) (count_in (slice_index ws 0))

-- a couple has exactly its words, the others at least theirs
abbrev pub wrong_count : OpcodeRow → ℕ → Bool
wrong_count row n = elim row.layout [ Couple ↦ not (n == row.least) | Plain ↦ nat_lt n row.least | Component ↦ nat_lt n row.least | Reference ↦ nat_lt n row.least | Write ↦ nat_lt n row.least ]

-- The checks of a mask and the words after it, in their order.
abbrev pub mask_checks : Opcode → ℕ → List ℕ → Result (Unit {0}) Error
mask_checks op mask operands =
    and_then (check (not (supports (row_of op).rule mask)) (UnsupportedOperand (place op))) (λ _.
    and_then (check (not (length operands == words_needed mask)) InvalidOperandCount) (λ _.
    check (not (allows (row_of op).rule mask)) (InvalidOperand (place op))))

-- What the words from the mask on say. Where there are none the mask is 0.
abbrev pub image_operands : Opcode → List ℕ → Result ImageOperands Error
image_operands op rest =
    and_then (mask_checks op (slice_index rest 0) (drop 1 rest)) (λ _.
    Ok (operands_of (slice_index rest 0) (drop 1 rest) (place op + 1)))

abbrev pub described : Opcode → List ℕ → ImageOperands → Instruction
described op ws operands = record { opcode = op; ids = ids_of (row_of op).layout ws; operands = operands }

-- the first word, if there are as many words as its count says
abbrev pub first_word : List ℕ → Result ℕ Error
first_word ws = refuse (too_few_words ws) (IncompleteData (length ws)) (Ok (slice_index ws 0))

-- The answer on any words: the checks in their order, then what the words say. Of the words given, only those that
-- the count says are read.
abbrev pub instruction : List ℕ → Result Instruction Error
instruction ws =
    and_then (first_word ws) (λ first.
    and_then (ok_or (opcode_in first) UnsupportedInstruction) (λ op.
    and_then (check (wrong_count (row_of op) (count_in first)) InvalidOperandCount) (λ _.
    and_then (image_operands op (drop (place op) (take (count_in first) ws))) (λ operands.
    Ok (described op (take (count_in first) ws) operands)))))
