-- Three laws of the definitions, in the words of the SPIR-V specification and of the list of refusals.
use Rattle.std.specs.Prelude.{◌≡◌, ℕ, ◌+◌, Bool, false, cond, not, List, [], ◌∷◌, ◌++◌, length, take, drop, is_some, Some, None, Ok, Option, ◌==◌, slice_index}
use Rattle.std.specs.Option.{unwrap_or}
use Rattle.records.specs.declared.refusals.Fault.{Fault}
use Rattle.records.specs.declared.refusals.Layer.TheVariants.{Words, Rules}
use Rattle.records.specs.Refusals.{fault_at, refusal_of}
use Rattle.words.specs.declared.opcodes.Opcode.{Opcode}
use Rattle.words.specs.declared.opcodes.Opcode.TheVariants.{SampledImage}
use Rattle.words.specs.declared.operands.IdRef.{IdRef}
use Rattle.words.specs.declared.operands.Gradient.{Gradient}
use Rattle.words.specs.declared.operands.ImageOperands.{ImageOperands}
use Rattle.words.specs.declared.instructions.Instruction.{Instruction}
use Rattle.words.specs.Opcodes.{row_of, place}
use Rattle.words.specs.Masks.{has, supports, allows, words_needed}
use Rattle.words.specs.Instructions.{count_in, opcode_in, too_few_words, wrong_count, instruction}

-- the words that the count says
abbrev pub counted : List ℕ → List ℕ
counted ws = take (count_in (slice_index ws 0)) ws

-- Words past the count are not read: with other words after them, or none, the answer is the same.
abbrev pub PastTheCount : Type 0
PastTheCount = (ws more : List ℕ) → too_few_words ws ≡ false → instruction (ws ++ more) ≡ instruction ws

-- the mask, or 0, and the words after it
abbrev pub mask_of : Opcode → List ℕ → ℕ
mask_of op ws = slice_index (drop (place op) (counted ws)) 0

abbrev pub after_mask : Opcode → List ℕ → List ℕ
after_mask op ws = drop (place op + 1) (counted ws)

abbrev pub one : Option IdRef → List IdRef
one None = []
one (Some id) = id ∷ []

abbrev pub two : Option Gradient → List IdRef
two None = []
two (Some grad) = grad.x ∷ grad.y ∷ []

-- the operands that are there, in the order of their bits
abbrev pub spelled : ImageOperands → List IdRef
spelled o = one o.bias ++ (one o.lod ++ (two o.grad ++ (one o.const_offset ++ (one o.sample
    ++ (one o.make_texel_available ++ one o.make_texel_visible)))))

-- words with their places, the first of which is p
abbrev pub placed : ℕ → List ℕ → List IdRef
placed p [] = []
placed p (w ∷ ws) = record { id = w; place = p } ∷ placed (p + 1) ws

-- The operands of a mask: each is there exactly if its bit is set, and lowest bit first they are the words after the
-- mask, each word once and none left over.
pub record Spelled (mask p : ℕ) (ws : List ℕ) (o : ImageOperands) : Type 0 where
  pub mask_is : o.mask ≡ mask
  pub bias_is : is_some o.bias ≡ has mask 0
  pub lod_is : is_some o.lod ≡ has mask 1
  pub grad_is : is_some o.grad ≡ has mask 2
  pub offset_is : is_some o.const_offset ≡ has mask 3
  pub sample_is : is_some o.sample ≡ has mask 6
  pub available_is : is_some o.make_texel_available ≡ has mask 8
  pub visible_is : is_some o.make_texel_visible ≡ has mask 9
  pub in_order : spelled o ≡ placed p ws

abbrev pub OperandsInOrder : Type 0
OperandsInOrder = (ws : List ℕ) (i : Instruction) → instruction ws ≡ Ok i
    → Spelled (mask_of i.opcode ws) (place i.opcode + 1) (after_mask i.opcode ws) i.operands

-- the first fault of a list of checks
abbrev pub first_fault : List (Bool × Fault) → Option Fault
first_fault [] = None
first_fault (c ∷ cs) = cond c.0 (Some c.1) (first_fault cs)

-- where the opcode is not listed, a later check is not looked at
abbrev pub opcode_of : List ℕ → Opcode
opcode_of ws = unwrap_or (opcode_in (slice_index ws 0)) SampledImage

-- Each check with its number, layer and place, in the order in which a fault is looked for.
abbrev pub checks : List ℕ → Opcode → List (Bool × Fault)
checks ws op =
    (too_few_words ws, fault_at 1 Words (length ws)) ∷
    (not (is_some (opcode_in (slice_index ws 0))), fault_at 3 Words 0) ∷
    (wrong_count (row_of op) (count_in (slice_index ws 0)), fault_at 2 Words 0) ∷
    (not (supports (row_of op).rule (mask_of op ws)), fault_at 4 Words (place op)) ∷
    (not (length (drop 1 (drop (place op) (counted ws))) == words_needed (mask_of op ws)), fault_at 2 Words 0) ∷
    (not (allows (row_of op).rule (mask_of op ws)), fault_at 7 Rules (place op)) ∷ []

-- An instruction is refused exactly if a check fails, and then by the first that does.
abbrev pub FaultsInOrder : Type 0
FaultsInOrder = (ws : List ℕ) → refusal_of (instruction ws) ≡ first_fault (checks ws (opcode_of ws))
