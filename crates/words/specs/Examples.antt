-- Worked examples of the mask and of the refusals, as one table each.
use Rattle.std.specs.Prelude.{◌≡◌, ℕ, List, [], ◌∷◌, map, Some, None, Ok}
use Rattle.records.specs.declared.refusals.Fault.{Fault}
use Rattle.records.specs.declared.refusals.Layer.TheVariants.{Words, Rules}
use Rattle.records.specs.Refusals.{fault_at, refusal_of}
use Rattle.words.specs.declared.opcodes.Opcode.TheVariants.{SampledImage, ImageSampleImplicitLod, ImageSampleDrefExplicitLod, ImageGather, ImageWrite}
use Rattle.words.specs.declared.operands.IdRef.{IdRef}
use Rattle.words.specs.declared.instructions.Instruction.{Instruction}
use Rattle.words.specs.Masks.{words_needed}
use Rattle.words.specs.Operands.{no_operands}
use Rattle.words.specs.Instructions.{ids, no_id, instruction}

-- masks, and the words that their operands need
abbrev pub needed_words : List (ℕ × ℕ)
needed_words =
    (0x9, 2) ∷  -- Bias and ConstOffset
    (0x4, 2) ∷  -- Grad
    (0x600, 1) ∷  -- MakeTexelVisible and NonPrivateTexel
    (0x47, 5) ∷ (0x4f00, 2) ∷ (0, 0) ∷ []

-- words, and the fault that they give
abbrev pub refused_words : List (List ℕ × Fault)
refused_words =
    -- a mask of Offset
    (0x70057 ∷ 4 ∷ 31 ∷ 30 ∷ 20 ∷ 0x10 ∷ 21 ∷ [], fault_at 4 Words 5) ∷
    -- opcode 87 with a mask of Lod
    (0x70057 ∷ 4 ∷ 31 ∷ 30 ∷ 20 ∷ 0x2 ∷ 21 ∷ [], fault_at 7 Rules 5) ∷
    -- no words; fewer than the count says, of an opcode that is not listed; a count of 0; 86 with a word more
    ([], fault_at 1 Words 0) ∷
    (0x60010 ∷ 1 ∷ [], fault_at 1 Words 2) ∷
    (0x57 ∷ [], fault_at 2 Words 0) ∷
    (0x10 ∷ [], fault_at 3 Words 0) ∷
    (0x60056 ∷ 4 ∷ 31 ∷ 10 ∷ 11 ∷ 0 ∷ [], fault_at 2 Words 0) ∷
    -- a word too many after the mask; the same with a bit that is not supported, which is looked for first; words that
    -- are missing, which is looked for before both
    (0x80057 ∷ 4 ∷ 31 ∷ 30 ∷ 20 ∷ 0x1 ∷ 21 ∷ 21 ∷ [], fault_at 2 Words 0) ∷
    (0x80057 ∷ 4 ∷ 31 ∷ 30 ∷ 20 ∷ 0x11 ∷ 21 ∷ [], fault_at 1 Words 7) ∷
    (0x80063 ∷ 10 ∷ 20 ∷ 21 ∷ 0x1 ∷ 22 ∷ 23 ∷ 24 ∷ [], fault_at 4 Words 4) ∷
    -- a gather with Lod
    (0x80060 ∷ 4 ∷ 31 ∷ 30 ∷ 20 ∷ 12 ∷ 0x2 ∷ 21 ∷ [], fault_at 7 Rules 6) ∷ []

abbrev at : ℕ → ℕ → IdRef
at place id = record { id = id; place = place }

-- words, and what they say: one for each layout of the fixed words
abbrev pub accepted_words : List (List ℕ × Instruction)
accepted_words = (
  0x50056 ∷ 0 ∷ 30 ∷ 10 ∷ 11 ∷ [],
  record {
    opcode = SampledImage;
    ids = ids (at 1 0) (at 2 30) (at 3 10) (at 4 11) no_id no_id no_id no_id;
    operands = no_operands 0;
  },
) ∷
    -- words past the count
    (
      0x50057 ∷ 4 ∷ 31 ∷ 30 ∷ 20 ∷ 99 ∷ [],
      record {
        opcode = ImageSampleImplicitLod;
        ids = ids (at 1 4) (at 2 31) (at 3 30) no_id (at 4 20) no_id no_id no_id;
        operands = no_operands 0;
      },
    ) ∷
    -- NonPrivateTexel, which takes no word
    (
      0x70060 ∷ 4 ∷ 31 ∷ 30 ∷ 20 ∷ 12 ∷ 0x400 ∷ [],
      record {
        opcode = ImageGather;
        ids = ids (at 1 4) (at 2 31) (at 3 30) no_id (at 4 20) (at 5 12) no_id no_id;
        operands = no_operands 0x400;
      },
    ) ∷
    -- Grad and ConstOffset
    (
      0xa005a ∷ 1 ∷ 31 ∷ 30 ∷ 20 ∷ 21 ∷ 0xc ∷ 22 ∷ 23 ∷ 24 ∷ [],
      record {
        opcode = ImageSampleDrefExplicitLod;
        ids = ids (at 1 1) (at 2 31) (at 3 30) no_id (at 4 20) no_id (at 5 21) no_id;
        operands = record {
          mask = 0xc;
          bias = None;
          lod = None;
          grad = Some (record { x = at 7 22; y = at 8 23 });
          const_offset = Some (at 9 24);
          sample = None;
          make_texel_available = None;
          make_texel_visible = None;
        };
      },
    ) ∷
    -- MakeTexelAvailable
    (
      0x60063 ∷ 10 ∷ 20 ∷ 21 ∷ 0x100 ∷ 17 ∷ [],
      record {
        opcode = ImageWrite;
        ids = ids no_id no_id (at 1 10) no_id (at 2 20) no_id no_id (at 3 21);
        operands = record {
          mask = 0x100;
          bias = None;
          lod = None;
          grad = None;
          const_offset = None;
          sample = None;
          make_texel_available = Some (at 5 17);
          make_texel_visible = None;
        };
      },
    ) ∷ []

-- each row of the first table holds of the words needed, each of the others of the answer
abbrev pub Examples : Type 0
Examples = (map (λ row. words_needed row.0) needed_words ≡ map (λ row. row.1) needed_words)
    × (map (λ row. refusal_of (instruction row.0)) refused_words ≡ map (λ row. Some row.1) refused_words)
    × (map (λ row. instruction row.0) accepted_words ≡ map (λ row. Ok row.1) accepted_words)
