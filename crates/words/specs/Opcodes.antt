-- SPIR-V's fourteen image instructions.
use Rattle.std.specs.Prelude.{ℕ, cond, List, [], ◌∷◌, Some, None, Option, ◌==◌}
use Rattle.words.specs.declared.opcodes.Opcode.{Opcode}
use Rattle.words.specs.declared.opcodes.Opcode.TheVariants.{SampledImage, ImageSampleImplicitLod, ImageSampleExplicitLod, ImageSampleDrefImplicitLod, ImageSampleDrefExplicitLod, ImageSampleProjImplicitLod, ImageSampleProjExplicitLod, ImageSampleProjDrefImplicitLod, ImageSampleProjDrefExplicitLod, ImageFetch, ImageGather, ImageDrefGather, ImageRead, ImageWrite}
use Rattle.words.specs.declared.opcodes.Layout.{Layout}
use Rattle.words.specs.declared.opcodes.Layout.TheVariants.{Couple, Plain, Component, Reference, Write}
use Rattle.words.specs.declared.opcodes.OperandRule.{OperandRule}
use Rattle.words.specs.declared.opcodes.OperandRule.TheVariants.{Never, Implicit, Explicit, Gather, Load, Store}
use Rattle.words.specs.declared.opcodes.OpcodeRow.{OpcodeRow}

abbrev pub opcode_row : ℕ → ℕ → Layout → OperandRule → OpcodeRow
opcode_row n l w o = record { number = n; least = l; layout = w; rule = o }

-- The table: number, least word count, fixed words, and which operands a mask may name.
abbrev pub row_of : Opcode → OpcodeRow
row_of SampledImage = opcode_row 86 5 Couple Never
row_of ImageSampleImplicitLod = opcode_row 87 5 Plain Implicit
row_of ImageSampleExplicitLod = opcode_row 88 7 Plain Explicit
row_of ImageSampleDrefImplicitLod = opcode_row 89 6 Reference Implicit
row_of ImageSampleDrefExplicitLod = opcode_row 90 8 Reference Explicit
row_of ImageSampleProjImplicitLod = opcode_row 91 5 Plain Implicit
row_of ImageSampleProjExplicitLod = opcode_row 92 7 Plain Explicit
row_of ImageSampleProjDrefImplicitLod = opcode_row 93 6 Reference Implicit
row_of ImageSampleProjDrefExplicitLod = opcode_row 94 8 Reference Explicit
row_of ImageFetch = opcode_row 95 5 Plain Load
row_of ImageGather = opcode_row 96 6 Component Gather
row_of ImageDrefGather = opcode_row 97 6 Reference Gather
row_of ImageRead = opcode_row 98 5 Plain Load
row_of ImageWrite = opcode_row 99 4 Write Store

abbrev pub opcodes : List Opcode
opcodes = SampledImage ∷ ImageSampleImplicitLod ∷ ImageSampleExplicitLod ∷ ImageSampleDrefImplicitLod ∷ ImageSampleDrefExplicitLod
    ∷ ImageSampleProjImplicitLod ∷ ImageSampleProjExplicitLod ∷ ImageSampleProjDrefImplicitLod ∷ ImageSampleProjDrefExplicitLod
    ∷ ImageFetch ∷ ImageGather ∷ ImageDrefGather ∷ ImageRead ∷ ImageWrite ∷ []

abbrev pub numbered_in : List Opcode → ℕ → Option Opcode
numbered_in [] n = None
numbered_in (op ∷ ops) n = cond (n == (row_of op).number) (Some op) (numbered_in ops n)

-- the opcode with a number, if it is listed
abbrev pub numbered : ℕ → Option Opcode
numbered n = numbered_in opcodes n

-- where the words after the fixed ones begin: the place of the mask, if there is one
abbrev pub mask_place : Layout → ℕ
mask_place Couple = 5
mask_place Plain = 5
mask_place Component = 6
mask_place Reference = 6
mask_place Write = 4

abbrev pub place : Opcode → ℕ
place op = mask_place (row_of op).layout
