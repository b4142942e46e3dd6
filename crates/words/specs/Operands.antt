-- The operands after a mask: SPIR-V puts them in the order of their bits, the lowest first.
use Rattle.std.specs.Prelude.{ℕ, ◌+◌, cond, List, Some, None, Option, ◌==◌, slice_index}
use Rattle.words.specs.declared.operands.IdRef.{IdRef}
use Rattle.words.specs.declared.operands.Gradient.{Gradient}
use Rattle.words.specs.declared.operands.ImageOperands.{ImageOperands}
use Rattle.words.specs.Masks.{has, words_below}

-- the id at an index of the words after the mask, the first of which stands at a place of the instruction
abbrev pub id_at : List ℕ → ℕ → ℕ → IdRef
id_at ws first i = record { id = slice_index ws i; place = first + i }

abbrev pub grad_at : List ℕ → ℕ → ℕ → Gradient
grad_at ws first i = record { x = id_at ws first i; y = id_at ws first (i + 1) }

-- the operand of bit j, if the bit is set: its words come after those of the lower bits
abbrev pub operand : {X : Type 0} → (ℕ → X) → ℕ → ℕ → Option X
operand read mask j = cond (has mask j) (Some (read (words_below mask j))) None

abbrev pub operands_of : ℕ → List ℕ → ℕ → ImageOperands
operands_of mask ws first = record {
  mask = mask;
  bias = operand (id_at ws first) mask 0;
  lod = operand (id_at ws first) mask 1;
  grad = operand (grad_at ws first) mask 2;
  const_offset = operand (id_at ws first) mask 3;
  sample = operand (id_at ws first) mask 6;
  make_texel_available = operand (id_at ws first) mask 8;
  make_texel_visible = operand (id_at ws first) mask 9;
}

abbrev pub no_operands : ℕ → ImageOperands
no_operands mask = record {
  mask = mask;
  bias = None;
  lod = None;
  grad = None;
  const_offset = None;
  sample = None;
  make_texel_available = None;
  make_texel_visible = None;
}

-- one operand more: that of bit j, whose words begin at an index
abbrev pub taken : ℕ → List ℕ → ℕ → ℕ → ImageOperands → ImageOperands
taken j ws first i ops = record {
  mask = ops.mask;
  bias = cond (j == 0) (Some (id_at ws first i)) ops.bias;
  lod = cond (j == 1) (Some (id_at ws first i)) ops.lod;
  grad = cond (j == 2) (Some (grad_at ws first i)) ops.grad;
  const_offset = cond (j == 3) (Some (id_at ws first i)) ops.const_offset;
  sample = cond (j == 6) (Some (id_at ws first i)) ops.sample;
  make_texel_available = cond (j == 8) (Some (id_at ws first i)) ops.make_texel_available;
  make_texel_visible = cond (j == 9) (Some (id_at ws first i)) ops.make_texel_visible;
}
