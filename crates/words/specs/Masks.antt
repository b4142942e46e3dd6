-- SPIR-V's image operands mask.
use Rattle.std.specs.Prelude.{ℕ, zero, suc, ◌+◌, ◌/◌, ◌%◌, ◌^◌, Bool, true, false, cond, not, ◌&&◌, ◌||◌, List, [], ◌∷◌, Some, None, Option, ◌==◌}
use Rattle.words.specs.declared.masks.UsedBy.{UsedBy}
use Rattle.words.specs.declared.masks.UsedBy.TheVariants.{Samples, Loads, SamplesAndLoads, Nobody}
use Rattle.words.specs.declared.masks.MaskBit.{MaskBit}
use Rattle.words.specs.declared.opcodes.OperandRule.{OperandRule}
use Rattle.words.specs.declared.opcodes.OperandRule.TheVariants.{Never, Implicit, Explicit, Gather, Load, Store}

abbrev pub bit : ℕ → UsedBy → MaskBit
bit n u = record { words = n; used_by = u }

-- The table: the bit's number, then the words that it takes and who honours it. Other bits have no row.
abbrev pub mask_table : List (ℕ × MaskBit)
mask_table =
    (0, bit 1 Samples) ∷  -- 1 Bias
    (1, bit 1 SamplesAndLoads) ∷  -- 2 Lod
    (2, bit 2 Samples) ∷  -- 4 Grad
    (3, bit 1 Samples) ∷  -- 8 ConstOffset
    (6, bit 1 Loads) ∷  -- 40 Sample
    (8, bit 1 Nobody) ∷  -- 100 MakeTexelAvailable
    (9, bit 1 Nobody) ∷  -- 200 MakeTexelVisible
    (10, bit 0 Nobody) ∷  -- 400 NonPrivateTexel
    (11, bit 0 Nobody) ∷  -- 800 VolatileTexel
    (14, bit 0 Nobody) ∷ []  -- 4000 Nontemporal

abbrev pub bit_in : List (ℕ × MaskBit) → ℕ → Option MaskBit
bit_in [] j = None
bit_in (b ∷ bs) j = cond (j == b.0) (Some b.1) (bit_in bs j)

abbrev pub mask_bit : ℕ → Option MaskBit
mask_bit j = bit_in mask_table j

-- how many words the operand of bit j takes
abbrev pub words_in : Option MaskBit → ℕ
words_in None = 0
words_in (Some b) = b.words

abbrev pub words_at : ℕ → ℕ
words_at j = words_in (mask_bit j)

-- whether bit j of a mask is set
unfoldable pub has : ℕ → ℕ → Bool
has mask j = mask / 2 ^ j % 2 == 1

-- what f makes of a, at each set bit of a mask below bit j, the lowest first
unfoldable pub over : {A : Type 0} → (ℕ → A → A) → A → ℕ → ℕ → A
over f a mask zero = a
over f a mask (suc j) = cond (has mask j) (f j (over f a mask j)) (over f a mask j)

-- the words of the operands of the set bits below bit j: those that stand before the operand of bit j
abbrev pub add_words : ℕ → ℕ → ℕ
add_words i n = n + words_at i

abbrev pub words_below : ℕ → ℕ → ℕ
words_below mask j = over add_words 0 mask j

-- the words of all operands: a mask has 32 bits
abbrev pub words_needed : ℕ → ℕ
words_needed mask = words_below mask 32

abbrev pub is_sample : OperandRule → Bool
is_sample Never = false
is_sample Implicit = true
is_sample Explicit = true
is_sample Gather = true
is_sample Load = false
is_sample Store = false

abbrev pub is_load : OperandRule → Bool
is_load Never = false
is_load Implicit = false
is_load Explicit = false
is_load Gather = false
is_load Load = true
is_load Store = false

abbrev pub is_masked : OperandRule → Bool
is_masked Never = false
is_masked Implicit = true
is_masked Explicit = true
is_masked Gather = true
is_masked Load = true
is_masked Store = true

-- whether an instruction honours an operand, or steps over it as every instruction with a mask does
abbrev pub honours : OperandRule → UsedBy → Bool
honours rule Samples = is_sample rule
honours rule Loads = is_load rule
honours rule SamplesAndLoads = is_sample rule || is_load rule
honours rule Nobody = is_masked rule

abbrev pub permits_in : OperandRule → Option MaskBit → Bool
permits_in rule None = false
permits_in rule (Some b) = honours rule b.used_by

abbrev pub permits : OperandRule → ℕ → Bool
permits rule j = permits_in rule (mask_bit j)

-- whether every set bit is permitted
abbrev pub also_permits : OperandRule → ℕ → Bool → Bool
also_permits rule i ok = ok && permits rule i

abbrev pub supports : OperandRule → ℕ → Bool
supports rule mask = over (also_permits rule) true mask 32

-- Implicit opcodes take neither Lod (bit 1) nor Grad (bit 2); explicit ones exactly one of them and no Bias (bit 0);
-- gathers none of the three.
abbrev pub allows : OperandRule → ℕ → Bool
allows Never mask = true
allows Implicit mask = not (has mask 1) && not (has mask 2)
allows Explicit mask = not (has mask 0) && cond (has mask 1) (not (has mask 2)) (has mask 2)
allows Gather mask = not (has mask 0) && (not (has mask 1) && not (has mask 2))
allows Load mask = true
allows Store mask = true
