-- Sampling flags: REGULAR is bit 1, COMPARISON bit 2.
use Rattle.std.specs.Prelude.{◌≡◌, ℕ, Bool, true, false, ◌==◌, bit_and, bit_or}
use Rattle.records.specs.declared.flags.SamplingFlags.{SamplingFlags}

abbrev pub contains : ℕ → ℕ → Bool
contains flags flag = bit_and flags flag == flag

abbrev pub inserted : ℕ → ℕ → ℕ
inserted flags flag = bit_or flags flag

-- the flags with those of another set
abbrev pub union : SamplingFlags → SamplingFlags → SamplingFlags
union flags flag = record { bits = inserted flags.bits flag.bits }

-- the flags by name

abbrev pub no_flags : SamplingFlags
no_flags = record { bits = 0 }

abbrev pub regular : SamplingFlags
regular = record { bits = 1 }

abbrev pub comparison : SamplingFlags
comparison = record { bits = 2 }

-- what setting one of two bits does to both
abbrev pub Sets : ℕ → ℕ → Type 0
Sets one another = (flags : ℕ) → (contains (inserted flags one) one ≡ true) × (contains (inserted flags one) another ≡ contains flags another)

abbrev pub FlagsKept : Type 0
FlagsKept = Sets 1 2 × Sets 2 1 × (contains 0 1 ≡ false) × (contains 0 2 ≡ false)
