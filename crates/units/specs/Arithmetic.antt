-- IEEE 754 binary32, and WGSL's conversions to a Sint. The run and the account share these.
use Rattle.std.specs.Prelude.{◌≡◌, ℕ, ◌-◌, cond, List, [], ◌∷◌, map, ℤ, pos, negsuc, from_bits, nat_lt, Float}
use Rattle.std.specs.Float.Ieee.{div, to_signed, le}
use Rattle.std.specs.Float.{round_ties_even, binary32}

-- the number with these bits
abbrev pub float : ℕ → Float
float bits = from_bits binary32 bits

abbrev pub zero_float : Float
zero_float = float 0

-- division, rounded to nearest, ties to even
unfoldable pub quotient : Float → Float → Float
quotient left right = div binary32 left right

-- to the nearest whole number, ties to even
unfoldable pub nearest : Float → Float
nearest x = round_ties_even binary32 x

-- Float to Sint: the fraction dropped, held to -2,147,483,648 to 2,147,483,520, 0 of a NaN
unfoldable pub to_sint : Float → ℤ
to_sint x = cond (le (float 0x4f000000) x) (pos 2147483520) (to_signed 31 x)

-- Uint to Sint: the same bits
abbrev pub bits_to_sint : ℕ → ℤ
bits_to_sint u = cond (nat_lt u 0x80000000) (pos u) (negsuc (0xffffffff - u))

-- and back
abbrev pub sint_to_bits : ℤ → ℕ
sint_to_bits (pos n) = n
sint_to_bits (negsuc n) = 0xffffffff - n

-- the layer of a Float component
abbrev pub layer_of : Float → ℤ
layer_of x = to_sint (nearest x)

-- 2.9999998, 2.5, 3.5, -0.5, and beyond the ends: 3e9, -3e9, NaN
abbrev pub layers : List (ℕ × ℤ)
layers =
    (0x403fffff, pos 3) ∷ (0x40200000, pos 2) ∷ (0x40600000, pos 4) ∷ (0xbf000000, pos 0) ∷
    (0x4f32d05e, pos 2147483520) ∷ (0xcf32d05e, negsuc 2147483647) ∷ (0x7fc00000, pos 0) ∷ []

-- 1 / 4, 5 / 2 and 1 / 3
abbrev pub quotients : List (ℕ × ℕ × ℕ)
quotients =
    (0x3f800000, 0x40800000, 0x3e800000) ∷ (0x40a00000, 0x40000000, 0x40200000) ∷ (0x3f800000, 0x40400000, 0x3eaaaaab) ∷ []

abbrev pub Examples : Type 0
Examples = (map (λ row. layer_of (float row.0)) layers ≡ map (λ row. row.1) layers)
    × (map (λ row. quotient (float row.0) (float row.1)) quotients ≡ map (λ row. float row.2) quotients)
    × (map bits_to_sint (0 ∷ 7 ∷ 0x7fffffff ∷ 0x80000000 ∷ 0xffffffff ∷ []) ≡ (pos 0 ∷ pos 7 ∷ pos 2147483647 ∷ negsuc 2147483647 ∷ negsuc 0 ∷ []))
