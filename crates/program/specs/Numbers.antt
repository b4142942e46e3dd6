-- A word of a script: hexadecimal digits, at most 32 bits.
use Rattle.std.specs.Prelude.{ℕ, ◌+◌, ◌-◌, ◌*◌, Bool, cond, ◌&&◌, List, [], ◌∷◌, Some, None, Ok, Err, Option, Result, nat_le, nat_lt}
use Rattle.program.specs.declared.numbers.BadWord.{BadWord}
use Rattle.program.specs.declared.numbers.BadWord.TheVariants.{NotHexadecimal, TooLarge}

abbrev pub between : ℕ → ℕ → ℕ → Bool
between low high c = nat_le low c && nat_le c high

-- 0 to 9, a to f, A to F, by their character codes
abbrev pub hex_digit : ℕ → Option ℕ
hex_digit c = cond (between 48 57 c) (Some (c - 48)) (cond (between 97 102 c) (Some (c - 87)) (cond (between 65 70 c) (Some (c - 55)) None))

-- one digit more, if there is one and the number still fits 32 bits
abbrev pub one_more : ℕ → Option ℕ → Result ℕ BadWord
one_more n None = Err NotHexadecimal
one_more n (Some d) = cond (nat_lt n 0x1000_0000) (Ok (n * 16 + d)) (Err TooLarge)

unfoldable pub hex_from : Result ℕ BadWord → List ℕ → Result ℕ BadWord
hex_from r [] = r
hex_from (Err e) (c ∷ cs) = Err e
hex_from (Ok n) (c ∷ cs) = hex_from (one_more n (hex_digit c)) cs

abbrev pub hex_word : List ℕ → Result ℕ BadWord
hex_word text = hex_from (Ok 0) text
