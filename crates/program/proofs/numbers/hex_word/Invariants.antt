use Rattle.std.proofs.Common.{◌≡◌, drop, Ok}
use Rattle.program.specs.Numbers.{hex_from, hex_word}
use Rattle.program.proofs.numbers.hex_word.Given as goal

-- the number so far and the digits that are left give the whole
abbrev pub invariant-loop-byte : goal.invariant-loop-byte
invariant-loop-byte l = hex_from (Ok l.number) (drop l.byte-index l.text) ≡ hex_word l.text
