use Rattle.std.proofs.Common.{refl}
use lib.Ieee.{div, of_bits, to_signed, le}
use Rattle.std.specs.Float.{round_with}
use Rattle.units.specs.Arithmetic.{quotient, nearest, to_sint}
use Rattle.units.proofs.arithmetic.examples_stand.Goals as goal

pub returns : goal.returns
unfolding div of_bits to_signed le round_with quotient nearest to_sint
returns c = record { examples = (refl, refl, refl); value = refl }
