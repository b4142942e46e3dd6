use Rattle.std.proofs.Common.{rules}
use Rattle.units.specs.Arithmetic.{bits_to_sint}
use Rattle.units.proofs.operations.cast_components.Goals as goal

pub returns-in-Uint : goal.returns-in-Uint
returns-in-Uint c =
    let cast = c.map_lanes-in-Uint.ensures bits_to_sint (λ x y p. search rules) in
    search rules
