-- Vector sizes and the components of a pattern by their numbers.
use Rattle.std.specs.Prelude.{ℕ, cond, Some, None, Option, ◌==◌}
use Rattle.records.specs.declared.expressions.SwizzleComponent.{SwizzleComponent}
use Rattle.records.specs.declared.expressions.SwizzleComponent.TheVariants.{X, Y, Z, W}
use Rattle.records.specs.declared.types.VectorSize.{VectorSize}
use Rattle.records.specs.declared.types.VectorSize.TheVariants.{Bi, Tri, Quad}

abbrev pub size_of : VectorSize → ℕ
size_of Bi = 2
size_of Tri = 3
size_of Quad = 4

abbrev pub size_numbered : ℕ → Option VectorSize
size_numbered n = cond (n == 2) (Some Bi) (cond (n == 3) (Some Tri) (cond (n == 4) (Some Quad) None))

abbrev pub component_number : SwizzleComponent → ℕ
component_number X = 0
component_number Y = 1
component_number Z = 2
component_number W = 3

abbrev pub component_numbered : ℕ → Option SwizzleComponent
component_numbered n = cond (n == 0) (Some X) (cond (n == 1) (Some Y) (cond (n == 2) (Some Z) (cond (n == 3) (Some W) None)))
