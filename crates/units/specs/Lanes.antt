-- Four lanes at a time, and the first of them by its type.
use Rattle.std.specs.Prelude.{ℕ, Bool, false, List, [], ◌∷◌, ℤ, pos, slice_index, slice_index_or, Float}
use Rattle.units.specs.declared.values.Width.{Width}
use Rattle.units.specs.declared.values.Width.TheVariants.{One, Two, Three, Four}
use Rattle.units.specs.declared.values.Lanes.{Lanes}
use Rattle.units.specs.declared.values.Lanes.TheVariants as lanes
use Rattle.units.specs.Arithmetic.{zero_float}

-- the lanes within a width, and zeros
abbrev pub fill : {X : Type 0} → X → Width → List X → List X
fill zero One xs = slice_index_or xs 0 zero ∷ zero ∷ zero ∷ zero ∷ []
fill zero Two xs = slice_index_or xs 0 zero ∷ slice_index_or xs 1 zero ∷ zero ∷ zero ∷ []
fill zero Three xs = slice_index_or xs 0 zero ∷ slice_index_or xs 1 zero ∷ slice_index_or xs 2 zero ∷ zero ∷ []
fill zero Four xs = slice_index_or xs 0 zero ∷ slice_index_or xs 1 zero ∷ slice_index_or xs 2 zero ∷ slice_index_or xs 3 zero ∷ []

-- the first lane, or zero where the lanes are of another type

abbrev pub first_float : Lanes → Float
first_float (lanes.Float xs) = slice_index_or xs 0 zero_float
first_float _ = zero_float

abbrev pub first_sint : Lanes → ℤ
first_sint (lanes.Sint xs) = slice_index_or xs 0 (pos 0)
first_sint _ = pos 0

abbrev pub first_uint : Lanes → ℕ
first_uint (lanes.Uint xs) = slice_index xs 0
first_uint _ = 0

abbrev pub first_bool : Lanes → Bool
first_bool (lanes.Bool xs) = slice_index_or xs 0 false
first_bool _ = false
