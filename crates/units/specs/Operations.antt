-- What operations make of components: total, and right where the types are. A lane past the width is zero.
use Rattle.std.specs.Prelude.{ℕ, false, List, [], ◌∷◌, pos, slice_index, slice_index_or}
use Rattle.units.specs.declared.values.Width.{Width}
use Rattle.units.specs.declared.values.Lanes.{Lanes}
use Rattle.units.specs.declared.values.Lanes.TheVariants as lanes
use Rattle.units.specs.declared.values.Components.{Components}
use Rattle.units.specs.Arithmetic.{zero_float, quotient, nearest, to_sint, bits_to_sint}
use Rattle.units.specs.Values.{float_scalar}
use Rattle.units.specs.Lanes.{fill, first_float, first_sint, first_uint, first_bool}

-- lanes by their numbers
abbrev pub chosen_lanes : {X : Type 0} → X → Width → List ℕ → List X → List X
chosen_lanes zero w ns xs =
    fill zero w (slice_index_or xs (slice_index ns 0) zero ∷ slice_index_or xs (slice_index ns 1) zero ∷ slice_index_or xs (slice_index ns 2) zero ∷ slice_index_or xs (slice_index ns 3) zero ∷ [])

abbrev pub chosen_of : Width → List ℕ → Lanes → Lanes
chosen_of w ns (lanes.Float xs) = lanes.Float (chosen_lanes zero_float w ns xs)
chosen_of w ns (lanes.Sint xs) = lanes.Sint (chosen_lanes (pos 0) w ns xs)
chosen_of w ns (lanes.Uint xs) = lanes.Uint (chosen_lanes 0 w ns xs)
chosen_of w ns (lanes.Bool xs) = lanes.Bool (chosen_lanes false w ns xs)

-- AccessIndex is one lane chosen, Splat the first lane over and over, Swizzle the lanes of a pattern
abbrev pub chosen : Width → List ℕ → Components → Components
chosen w ns c = record { width = w; lanes = chosen_of w ns c.lanes }

-- four scalars, of the kind of the first
abbrev pub composed_of : Width → Lanes → Lanes → Lanes → Lanes → Lanes
composed_of w (lanes.Float xs) b c d = lanes.Float (fill zero_float w (slice_index_or xs 0 zero_float ∷ first_float b ∷ first_float c ∷ first_float d ∷ []))
composed_of w (lanes.Sint xs) b c d = lanes.Sint (fill (pos 0) w (slice_index_or xs 0 (pos 0) ∷ first_sint b ∷ first_sint c ∷ first_sint d ∷ []))
composed_of w (lanes.Uint xs) b c d = lanes.Uint (fill 0 w (slice_index xs 0 ∷ first_uint b ∷ first_uint c ∷ first_uint d ∷ []))
composed_of w (lanes.Bool xs) b c d = lanes.Bool (fill false w (slice_index_or xs 0 false ∷ first_bool b ∷ first_bool c ∷ first_bool d ∷ []))

abbrev pub composed : Width → Components → Components → Components → Components → Components
composed w a b c d = record { width = w; lanes = composed_of w a.lanes b.lanes c.lanes d.lanes }

abbrev pub divided : Components → Components → Components
divided a b = float_scalar (quotient (first_float a.lanes) (first_float b.lanes))

-- f at each lane within the width
abbrev pub mapped : {X Y : Type 0} → X → Y → (X → Y) → Width → List X → List Y
mapped x y f w xs = fill y w (f (slice_index_or xs 0 x) ∷ f (slice_index_or xs 1 x) ∷ f (slice_index_or xs 2 x) ∷ f (slice_index_or xs 3 x) ∷ [])

abbrev pub rounded_of : Width → Lanes → Lanes
rounded_of w (lanes.Float xs) = lanes.Float (mapped zero_float zero_float nearest w xs)
rounded_of w l = l

abbrev pub rounded : Components → Components
rounded c = record { width = c.width; lanes = rounded_of c.width c.lanes }

abbrev pub casted_of : Width → Lanes → Lanes
casted_of w (lanes.Float xs) = lanes.Sint (mapped zero_float (pos 0) to_sint w xs)
casted_of w (lanes.Uint xs) = lanes.Sint (mapped 0 (pos 0) bits_to_sint w xs)
casted_of w l = l

abbrev pub casted : Components → Components
casted c = record { width = c.width; lanes = casted_of c.width c.lanes }
