-- What the two units answer.
use Rattle.std.specs.Prelude.{◌≡◌, Bool, true, false, cond, List, [], ◌∷◌, pos, refl}
use Rattle.std.proofs.Common.{ap}
use Rattle.records.specs.declared.types.ScalarKind.{ScalarKind}
use Rattle.records.specs.declared.types.ScalarKind.TheVariants as kinds
use Rattle.records.specs.declared.types.VectorSize.TheVariants.{Quad}
use Rattle.records.specs.declared.types.TypeInner.TheVariants.{Scalar, Vector}
use Rattle.units.specs.declared.values.Width.{Width}
use Rattle.units.specs.declared.values.Width.TheVariants.{One, Two, Three, Four}
use Rattle.units.specs.declared.values.Lanes.{Lanes}
use Rattle.units.specs.declared.values.Lanes.TheVariants as lanes
use Rattle.units.specs.declared.values.Components.{Components}
use Rattle.units.specs.declared.values.Value.TheVariants.{Number}
use Rattle.units.specs.declared.requests.Request.{Request}
use Rattle.units.specs.declared.colour.ColourUnit.{ColourUnit}
use Rattle.units.specs.declared.echo.EchoUnit.{EchoUnit}
use Rattle.units.specs.Arithmetic.{zero_float}
use Rattle.units.specs.Lanes.{fill, first_float}
use Rattle.units.specs.Values.{float_scalar, type_of, kind_of}
use Rattle.units.specs.Requests.{one_float, clean, clean_lanes, Answers, Answered, Typed}

abbrev pub no_lanes : ScalarKind → Lanes
no_lanes kinds.Sint = lanes.Sint (pos 0 ∷ pos 0 ∷ pos 0 ∷ pos 0 ∷ [])
no_lanes kinds.Uint = lanes.Uint (0 ∷ 0 ∷ 0 ∷ 0 ∷ [])
no_lanes kinds.Float = lanes.Float (zero_float ∷ zero_float ∷ zero_float ∷ zero_float ∷ [])
no_lanes kinds.Bool = lanes.Bool (false ∷ false ∷ false ∷ false ∷ [])

-- one colour for each kind; there is none for Bool
abbrev pub colour_of : ColourUnit → ScalarKind → Lanes
colour_of u kinds.Sint = lanes.Sint u.sint
colour_of u kinds.Uint = lanes.Uint u.uint
colour_of u kinds.Float = lanes.Float u.float
colour_of u kinds.Bool = no_lanes kinds.Bool

abbrev pub colour_answer : ColourUnit → Answers
colour_answer u q =
    cond (one_float q) (clean (record { width = One; lanes = colour_of u kinds.Float })) (clean (record { width = Four; lanes = colour_of u q.kind }))

-- one of two answers, by what is asked, has the right type where each has
pub answered : (q : Request) (one four : Components) → type_of (Number one) ≡ Scalar kinds.Float → clean one ≡ one
    → type_of (Number four) ≡ Vector Quad q.kind → clean four ≡ four → Answered q (cond (one_float q) one four)
answered q one four t c u d = record { typed = typed (one_float q); cleaned = cleaned (one_float q) }
  where
    typed : (b : Bool) → type_of (Number (cond b one four)) ≡ cond b (Scalar kinds.Float) (Vector Quad q.kind)
    typed true = t
    typed false = u

    cleaned : (b : Bool) → clean (cond b one four) ≡ cond b one four
    cleaned true = c
    cleaned false = d

colour_type_is : (u : ColourUnit) (k : ScalarKind) → type_of (Number (clean (record { width = Four; lanes = colour_of u k }))) ≡ Vector Quad k
colour_type_is u kinds.Sint = refl
colour_type_is u kinds.Uint = refl
colour_type_is u kinds.Float = refl
colour_type_is u kinds.Bool = refl

colour_clean : (u : ColourUnit) (k : ScalarKind)
    → clean (clean (record { width = Four; lanes = colour_of u k })) ≡ clean (record { width = Four; lanes = colour_of u k })
colour_clean u kinds.Sint = refl
colour_clean u kinds.Uint = refl
colour_clean u kinds.Float = refl
colour_clean u kinds.Bool = refl

pub colour_typed : (u : ColourUnit) → Typed (colour_answer u)
colour_typed u q = answered q _ _ refl refl (colour_type_is u q.kind) (colour_clean u q.kind)

-- the coordinate, filled with zeros, where it has the kind that is asked for
abbrev pub echo_lanes : ScalarKind → Width → Lanes → Lanes
echo_lanes kinds.Sint w (lanes.Sint xs) = lanes.Sint (fill (pos 0) w xs)
echo_lanes kinds.Uint w (lanes.Uint xs) = lanes.Uint (fill 0 w xs)
echo_lanes kinds.Float w (lanes.Float xs) = lanes.Float (fill zero_float w xs)
echo_lanes kinds.Bool w (lanes.Bool xs) = lanes.Bool (fill false w xs)
echo_lanes k w _ = no_lanes k

abbrev pub echo_of : Request → Lanes
echo_of q = echo_lanes q.kind q.coordinate.width q.coordinate.lanes

abbrev pub echo_answer : EchoUnit → Answers
echo_answer u q =
    cond (one_float q) (float_scalar (first_float (echo_of q))) (record { width = Four; lanes = echo_of q })

-- four lanes of a kind that are their own filling
record Quad-of (k : ScalarKind) (l : Lanes) : Type 0 where
  kind_is : kind_of l ≡ k
  filled : clean_lanes Four l ≡ l

filled_again : {X : Type 0} (z : X) (w : Width) (xs : List X) → fill z Four (fill z w xs) ≡ fill z w xs
filled_again z One xs = refl
filled_again z Two xs = refl
filled_again z Three xs = refl
filled_again z Four xs = refl

echo_quad : (k : ScalarKind) (w : Width) (l : Lanes) → Quad-of k (echo_lanes k w l)
echo_quad kinds.Sint w (lanes.Sint xs) = record { kind_is = refl; filled = ap lanes.Sint (filled_again (pos 0) w xs) }
echo_quad kinds.Uint w (lanes.Uint xs) = record { kind_is = refl; filled = ap lanes.Uint (filled_again 0 w xs) }
echo_quad kinds.Float w (lanes.Float xs) = record { kind_is = refl; filled = ap lanes.Float (filled_again zero_float w xs) }
echo_quad kinds.Bool w (lanes.Bool xs) = record { kind_is = refl; filled = ap lanes.Bool (filled_again false w xs) }
echo_quad _ w _ = record { kind_is = refl; filled = refl }

pub echo_typed : (u : EchoUnit) → Typed (echo_answer u)
echo_typed u q =
    let e = echo_quad q.kind q.coordinate.width q.coordinate.lanes in
    answered q _ _ refl refl (ap (Vector Quad) e.kind_is) (ap (λ l. record { width = Four; lanes = l }) e.filled)
