-- Requests, and what a unit answers them by.
use Rattle.std.specs.Prelude.{◌≡◌, Bool, true, false, cond, not, ◌&&◌, ◌||◌, pos, is_some}
use Rattle.records.specs.declared.types.ScalarKind.TheVariants as kinds
use Rattle.records.specs.declared.types.VectorSize.TheVariants.{Quad}
use Rattle.records.specs.declared.types.TypeInner.{TypeInner}
use Rattle.records.specs.declared.types.TypeInner.TheVariants.{Scalar, Vector}
use Rattle.units.specs.declared.values.Width.{Width}
use Rattle.units.specs.declared.values.Lanes.{Lanes}
use Rattle.units.specs.declared.values.Lanes.TheVariants as lanes
use Rattle.units.specs.declared.values.Components.{Components}
use Rattle.units.specs.declared.values.Value.TheVariants.{Number}
use Rattle.units.specs.declared.requests.Sort.{Sort}
use Rattle.units.specs.declared.requests.Sort.TheVariants.{Gather}
use Rattle.units.specs.declared.requests.Request.{Request}
use Rattle.units.specs.Arithmetic.{zero_float}
use Rattle.units.specs.Lanes.{fill}
use Rattle.units.specs.Values.{type_of}

abbrev pub is_gather : Sort → Bool
is_gather Gather = true
is_gather _ = false

-- a Depth or comparing request that is no gather is answered by one Float, another by four of the kind
abbrev pub one_float : Request → Bool
one_float q = (q.depth || is_some q.reference) && not (is_gather q.sort)

abbrev pub answer_type : Request → TypeInner
answer_type q = cond (one_float q) (Scalar kinds.Float) (Vector Quad q.kind)

-- the lanes past the width put to zero
abbrev pub clean_lanes : Width → Lanes → Lanes
clean_lanes w (lanes.Float xs) = lanes.Float (fill zero_float w xs)
clean_lanes w (lanes.Sint xs) = lanes.Sint (fill (pos 0) w xs)
clean_lanes w (lanes.Uint xs) = lanes.Uint (fill 0 w xs)
clean_lanes w (lanes.Bool xs) = lanes.Bool (fill false w xs)

abbrev pub clean : Components → Components
clean c = record { width = c.width; lanes = clean_lanes c.width c.lanes }

-- a unit's meaning
abbrev pub Answers : Type 0
Answers = Request → Components

-- what every unit proves of its meaning: the type, and that lanes past the width are zero
pub record Answered (q : Request) (a : Components) : Type 0 where
  pub typed : type_of (Number a) ≡ answer_type q
  pub cleaned : clean a ≡ a

abbrev pub Typed : Answers → Type 0
Typed answers = (q : Request) → Answered q (answers q)
