-- The records that an instruction appends, in order; `u` is the number of expressions before them. `c` is the coordinate.
use Rattle.std.specs.Prelude.{ℕ, ◌+◌, Bool, true, false, cond, List, [], ◌∷◌, ◌++◌, Some, None, Option}
use Rattle.records.specs.Expressions.{no_expression, access_index, compose, splat, swizzle, divide, round, cast, image_sample, image_load, with_result}
use Rattle.records.specs.declared.expressions.Expression.{Expression}
use Rattle.records.specs.declared.expressions.ImageParts.{ImageParts}
use Rattle.records.specs.declared.expressions.SampleLevel.TheVariants.{Auto}
use Rattle.records.specs.declared.expressions.SwizzleComponent.{SwizzleComponent}
use Rattle.records.specs.declared.expressions.SwizzleComponent.TheVariants.{X, Y, Z, W}
use Rattle.records.specs.declared.handles.ExpressionHandle.{ExpressionHandle}
use Rattle.records.specs.declared.handles.TypeHandle.{TypeHandle}
use Rattle.records.specs.declared.types.ImageDimension.{ImageDimension}
use Rattle.records.specs.declared.types.ImageDimension.TheVariants.{D1, D2, D3, Cube}
use Rattle.records.specs.declared.types.VectorSize.{VectorSize}
use Rattle.records.specs.declared.types.VectorSize.TheVariants.{Bi, Tri, Quad}
use Rattle.images.specs.declared.plans.ExtraCoordinate.{ExtraCoordinate}
use Rattle.images.specs.declared.plans.ExtraCoordinate.TheVariants.{ArrayLayer, Projection, Garbage}
use Rattle.images.specs.declared.plans.Split.{Split}
use Rattle.images.specs.declared.plans.SamplePlan.{SamplePlan}
use Rattle.images.specs.declared.plans.LoadPlan.{LoadPlan}
use Rattle.images.specs.declared.plans.StorePlan.{StorePlan}
use Rattle.images.specs.Rules.{place_size}

abbrev pub at : ℕ → ExpressionHandle
at n = record { index = n }

abbrev pub pair : ExpressionHandle → ExpressionHandle → List ExpressionHandle
pair a b = a ∷ b ∷ no_expression ∷ no_expression ∷ []

abbrev pub triple : ExpressionHandle → ExpressionHandle → ExpressionHandle → List ExpressionHandle
triple a b c = a ∷ b ∷ c ∷ no_expression ∷ []

-- the first components of the coordinate, put together again
abbrev pub place_records : ℕ → ExpressionHandle → TypeHandle → ImageDimension → List Expression
place_records u c v D1 = access_index c 0 ∷ []
place_records u c v D2 = access_index c 0 ∷ access_index c 1 ∷ compose v Bi (pair (at u) (at (u + 1))) ∷ []
place_records u c v D3 =
    access_index c 0 ∷ access_index c 1 ∷ access_index c 2 ∷ compose v Tri (triple (at u) (at (u + 1)) (at (u + 2))) ∷ []
place_records u c v Cube =
    access_index c 0 ∷ access_index c 1 ∷ access_index c 2 ∷ compose v Tri (triple (at u) (at (u + 1)) (at (u + 2))) ∷ []

abbrev pub place_count : ImageDimension → ℕ
place_count D1 = 1
place_count D2 = 3
place_count D3 = 4
place_count Cube = 4

-- the number of the last of them
abbrev pub place_last : ImageDimension → ℕ
place_last D1 = 0
place_last D2 = 2
place_last D3 = 3
place_last Cube = 3

-- the component after the place as a layer: a Float one is rounded, then it is cast
abbrev pub layer_records : ℕ → ExpressionHandle → ℕ → Bool → List Expression
layer_records u c n true = access_index c n ∷ round (at u) ∷ cast (at (u + 1)) ∷ []
layer_records u c n false = access_index c n ∷ cast (at u) ∷ []

abbrev pub layer_count : Bool → ℕ
layer_count float = cond float 3 2

abbrev pub layer_last : Bool → ℕ
layer_last float = cond float 2 1

-- the first components, each divided by the one after them, put together again
abbrev pub projected_records : ℕ → ExpressionHandle → TypeHandle → ImageDimension → List Expression
projected_records u c v D1 = access_index c 1 ∷ access_index c 0 ∷ divide (at (u + 1)) (at u) ∷ []
projected_records u c v D2 =
    access_index c 2 ∷ access_index c 0 ∷ divide (at (u + 1)) (at u) ∷ access_index c 1 ∷ divide (at (u + 3)) (at u)
    ∷ compose v Bi (pair (at (u + 2)) (at (u + 4))) ∷ []
projected_records u c v D3 =
    access_index c 3 ∷ access_index c 0 ∷ divide (at (u + 1)) (at u) ∷ access_index c 1 ∷ divide (at (u + 3)) (at u)
    ∷ access_index c 2 ∷ divide (at (u + 5)) (at u) ∷ compose v Tri (triple (at (u + 2)) (at (u + 4)) (at (u + 6))) ∷ []
projected_records u c v Cube =
    access_index c 3 ∷ access_index c 0 ∷ divide (at (u + 1)) (at u) ∷ access_index c 1 ∷ divide (at (u + 3)) (at u)
    ∷ access_index c 2 ∷ divide (at (u + 5)) (at u) ∷ compose v Tri (triple (at (u + 2)) (at (u + 4)) (at (u + 6))) ∷ []

abbrev pub projected_count : ImageDimension → ℕ
projected_count D1 = 3
projected_count D2 = 6
projected_count D3 = 8
projected_count Cube = 8

abbrev pub projected_last : ImageDimension → ℕ
projected_last D1 = 2
projected_last D2 = 5
projected_last D3 = 7
projected_last Cube = 7

abbrev pub in_order : List SwizzleComponent
in_order = X ∷ Y ∷ Z ∷ W ∷ []

-- the first components alone, where there are more
abbrev pub cut_record : ExpressionHandle → ImageDimension → Expression
cut_record c D1 = access_index c 0
cut_record c D2 = swizzle Bi c in_order
cut_record c D3 = swizzle Tri c in_order
cut_record c Cube = swizzle Tri c in_order

-- The split: its records, how many they are, and the expressions of the place and the layer.

abbrev pub split_by : ℕ → Split → ExtraCoordinate → List Expression
split_by u s ArrayLayer = place_records u s.base s.vector s.dim ++ layer_records (u + place_count s.dim) s.base (place_size s.dim) s.float
split_by u s Projection = projected_records u s.base s.vector s.dim
split_by u s Garbage = cond s.exact [] (cut_record s.base s.dim ∷ [])

abbrev pub split_records : ℕ → Split → List Expression
split_records u s = split_by u s s.extra

abbrev pub split_count_by : Split → ExtraCoordinate → ℕ
split_count_by s ArrayLayer = place_count s.dim + layer_count s.float
split_count_by s Projection = projected_count s.dim
split_count_by s Garbage = cond s.exact 0 1

abbrev pub split_count : Split → ℕ
split_count s = split_count_by s s.extra

abbrev pub split_place_by : ℕ → Split → ExtraCoordinate → ExpressionHandle
split_place_by u s ArrayLayer = at (u + place_last s.dim)
split_place_by u s Projection = at (u + projected_last s.dim)
split_place_by u s Garbage = cond s.exact s.base (at u)

abbrev pub split_place : ℕ → Split → ExpressionHandle
split_place u s = split_place_by u s s.extra

abbrev pub split_layer_by : ℕ → Split → ExtraCoordinate → Option ExpressionHandle
split_layer_by u s ArrayLayer = Some (at (u + place_count s.dim + layer_last s.float))
split_layer_by u s Projection = None
split_layer_by u s Garbage = None

abbrev pub split_layer : ℕ → Split → Option ExpressionHandle
split_layer u s = split_layer_by u s s.extra

-- A depth reference is divided like the place.

abbrev pub reference_by : ℕ → Split → ExpressionHandle → ExtraCoordinate → List Expression
reference_by u s r ArrayLayer = []
reference_by u s r Projection = access_index s.base (place_size s.dim) ∷ divide r (at u) ∷ []
reference_by u s r Garbage = []

abbrev pub reference_records : ℕ → Split → Option ExpressionHandle → List Expression
reference_records u s None = []
reference_records u s (Some r) = reference_by u s r s.extra

abbrev pub reference_count_by : ExtraCoordinate → ℕ
reference_count_by ArrayLayer = 0
reference_count_by Projection = 2
reference_count_by Garbage = 0

abbrev pub reference_count : Split → Option ExpressionHandle → ℕ
reference_count s None = 0
reference_count s (Some r) = reference_count_by s.extra

abbrev pub divided_by : ℕ → ExpressionHandle → ExtraCoordinate → ExpressionHandle
divided_by u r ArrayLayer = r
divided_by u r Projection = at (u + 1)
divided_by u r Garbage = r

abbrev pub divided_reference : ℕ → Split → Option ExpressionHandle → Option ExpressionHandle
divided_reference u s None = None
divided_reference u s (Some r) = Some (divided_by u r s.extra)

-- Samples and gathers. The last record holds the result type.

-- u is the number of expressions before the split, k of those before the sample itself
abbrev pub sample_parts : ℕ → ℕ → SamplePlan → ImageParts
sample_parts u k p = record {
  coordinate = split_place u p.split;
  array_index = split_layer u p.split;
  gather = p.gather;
  offset = p.offset;
  level = p.level;
  depth_ref = divided_reference k p.split p.reference;
  sample = None;
  lod = None;
}

abbrev pub splatted_to : Option VectorSize → ℕ → TypeHandle → Expression → List Expression
splatted_to (Some s) k t e = e ∷ with_result t (splat s (at k)) ∷ []
splatted_to None k t e = with_result t e ∷ []

abbrev pub one_or_two : Option VectorSize → ℕ
one_or_two (Some s) = 2
one_or_two None = 1

abbrev pub sample_records : ℕ → SamplePlan → List Expression
sample_records u p =
    let k : ℕ = u + split_count p.split in
    let j : ℕ = k + reference_count p.split p.reference in
    split_records u p.split ++ (reference_records k p.split p.reference
    ++ splatted_to p.splat j p.result (image_sample p.image p.sampler (sample_parts u k p)))

abbrev pub sample_count : SamplePlan → ℕ
sample_count p = split_count p.split + reference_count p.split p.reference + one_or_two p.splat

-- Loads.

abbrev pub load_parts : ℕ → LoadPlan → ImageParts
load_parts u p = record {
  coordinate = split_place u p.split;
  array_index = split_layer u p.split;
  gather = None;
  offset = None;
  level = Auto;
  depth_ref = None;
  sample = p.sample;
  lod = p.lod;
}

abbrev pub load_records : ℕ → LoadPlan → List Expression
load_records u p =
    split_records u p.split
    ++ splatted_to p.splat (u + split_count p.split) p.result (image_load p.image (load_parts u p))

abbrev pub load_count : LoadPlan → ℕ
load_count p = split_count p.split + one_or_two p.splat

-- Stores: the value is widened to four components.

abbrev pub widened : ExpressionHandle → Option VectorSize → List Expression
widened v None = splat Quad v ∷ []
widened v (Some Bi) = swizzle Quad v (X ∷ Y ∷ Y ∷ Y ∷ []) ∷ []
widened v (Some Tri) = swizzle Quad v (X ∷ Y ∷ Z ∷ Z ∷ []) ∷ []
widened v (Some Quad) = []

abbrev pub widened_count : Option VectorSize → ℕ
widened_count None = 1
widened_count (Some Bi) = 1
widened_count (Some Tri) = 1
widened_count (Some Quad) = 0

abbrev pub widened_value : ℕ → ExpressionHandle → Option VectorSize → ExpressionHandle
widened_value u v None = at u
widened_value u v (Some Bi) = at u
widened_value u v (Some Tri) = at u
widened_value u v (Some Quad) = v

abbrev pub store_records : ℕ → StorePlan → List Expression
store_records u p = split_records u p.split ++ widened p.value p.size

abbrev pub store_count : StorePlan → ℕ
store_count p = split_count p.split + widened_count p.size
