-- Records written in two parts.
use Rattle.std.proofs.Common.{◌≡◌, ℕ, ◌+◌, ◌≤◌, Bool, true, false, cond, List, [], ◌∷◌, ◌++◌, length, set, Some, None, Option, refl, ap, ◌∙◌, arith, length-set}
use Rattle.records.specs.declared.expressions.Expression.{Expression}
use Rattle.records.specs.declared.handles.ExpressionHandle.{ExpressionHandle}
use Rattle.records.specs.declared.types.ImageDimension.{ImageDimension}
use Rattle.records.specs.declared.types.ImageDimension.TheVariants.{D1, D2, D3, Cube}
use Rattle.images.specs.declared.plans.ExtraCoordinate.{ExtraCoordinate}
use Rattle.images.specs.declared.plans.ExtraCoordinate.TheVariants.{ArrayLayer, Projection, Garbage}
use Rattle.images.specs.declared.plans.Split.{Split}
use Rattle.images.specs.Records.{split_by, split_count_by, split_records, split_count, place_records, place_count, layer_records, layer_count, projected_records, projected_count, cut_record, reference_records, reference_count, reference_by, reference_count_by}
use Rattle.images.specs.Rules.{place_size}
use Rattle.reader.specs.Writes.{written, Appends, Room}
use Rattle.reader.specs.declared.arena.Arena.{Arena}

pub written_append : {X : Type 0} (cells : List X) (u : ℕ) (xs ys : List X)
    → written cells u (xs ++ ys) ≡ written (written cells u xs) (u + length xs) ys
written_append cells u [] ys = ap (λ k. written cells k ys) (let h : u ≡ u + 0 = omega arith in h)
written_append cells u (x ∷ xs) ys =
    written_append (set cells u x) (u + 1) xs ys
    ∙ ap (λ k. written (written (set cells u x) (u + 1) xs) k ys) (let h : u + 1 + length xs ≡ u + length (x ∷ xs) = omega arith in h)

pub length_written : {X : Type 0} (cells : List X) (u : ℕ) (xs : List X) → length (written cells u xs) ≡ length cells
length_written cells u [] = refl
length_written cells u (x ∷ xs) = length_written (set cells u x) (u + 1) xs ∙ length-set cells u x

-- what room is left after n records, where there was room for more
pub room_left : (from to : Arena) (es : List Expression) (n m all : ℕ) → Appends from to es n → n + m ≤ all → Room from all → Room to m
room_left from to es n m all appends fits room =
    let length_same : length to.cells.now ≡ length from.cells.now = ap length appends.cells ∙ length_written from.cells.now from.used es in
    let used = appends.used in
    record { lent = omega arith; below = omega arith }

-- how many records a split and the division of a reference have

length_split : (u : ℕ) (s : Split) (e : ExtraCoordinate) → length (split_by u s e) ≡ split_count_by s e
length_split u s ArrayLayer = by s.dim s.float
  where
    by : (d : ImageDimension) (f : Bool) → length (place_records u s.base s.vector d ++ layer_records (u + place_count d) s.base (place_size d) f) ≡ place_count d + layer_count f
    by D1 true = refl
    by D1 false = refl
    by D2 true = refl
    by D2 false = refl
    by D3 true = refl
    by D3 false = refl
    by Cube true = refl
    by Cube false = refl
length_split u s Projection = by s.dim
  where
    by : (d : ImageDimension) → length (projected_records u s.base s.vector d) ≡ projected_count d
    by D1 = refl
    by D2 = refl
    by D3 = refl
    by Cube = refl
length_split u s Garbage = by s.exact
  where
    by : (b : Bool) → length (cond b [] (cut_record s.base s.dim ∷ [])) ≡ cond b 0 1
    by true = refl
    by false = refl

pub split_length : (u : ℕ) (s : Split) → length (split_records u s) ≡ split_count s
split_length u s = length_split u s s.extra

length_by : (u : ℕ) (s : Split) (r : ExpressionHandle) (e : ExtraCoordinate) → length (reference_by u s r e) ≡ reference_count_by e
length_by u s r ArrayLayer = refl
length_by u s r Projection = refl
length_by u s r Garbage = refl

pub reference_length : (u : ℕ) (s : Split) (o : Option ExpressionHandle) → length (reference_records u s o) ≡ reference_count s o
reference_length u s None = refl
reference_length u s (Some r) = length_by u s r s.extra
