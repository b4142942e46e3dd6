-- A place in an image: whether a coordinate fits it, and how it is taken apart. `u` has the used parts of the lists.
use Rattle.std.specs.Prelude.{Bool, cond, not, ◌&&◌, ◌||◌, Some, None, Ok, Option, Result, ◌==◌}
use Rattle.std.specs.Option.{ok_or, option_map}
use Rattle.records.specs.Expressions.{no_type}
use Rattle.records.specs.declared.handles.TypeHandle.{TypeHandle}
use Rattle.records.specs.declared.refusals.Error.{Error}
use Rattle.records.specs.declared.refusals.Error.TheVariants.{InvalidCoordinate, MissingType}
use Rattle.records.specs.declared.types.ScalarKind.{ScalarKind}
use Rattle.records.specs.declared.types.TypeInner.TheVariants.{Vector}
use Rattle.records.specs.declared.types.VectorSize.{VectorSize}
use Rattle.run.specs.Types.{kind_in, count_in, is_float}
use Rattle.records.specs.Refusals.{and_then, check}
use Rattle.memory.specs.Firsts.{first_equal}
use Rattle.images.specs.declared.places.ImagePlace.{ImagePlace}
use Rattle.images.specs.declared.plans.ExtraCoordinate.{ExtraCoordinate}
use Rattle.images.specs.declared.plans.ExtraCoordinate.TheVariants.{ArrayLayer, Projection, Garbage}
use Rattle.images.specs.declared.plans.Split.{Split}
use Rattle.images.specs.Used.{Used}
use Rattle.images.specs.Rules.{place_size, has_components, composed_size}

-- whether there is a layer or a divisor
abbrev pub has_more : ImagePlace → Bool
has_more p = p.shape.arrayed || p.project

-- what the component after the place is
abbrev pub extra_of : Bool → Bool → ExtraCoordinate
extra_of project arrayed = cond project Projection (cond arrayed ArrayLayer Garbage)

-- The coordinate: 11, and 14 for the vector type of the Compose that puts a place together again, both blaming it.

abbrev pub place_kind : ImagePlace → ScalarKind
place_kind p = kind_in p.coordinate.inner

-- whether the kind is right, and there are components enough
abbrev pub place_fits : Bool → ImagePlace → Result (Unit {0}) Error
place_fits kind_right p =
    check (not (kind_right && has_components p.shape.dim (has_more p) p.coordinate.inner)) (InvalidCoordinate p.word)

-- the size of the vector, where there is more than the place and the place has more than one component
abbrev pub composed : ImagePlace → Option VectorSize
composed p = cond (has_more p) (composed_size p.shape.dim) None

abbrev pub vector_by : Used → ImagePlace → Option VectorSize → Result TypeHandle Error
vector_by u p None = Ok no_type
vector_by u p (Some s) =
    ok_or (option_map (λ n. record { index = n }) (first_equal (Vector s (place_kind p)) u.types)) (MissingType p.word)

abbrev pub vector_for : Used → ImagePlace → Result TypeHandle Error
vector_for u p = vector_by u p (composed p)

abbrev pub split_of : ImagePlace → TypeHandle → Split
split_of p v = record {
  base = p.coordinate.handle;
  dim = p.shape.dim;
  extra = extra_of p.project p.shape.arrayed;
  float = is_float (place_kind p);
  exact = (count_in p.coordinate.inner == place_size p.shape.dim);
  vector = v;
}

abbrev pub split_for : Used → ImagePlace → Result Split Error
split_for u p = and_then (vector_for u p) (λ v. Ok (split_of p v))
