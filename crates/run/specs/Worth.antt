-- What each expression is worth, from the values of its operands: total, and right where its type was seen.
use Rattle.std.specs.Prelude.{ℕ, ◌+◌, min, Bool, false, List, [], ◌∷◌, get_or, pos, Some, None, Option, slice_index, slice_index_or, slice_set}
use Rattle.std.specs.Option.{option_map, unwrap_or}
use Rattle.records.specs.declared.constants.Literal.{Literal}
use Rattle.records.specs.declared.constants.Literal.TheVariants.{U32, I32, F32}
use Rattle.records.specs.declared.handles.ExpressionHandle.{ExpressionHandle}
use Rattle.records.specs.declared.types.ImageDimension.{ImageDimension}
use Rattle.records.specs.declared.types.ImageDimension.TheVariants.{D1}
use Rattle.records.specs.declared.types.TypeInner.{TypeInner}
use Rattle.records.specs.declared.types.TypeInner.TheVariants.{Image, Sampler}
use Rattle.records.specs.declared.expressions.SwizzleComponent.{SwizzleComponent}
use Rattle.records.specs.declared.expressions.SwizzleComponent.TheVariants.{X}
use Rattle.records.specs.declared.expressions.SampleLevel.{SampleLevel}
use Rattle.records.specs.declared.expressions.SampleLevel.TheVariants as sampling
use Rattle.records.specs.declared.expressions.ExpressionTag.{ExpressionTag}
use Rattle.records.specs.declared.expressions.ExpressionTag.TheVariants.{GlobalVariable, FunctionArgument, Constant, Supplied, Access, AccessIndex, Compose, Splat, Swizzle, Divide, Round, As, ImageSample, ImageLoad}
use Rattle.records.specs.declared.expressions.Expression.{Expression}
use Rattle.units.specs.declared.values.Width.TheVariants.{One}
use Rattle.units.specs.declared.values.Lanes.{Lanes}
use Rattle.units.specs.declared.values.Lanes.TheVariants as lanes
use Rattle.units.specs.declared.values.Components.{Components}
use Rattle.units.specs.declared.values.Root.{Root}
use Rattle.units.specs.declared.values.Root.TheVariants.{Variable, Argument}
use Rattle.units.specs.declared.values.Resource.{Resource}
use Rattle.units.specs.declared.values.Value.{Value}
use Rattle.units.specs.declared.values.Value.TheVariants.{Number, Texture}
use Rattle.units.specs.declared.requests.Sort.{Sort}
use Rattle.units.specs.declared.requests.Sort.TheVariants.{Sample, Gather, Load}
use Rattle.units.specs.declared.requests.Level.{Level}
use Rattle.units.specs.declared.requests.Level.TheVariants.{Unstated, Auto, Zero, Bias, Exact, Gradient}
use Rattle.units.specs.declared.requests.Request.{Request}
use Rattle.units.specs.Arithmetic.{zero_float, sint_to_bits}
use Rattle.units.specs.Requests.{Answers, clean}
use Rattle.units.specs.Values.{width_of}
use Rattle.units.specs.Operations.{chosen, composed, divided, rounded, casted}
use Rattle.run.specs.Envs.{Env}
use Rattle.run.specs.Types.{kind_in}
use Rattle.records.specs.Numbers.{component_number}
use Rattle.run.specs.Rules.{is_depth}
use Rattle.run.specs.Statics.{type_by, element_type}

-- the values worked out so far
abbrev pub Values : Type 0
Values = ℕ → Value

abbrev pub no_components : Components
no_components = record { width = One; lanes = lanes.Float (zero_float ∷ zero_float ∷ zero_float ∷ zero_float ∷ []) }

abbrev pub no_indexes : List ℕ
no_indexes = 0 ∷ 0 ∷ 0 ∷ 0 ∷ []

abbrev pub no_resource : Resource
no_resource = record { root = Variable (record { index = 0 }); depth = 0; indexes = no_indexes }

abbrev pub no_value : Value
no_value = Number no_components

abbrev pub components_of : Value → Components
components_of (Number c) = c
components_of (Texture r) = no_components

abbrev pub resource_of : Value → Resource
resource_of (Number c) = no_resource
resource_of (Texture r) = r.resource

abbrev pub texture_type_of : Value → TypeInner
texture_type_of (Number c) = Sampler
texture_type_of (Texture r) = r.ty

abbrev pub literal_components : Literal → Components
literal_components (U32 x) = record { width = One; lanes = lanes.Uint (x ∷ 0 ∷ 0 ∷ 0 ∷ []) }
literal_components (I32 x) = record { width = One; lanes = lanes.Sint (x ∷ pos 0 ∷ pos 0 ∷ pos 0 ∷ []) }
literal_components (F32 x) = record { width = One; lanes = lanes.Float (x ∷ zero_float ∷ zero_float ∷ zero_float ∷ []) }

-- a variable or argument itself
abbrev pub whole : Root → Option TypeInner → Value
whole root t = Texture (record { resource = record { root = root; depth = 0; indexes = no_indexes }; ty = unwrap_or t Sampler })

-- the bits of an index, Sint or Uint alike
abbrev pub index_bits : Lanes → ℕ
index_bits (lanes.Sint xs) = sint_to_bits (slice_index_or xs 0 (pos 0))
index_bits (lanes.Uint xs) = slice_index xs 0
index_bits _ = 0

-- one element further: the first four indexes are kept
abbrev pub element_of : Env → Value → Value → Value
element_of env base index =
    let r : Resource = resource_of base in
    Texture (record {
      resource = record { root = r.root; depth = min (r.depth + 1) 4294967295; indexes = slice_set r.indexes r.depth (index_bits (components_of index).lanes) };
      ty = unwrap_or (element_type env (texture_type_of base)) Sampler;
    })

abbrev pub numbers_of : List SwizzleComponent → List ℕ
numbers_of p = component_number (slice_index_or p 0 X) ∷ component_number (slice_index_or p 1 X) ∷ component_number (slice_index_or p 2 X) ∷ component_number (slice_index_or p 3 X) ∷ []

abbrev pub handle_at : List ExpressionHandle → ℕ → ℕ
handle_at cs i = (get_or cs i (record { index = 0 })).index

-- requests

abbrev pub optional : Values → Option ExpressionHandle → Option Components
optional at o = option_map (λ (h : ExpressionHandle). components_of (at h.index)) o

abbrev pub level_of : Values → SampleLevel → Level
level_of at sampling.Auto = Auto
level_of at sampling.Zero = Zero
level_of at (sampling.Exact h) = Exact (components_of (at h.index))
level_of at (sampling.Bias h) = Bias (components_of (at h.index))
level_of at (sampling.Gradient x y) = Gradient (components_of (at x.index)) (components_of (at y.index))

abbrev pub load_level : Option Components → Level
load_level None = Unstated
load_level (Some c) = Exact c

abbrev pub dimension_of : TypeInner → ImageDimension
dimension_of (Image d a c) = d
dimension_of _ = D1

abbrev pub depth_of : TypeInner → Bool
depth_of (Image d a c) = is_depth c
depth_of _ = false

abbrev pub sort_of : Option SwizzleComponent → Sort
sort_of None = Sample
sort_of (Some c) = Gather

-- what every request of an image has; the other parts are missing
abbrev pub image_request : Values → Sort → ExpressionHandle → ExpressionHandle → Option ExpressionHandle → Request
image_request at sort i c l =
    let image : Value = at i.index in
    let t : TypeInner = texture_type_of image in
    record {
      texture = resource_of image;
      sampler = None;
      sort = sort;
      kind = kind_in t;
      dim = dimension_of t;
      depth = depth_of t;
      coordinate = components_of (at c.index);
      layer = optional at l;
      gather = None;
      sample = None;
      offset = None;
      level = Unstated;
      reference = None;
      value = None;
    }

-- of a sample or gather
abbrev pub sample_request : Values → Expression → Request
sample_request at e = record (image_request at (sort_of e.image.gather) e.base e.image.coordinate e.image.array_index) {
  sampler = Some (resource_of (at e.other.index));
  gather = e.image.gather;
  offset = optional at e.image.offset;
  level = level_of at e.image.level;
  reference = optional at e.image.depth_ref;
}

abbrev pub load_request : Values → Expression → Request
load_request at e = record (image_request at Load e.base e.image.coordinate e.image.array_index) {
  sample = optional at e.image.sample;
  level = load_level (optional at e.image.lod);
}

-- values

-- of a record that computes components from those of other expressions
abbrev pub computed_tag : Values → Expression → ExpressionTag → Components
computed_tag at e AccessIndex = chosen One (e.index ∷ e.index ∷ e.index ∷ e.index ∷ []) (components_of (at e.base.index))
computed_tag at e Compose =
    composed (width_of e.size) (components_of (at (handle_at e.components 0))) (components_of (at (handle_at e.components 1)))
    (components_of (at (handle_at e.components 2))) (components_of (at (handle_at e.components 3)))
computed_tag at e Splat = chosen (width_of e.size) (0 ∷ 0 ∷ 0 ∷ 0 ∷ []) (components_of (at e.base.index))
computed_tag at e Swizzle = chosen (width_of e.size) (numbers_of e.pattern) (components_of (at e.base.index))
computed_tag at e Divide = divided (components_of (at e.base.index)) (components_of (at e.other.index))
computed_tag at e Round = rounded (components_of (at e.base.index))
computed_tag at e As = casted (components_of (at e.base.index))
computed_tag at e _ = components_of (at e.base.index)

abbrev pub worth_tag : Env → Answers → (ℕ → Components) → Values → Expression → ExpressionTag → Value
worth_tag env answers ins at e GlobalVariable = whole (Variable e.variable) (type_by env (env.variables e.variable.index))
worth_tag env answers ins at e FunctionArgument = whole (Argument e.argument) (type_by env (env.arguments e.argument.index))
worth_tag env answers ins at e Constant = Number (unwrap_or (option_map literal_components (env.constants e.constant.index)) no_components)
worth_tag env answers ins at e Supplied = Number (clean (ins e.index))
worth_tag env answers ins at e Access = element_of env (at e.base.index) (at e.other.index)
worth_tag env answers ins at e ImageSample = Number (answers (sample_request at e))
worth_tag env answers ins at e ImageLoad = Number (answers (load_request at e))
worth_tag env answers ins at e tag = Number (computed_tag at e tag)

abbrev pub worth : Env → Answers → (ℕ → Components) → Values → Expression → Value
worth env answers ins at e = worth_tag env answers ins at e e.tag
