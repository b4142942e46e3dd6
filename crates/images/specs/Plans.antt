-- Reading one instruction: the checks in the order of their refusals, and what they find. A refusal blames the place of a
-- word. `u` has the used parts of the lists, `b` the books.
use Rattle.std.specs.Prelude.{ℕ, Bool, true, false, cond, not, ◌&&◌, ◌||◌, Some, None, Ok, Option, Result}
use Rattle.std.specs.Bool.{then_some}
use Rattle.std.specs.Option.{ok_or}
use Rattle.records.specs.declared.expressions.SampleLevel.{SampleLevel}
use Rattle.records.specs.declared.expressions.SampleLevel.TheVariants.{Auto, Zero, Exact, Bias, Gradient}
use Rattle.records.specs.declared.expressions.SwizzleComponent.{SwizzleComponent}
use Rattle.records.specs.declared.expressions.SwizzleComponent.TheVariants.{X}
use Rattle.records.specs.declared.lookups.LookupSampledImage.{LookupSampledImage}
use Rattle.records.specs.declared.refusals.Error.{Error}
use Rattle.records.specs.declared.refusals.Error.TheVariants.{InvalidId, InvalidResultId, InvalidGlobalVar, InvalidImage, InvalidVectorType, InvalidType}
use Rattle.records.specs.declared.types.TypeInner.{TypeInner}
use Rattle.records.specs.declared.types.TypeInner.TheVariants.{Sampler}
use Rattle.records.specs.declared.types.VectorSize.TheVariants.{Quad}
use Rattle.run.specs.Rules.{is_depth}
use Rattle.run.specs.Types.{is_float, is_integer}
use Rattle.records.specs.Types.{same_type}
use Rattle.records.specs.Flags.{comparison, regular}
use Rattle.records.specs.declared.flags.SamplingFlags.{SamplingFlags}
use Rattle.records.specs.Refusals.{and_then, check}
use Rattle.words.specs.Opcodes.{row_of}
use Rattle.words.specs.declared.instructions.Ids.{Ids}
use Rattle.words.specs.declared.instructions.Instruction.{Instruction}
use Rattle.words.specs.declared.opcodes.Layout.{Layout}
use Rattle.words.specs.declared.opcodes.Layout.TheVariants.{Component}
use Rattle.words.specs.declared.opcodes.OperandRule.{OperandRule}
use Rattle.words.specs.declared.opcodes.OperandRule.TheVariants.{Never, Implicit, Explicit, Gather, Load, Store}
use Rattle.words.specs.declared.operands.IdRef.{IdRef}
use Rattle.memory.specs.Lookups.{new_value, new_couple}
use Rattle.memory.specs.Shelves.{Shelf}
use Rattle.images.specs.declared.find.FoundResource.{FoundResource}
use Rattle.images.specs.declared.instructions.Plan.{Plan}
use Rattle.images.specs.declared.instructions.Plan.TheVariants as plans
use Rattle.images.specs.declared.operands.Operand.{Operand}
use Rattle.images.specs.declared.operands.FoundGradient.{FoundGradient}
use Rattle.images.specs.declared.operands.FoundOperands.{FoundOperands}
use Rattle.images.specs.declared.options.SamplingOptions.{SamplingOptions}
use Rattle.images.specs.declared.options.ImageShape.{ImageShape}
use Rattle.images.specs.declared.places.ImagePlace.{ImagePlace}
use Rattle.images.specs.declared.plans.Split.{Split}
use Rattle.images.specs.declared.plans.SamplePlan.{SamplePlan}
use Rattle.images.specs.declared.plans.LoadPlan.{LoadPlan}
use Rattle.images.specs.declared.plans.StorePlan.{StorePlan}
use Rattle.images.specs.declared.samples.SampleParts.{SampleParts}
use Rattle.images.specs.declared.loads.LoadParts.{LoadParts}
use Rattle.images.specs.declared.stores.StoreParts.{StoreParts}
use Rattle.images.specs.declared.texels.Texel.{Texel}
use Rattle.images.specs.Used.{Used}
use Rattle.images.specs.Finds.{inner_at, image_type, resource_at, component_at}
use Rattle.images.specs.Operands.{value_of, type_of, optional, operands_for, operands_fit, bias_fits, handle_of}
use Rattle.images.specs.Places.{place_kind, place_fits, split_for}
use Rattle.images.specs.Rules.{sampling_of, shape_of, sample_allows, load_allows, store_allows, sample_result, load_result_fits, stored_fits, vector_size}

-- images: 10, blaming the image or sampled image

abbrev pub shape_for : ℕ → TypeInner → Result ImageShape Error
shape_for place t = ok_or (shape_of t) (InvalidImage place)

-- a new id: 6

abbrev pub new_result : Shelf → IdRef → Result (Unit {0}) Error
new_result b r = check (not (new_value b r.id)) (InvalidResultId r.place)

-- Samples and gathers.

-- the component, of which a comparing gather takes the first
abbrev pub gather_for : Used → Shelf → SamplingOptions → IdRef → Layout → Result (Option SwizzleComponent) Error
gather_for u b o r Component = and_then (value_of u b r) (λ v. and_then (component_at u r.place v.handle) (λ c. Ok (Some c)))
gather_for u b o r _ = Ok (then_some o.gather X)

abbrev pub reference_for : Used → Shelf → SamplingOptions → IdRef → Result (Option Operand) Error
reference_for u b o r = cond o.compare (optional u b (Some r)) (Ok None)

abbrev pub sampler_fits : FoundResource → ℕ → Result (Unit {0}) Error
sampler_fits r place = check (not (same_type r.inner Sampler)) (InvalidGlobalVar place)

-- what the ids name: refusals 6, 5, 7 for the component, 9 and 10
abbrev pub sample_finds : Used → Shelf → Instruction → Result SampleParts Error
sample_finds u b i =
    let o : SamplingOptions = sampling_of i.opcode in
    let place : ℕ = i.ids.image.place in
    and_then (new_result b i.ids.result) (λ _.
    and_then (operands_for u b i.operands) (λ operands.
    and_then (ok_or (b.couples.held i.ids.image.id) (InvalidId place)) (λ couple.
    and_then (value_of u b i.ids.coordinate) (λ coordinate.
    and_then (gather_for u b o i.ids.component (row_of i.opcode).layout) (λ gather.
    and_then (resource_at u place couple.image) (λ image.
    and_then (resource_at u place couple.sampler) (λ sampler.
    and_then (sampler_fits sampler place) (λ _.
    and_then (shape_for place image.inner) (λ shape.
    and_then (check (not (sample_allows o shape)) (InvalidImage place)) (λ _.
    and_then (reference_for u b o i.ids.reference) (λ reference.
    and_then (type_of u b i.ids.result_type) (λ result.
    Ok (record {
      operands = operands;
      couple = couple;
      place = record { shape = shape; project = o.project; coordinate = coordinate; word = i.ids.coordinate.place };
      gather = gather;
      image = image.root;
      sampler = sampler.root;
      reference = reference;
      result = result;
    })))))))))))))

-- the level: gathers and explicit comparing samples ask Zero
abbrev pub grad_level : Option FoundGradient → SampleLevel
grad_level None = Auto
grad_level (Some g) = Gradient g.x.value.handle g.y.value.handle

abbrev pub lod_level : Option Operand → SampleLevel → SampleLevel
lod_level None otherwise = otherwise
lod_level (Some o) otherwise = Exact o.value.handle

abbrev pub bias_level : Option Operand → SampleLevel → SampleLevel
bias_level None otherwise = otherwise
bias_level (Some o) otherwise = Bias o.value.handle

abbrev pub stated : Option Operand → Option FoundGradient → Bool
stated None None = false
stated None (Some g) = true
stated (Some o) grad = true

abbrev pub level_of : SamplingOptions → FoundOperands → SampleLevel
level_of o ops =
    cond o.gather Zero
    (bias_level ops.bias
    (cond o.compare (cond (stated ops.lod ops.grad) Zero Auto) (lod_level ops.lod (grad_level ops.grad))))

-- how the image and the sampler are sampled
abbrev pub sampling_flag : SamplingOptions → SamplingFlags
sampling_flag o = cond o.compare comparison regular

-- a Depth sample that neither compares nor gathers is splatted
abbrev pub sample_plan : SamplingOptions → SampleParts → Split → SamplePlan
sample_plan o p s = record {
  split = s;
  image = p.couple.image;
  sampler = p.couple.sampler;
  image_root = p.image;
  sampler_root = p.sampler;
  flag = sampling_flag o;
  gather = p.gather;
  offset = handle_of p.operands.offset;
  level = level_of o p.operands;
  reference = handle_of p.reference;
  splat = cond (not (o.compare || o.gather) && is_depth p.place.shape.class) (Some Quad) None;
  result = p.result.handle;
}

-- whether all of it fits: refusals 7, 11, 13 and 14
abbrev pub sample_fitted : Used → Instruction → SampleParts → Result SamplePlan Error
sample_fitted u i p =
    let o : SamplingOptions = sampling_of i.opcode in
    let shape : ImageShape = p.place.shape in
    and_then (operands_fit false shape.dim p.operands) (λ _.
    and_then (bias_fits p.reference) (λ _.
    and_then (place_fits (is_float (place_kind p.place)) p.place) (λ _.
    and_then (check (not (same_type p.result.inner (sample_result o shape.class))) (InvalidType i.ids.result_type.place)) (λ _.
    and_then (split_for u p.place) (λ s.
    Ok (sample_plan o p s))))))

abbrev pub sample_read : Used → Shelf → Instruction → Result SamplePlan Error
sample_read u b i = and_then (sample_finds u b i) (sample_fitted u i)

-- The texel of a load or store: refusals 5, 8 and 10.

abbrev pub texel_for : Used → Shelf → Ids → Result Texel Error
texel_for u b ids =
    and_then (value_of u b ids.image) (λ image.
    and_then (image_type u ids.image.place image.handle.index) (λ ty.
    and_then (value_of u b ids.coordinate) (λ coordinate.
    and_then (inner_at u ty) (λ inner.
    and_then (shape_for ids.image.place inner) (λ shape.
    Ok (record {
      image = image.handle;
      place = record { shape = shape; project = false; coordinate = coordinate; word = ids.coordinate.place };
    }))))))

-- Loads: Fetch and Read.

abbrev pub load_finds : Used → Shelf → Instruction → Result LoadParts Error
load_finds u b i =
    and_then (new_result b i.ids.result) (λ _.
    and_then (operands_for u b i.operands) (λ operands.
    and_then (texel_for u b i.ids) (λ texel.
    and_then (check (not (load_allows texel.place.shape)) (InvalidImage i.ids.image.place)) (λ _.
    and_then (type_of u b i.ids.result_type) (λ result.
    Ok (record { operands = operands; texel = texel; result = result }))))))

-- a Depth load is splatted to a vector result
abbrev pub load_plan : LoadParts → Split → LoadPlan
load_plan p s = record {
  split = s;
  image = p.texel.image;
  sample = handle_of p.operands.sample;
  lod = handle_of p.operands.lod;
  splat = cond (is_depth p.texel.place.shape.class) (vector_size p.result.inner) None;
  result = p.result.handle;
}

abbrev pub load_fitted : Used → Instruction → LoadParts → Result LoadPlan Error
load_fitted u i p =
    let place : ImagePlace = p.texel.place in
    and_then (operands_fit true place.shape.dim p.operands) (λ _.
    and_then (place_fits (is_integer (place_kind place)) place) (λ _.
    and_then (check (not (load_result_fits place.shape.class p.result.inner)) (InvalidType i.ids.result_type.place)) (λ _.
    and_then (split_for u place) (λ s.
    Ok (load_plan p s)))))

abbrev pub load_read : Used → Shelf → Instruction → Result LoadPlan Error
load_read u b i = and_then (load_finds u b i) (load_fitted u i)

-- Stores: Write.

abbrev pub store_finds : Used → Shelf → Instruction → Result StoreParts Error
store_finds u b i =
    and_then (texel_for u b i.ids) (λ texel.
    and_then (check (not (store_allows texel.place.shape)) (InvalidImage i.ids.image.place)) (λ _.
    and_then (value_of u b i.ids.value) (λ value.
    and_then (check (not (stored_fits texel.place.shape.class value.inner)) (InvalidVectorType i.ids.value.place)) (λ _.
    Ok (record { texel = texel; value = value })))))

abbrev pub store_plan : StoreParts → Split → StorePlan
store_plan p s = record {
  split = s;
  image = p.texel.image;
  value = p.value.handle;
  size = vector_size p.value.inner;
}

abbrev pub store_fitted : Used → StoreParts → Result StorePlan Error
store_fitted u p =
    and_then (place_fits (is_integer (place_kind p.texel.place)) p.texel.place) (λ _.
    and_then (split_for u p.texel.place) (λ s.
    Ok (store_plan p s)))

abbrev pub store_read : Used → Shelf → Instruction → Result StorePlan Error
store_read u b i = and_then (store_finds u b i) (store_fitted u)

-- Couples: an image and a sampler by one id. What they are is not looked at.

abbrev pub couple_read : Used → Shelf → Instruction → Result LookupSampledImage Error
couple_read u b i =
    and_then (check (not (new_couple b i.ids.result.id)) (InvalidResultId i.ids.result.place)) (λ _.
    and_then (value_of u b i.ids.image) (λ image.
    and_then (value_of u b i.ids.sampler) (λ sampler.
    Ok (record { image = image.handle; sampler = sampler.handle }))))

-- One instruction: its sort follows from its opcode.

abbrev pub plan_by : Used → Shelf → Instruction → OperandRule → Result Plan Error
plan_by u b i Never = and_then (couple_read u b i) (λ p. Ok (plans.Couple p))
plan_by u b i Implicit = and_then (sample_read u b i) (λ p. Ok (plans.Sample p))
plan_by u b i Explicit = and_then (sample_read u b i) (λ p. Ok (plans.Sample p))
plan_by u b i Gather = and_then (sample_read u b i) (λ p. Ok (plans.Sample p))
plan_by u b i Load = and_then (load_read u b i) (λ p. Ok (plans.Load p))
plan_by u b i Store = and_then (store_read u b i) (λ p. Ok (plans.Store p))

abbrev pub plan_for : Used → Shelf → Instruction → Result Plan Error
plan_for u b i = plan_by u b i (row_of i.opcode).rule
