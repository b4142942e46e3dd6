-- SPIR-V's rules on images: what each opcode does, which images it may use, and of which types its operands are.
use Rattle.std.specs.Prelude.{ℕ, ◌+◌, Bool, true, false, cond, not, ◌&&◌, ◌||◌, Some, None, Option, nat_le}
use Rattle.records.specs.declared.handles.TypeHandle.{TypeHandle}
use Rattle.records.specs.declared.types.ScalarKind.TheVariants.{Float}
use Rattle.records.specs.declared.types.VectorSize.{VectorSize}
use Rattle.records.specs.declared.types.VectorSize.TheVariants.{Bi, Tri, Quad}
use Rattle.records.specs.declared.types.ImageDimension.{ImageDimension}
use Rattle.records.specs.declared.types.ImageDimension.TheVariants.{D1, D2, D3, Cube}
use Rattle.records.specs.declared.types.ImageClass.{ImageClass}
use Rattle.records.specs.declared.types.ImageClass.TheVariants.{Sampled, Depth, Storage}
use Rattle.records.specs.declared.types.TypeInner.{TypeInner}
use Rattle.records.specs.declared.types.TypeInner.TheVariants.{Scalar, Vector, Image, BindingArray}
use Rattle.records.specs.Types.{same_type, same_kind}
use Rattle.run.specs.Types.{count_in, kind_in, class_kind, is_float}
use Rattle.run.specs.Rules.{is_int, place_type, is_depth}
use Rattle.words.specs.declared.opcodes.Opcode.{Opcode}
use Rattle.words.specs.declared.opcodes.Opcode.TheVariants.{SampledImage, ImageSampleImplicitLod, ImageSampleExplicitLod, ImageSampleDrefImplicitLod, ImageSampleDrefExplicitLod, ImageSampleProjImplicitLod, ImageSampleProjExplicitLod, ImageSampleProjDrefImplicitLod, ImageSampleProjDrefExplicitLod, ImageFetch, ImageGather, ImageDrefGather, ImageRead, ImageWrite}
use Rattle.images.specs.declared.options.SamplingOptions.{SamplingOptions}
use Rattle.images.specs.declared.options.ImageShape.{ImageShape}

-- What a sample or gather does: Proj divides, Dref compares, Gather takes one component of four texels.

abbrev pub options : Bool → Bool → Bool → SamplingOptions
options project compare gather = record { project = project; compare = compare; gather = gather }

abbrev pub sampling_of : Opcode → SamplingOptions
sampling_of SampledImage = options false false false
sampling_of ImageSampleImplicitLod = options false false false
sampling_of ImageSampleExplicitLod = options false false false
sampling_of ImageSampleDrefImplicitLod = options false true false
sampling_of ImageSampleDrefExplicitLod = options false true false
sampling_of ImageSampleProjImplicitLod = options true false false
sampling_of ImageSampleProjExplicitLod = options true false false
sampling_of ImageSampleProjDrefImplicitLod = options true true false
sampling_of ImageSampleProjDrefExplicitLod = options true true false
sampling_of ImageFetch = options false false false
sampling_of ImageGather = options false false true
sampling_of ImageDrefGather = options false true true
sampling_of ImageRead = options false false false
sampling_of ImageWrite = options false false false

-- how many components a place in an image has
abbrev pub place_size : ImageDimension → ℕ
place_size D1 = 1
place_size D2 = 2
place_size D3 = 3
place_size Cube = 3

abbrev pub is_cube : ImageDimension → Bool
is_cube Cube = true
is_cube _ = false

-- the images of which four texels can be gathered
abbrev pub gatherable : ImageDimension → Bool
gatherable D2 = true
gatherable Cube = true
gatherable _ = false

abbrev pub is_storage : ImageClass → Bool
is_storage (Storage k) = true
is_storage _ = false

-- the images whose texels can be compared with a reference
abbrev pub comparable : ImageClass → Bool
comparable (Sampled k m) = is_float k && not m
comparable (Depth m) = true
comparable (Storage k) = false

-- an image type by its parts
abbrev pub shape_of : TypeInner → Option ImageShape
shape_of (Image d a c) = Some (record { dim = d; arrayed = a; class = c })
shape_of _ = None

-- what a binding array is an array of
abbrev pub array_base : TypeInner → Option TypeHandle
array_base (BindingArray h) = Some h
array_base _ = None

abbrev pub implies : Bool → Bool → Bool
implies a b = not a || b

-- Which images may be used.

abbrev pub sample_allows : SamplingOptions → ImageShape → Bool
sample_allows o s =
    not (is_storage s.class) && (implies o.project (not s.arrayed && not (is_cube s.dim))
    && (implies o.gather (gatherable s.dim) && implies o.compare (comparable s.class)))

abbrev pub load_allows : ImageShape → Bool
load_allows s = not (is_cube s.dim)

abbrev pub store_allows : ImageShape → Bool
store_allows s = not (is_cube s.dim) && is_storage s.class

-- Of which types operands are: Bias, Lod of a sample and a reference; each half of Grad; ConstOffset; Lod of a load and Sample.

abbrev pub is_float_scalar : TypeInner → Bool
is_float_scalar t = same_type t (Scalar Float)

abbrev pub grad_fits : ImageDimension → TypeInner → Bool
grad_fits d t = same_type t (place_type d Float)

abbrev pub offset_fits : ImageDimension → TypeInner → Bool
offset_fits d t = not (is_cube d) && is_int (Some t) (place_type d)

abbrev pub is_integer_scalar : TypeInner → Bool
is_integer_scalar t = is_int (Some t) Scalar

-- Coordinates have one component more where there is a layer or a divisor.

abbrev pub one : Bool → ℕ
one b = cond b 1 0

abbrev pub has_components : ImageDimension → Bool → TypeInner → Bool
has_components d more t = nat_le (place_size d + one more) (count_in t)

-- scalars and vectors
abbrev pub is_number : TypeInner → Bool
is_number t = nat_le 1 (count_in t)

-- Results: a comparing sample gives one Float, all other samples and gathers four of the image's kind.

-- four components of the image's kind
abbrev pub texel_type : ImageClass → TypeInner
texel_type c = Vector Quad (class_kind c)

abbrev pub sample_result : SamplingOptions → ImageClass → TypeInner
sample_result o c = cond (o.compare && not o.gather) (Scalar Float) (texel_type c)

-- a load of Depth gives one Float, which is splatted to a vector
abbrev pub load_result_fits : ImageClass → TypeInner → Bool
load_result_fits c t = cond (is_depth c) (is_number t && is_float (kind_in t)) (same_type t (texel_type c))

-- what is stored: a scalar or vector of the image's kind
abbrev pub stored_fits : ImageClass → TypeInner → Bool
stored_fits c t = is_number t && same_kind (kind_in t) (class_kind c)

-- the size of a vector; a scalar has none
abbrev pub vector_size : TypeInner → Option VectorSize
vector_size (Vector s k) = Some s
vector_size _ = None

abbrev pub composed_size : ImageDimension → Option VectorSize
composed_size D1 = None
composed_size D2 = Some Bi
composed_size D3 = Some Tri
composed_size Cube = Some Tri
