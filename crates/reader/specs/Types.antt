-- Which types may be declared.
use Rattle.std.specs.Prelude.{ℕ, Bool, true, false, not, List, Ok, Result}
use Rattle.std.specs.Option.{ok_or}
use Rattle.records.specs.declared.handles.TypeHandle.{TypeHandle}
use Rattle.records.specs.Numbers.{size_numbered}
use Rattle.records.specs.declared.refusals.Error.{Error}
use Rattle.records.specs.declared.refusals.Error.TheVariants.{InvalidType}
use Rattle.records.specs.declared.types.ScalarKind.{ScalarKind}
use Rattle.records.specs.declared.types.ScalarKind.TheVariants.{Sint, Uint, Float, Bool as BoolKind}
use Rattle.records.specs.declared.types.ImageClass.{ImageClass}
use Rattle.records.specs.declared.types.ImageClass.TheVariants.{Sampled, Depth, Storage}
use Rattle.records.specs.declared.types.TypeInner.{TypeInner}
use Rattle.records.specs.declared.types.TypeInner.TheVariants.{Scalar, Vector, Image, Sampler, BindingArray}
use Rattle.records.specs.Refusals.{and_then, check}
use Rattle.reader.specs.declared.types.TypeDeclaration.{TypeDeclaration}
use Rattle.reader.specs.declared.types.TypeDeclaration.TheVariants as declared
use Rattle.memory.specs.Shelves.{Shelf}
use Rattle.memory.specs.Lookups.{type_for}

abbrev pub is_bool : ScalarKind → Bool
is_bool Sint = false
is_bool Uint = false
is_bool Float = false
is_bool BoolKind = true

-- no kind of an image is Bool
abbrev pub class_fits : ImageClass → Bool
class_fits (Sampled k m) = not (is_bool k)
class_fits (Depth m) = true
class_fits (Storage k) = not (is_bool k)

-- textures, samplers and arrays of them; what is left are scalars and vectors
abbrev pub is_resource : TypeInner → Bool
is_resource (Scalar k) = false
is_resource (Vector s k) = false
is_resource (Image d a c) = true
is_resource Sampler = true
is_resource (BindingArray b) = true

-- the type of a variable or argument, or the base of a binding array, by its id
abbrev pub resource_for : List TypeInner → Shelf → ℕ → Result TypeHandle Error
resource_for types b id =
    and_then (type_for types b 0 id) (λ f.
    and_then (check (not (is_resource f.inner)) (InvalidType 0)) (λ _.
    Ok f.handle))

-- The type that is declared, or 13. A binding array names its base by id.
abbrev pub inner_of : List TypeInner → Shelf → TypeDeclaration → Result TypeInner Error
inner_of types b (declared.Scalar k) = Ok (Scalar k)
inner_of types b (declared.Vector n k) = and_then (ok_or (size_numbered n) (InvalidType 0)) (λ s. Ok (Vector s k))
inner_of types b (declared.Image d a c) = and_then (check (not (class_fits c)) (InvalidType 0)) (λ _. Ok (Image d a c))
inner_of types b declared.Sampler = Ok Sampler
inner_of types b (declared.BindingArray base) = and_then (resource_for types b base) (λ h. Ok (BindingArray h))
