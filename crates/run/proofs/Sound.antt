-- A value is of the type that was seen: the link between the rules and the values.
use Rattle.std.proofs.Common.{◌≡◌, ℕ, zero, suc, Bool, true, false, cond, not, ◌&&◌, ◌||◌, eqb, List, [], ◌∷◌, is_some, Some, None, Ok, Err, Option, unwrap_or, sym, refl, ap, ◌∙◌, subst}
use Rattle.std.specs.Option.{option_map}
use Rattle.std.proofs.lemmas.Bool.{and_parts, false≢true}
use Rattle.records.proofs.Equal.{types_decided}
use Rattle.records.specs.declared.constants.Literal.{Literal}
use Rattle.records.specs.declared.constants.Literal.TheVariants.{U32, I32, F32}
use Rattle.records.specs.declared.handles.TypeHandle.{TypeHandle}
use Rattle.records.specs.declared.handles.ExpressionHandle.{ExpressionHandle}
use Rattle.records.specs.declared.types.ScalarKind.{ScalarKind}
use Rattle.records.specs.declared.types.ScalarKind.TheVariants.{Float}
use Rattle.records.specs.declared.types.VectorSize.{VectorSize}
use Rattle.records.specs.declared.types.VectorSize.TheVariants.{Bi, Tri, Quad}
use Rattle.records.specs.declared.types.ImageDimension.{ImageDimension}
use Rattle.records.specs.declared.types.ImageClass.{ImageClass}
use Rattle.records.specs.declared.types.TypeInner.{TypeInner}
use Rattle.records.specs.declared.types.TypeInner.TheVariants.{Scalar, Vector, Image, Sampler, BindingArray}
use Rattle.records.specs.declared.expressions.SwizzleComponent.{SwizzleComponent}
use Rattle.records.specs.declared.expressions.ExpressionTag.{ExpressionTag}
use Rattle.records.specs.declared.expressions.ExpressionTag.TheVariants.{GlobalVariable, FunctionArgument, Constant, Supplied, Access, AccessIndex, Compose, Splat, Swizzle, Divide, Round, As, ImageSample, ImageLoad}
use Rattle.records.specs.declared.expressions.Expression.{Expression}
use Rattle.units.specs.declared.values.Width.{Width}
use Rattle.units.specs.declared.values.Width.TheVariants.{One, Two, Three, Four}
use Rattle.units.specs.declared.values.Lanes.{Lanes}
use Rattle.units.specs.declared.values.Lanes.TheVariants as lanes
use Rattle.units.specs.declared.values.Components.{Components}
use Rattle.units.specs.declared.values.Value.{Value}
use Rattle.units.specs.declared.values.Value.TheVariants.{Number, Texture}
use Rattle.units.specs.Values.{width_of, kind_of, shape, as_handle, type_of}
use Rattle.units.specs.Operations.{chosen_of, composed_of, rounded_of, casted_of, rounded, casted, chosen, composed}
use Rattle.units.specs.Requests.{Answers, Typed, is_gather, clean_lanes, clean}
use Rattle.run.specs.declared.rules.Miss.TheVariants.{Lacking, Outside}
use Rattle.run.specs.Envs.{Env}
use Rattle.records.specs.Numbers.{size_of}
use Rattle.records.specs.Types.{same_type}
use Rattle.run.specs.Types.{when, scalar_kind, kind_in, part_type}
use Rattle.run.specs.Rules.{Sight, Known, listed, known, fine, test, is_of, is_int, texture_type, number_type, literal_type, resource, element, composes, compose_type, splat_type, swizzle_type, cast_type, is_depth, answered_by, sample_fits, sample_type, load_fits, load_type, made_of, leaf_rule, otherwise, rule_of, result_fits, resulting, seen}
use Rattle.run.specs.Statics.{type_by, element_type}
use Rattle.run.specs.Worth.{Values, no_components, components_of, texture_type_of, literal_components, numbers_of, handle_at, optional, depth_of, sort_of, sample_request, load_request, worth_tag, worth}
use Rattle.run.specs.Runs.{value_at, types_of}

-- that a sight is fine, of a type: it computes, so that a refused case gives ⊥
abbrev pub Of : TypeInner → Sight → Type 0
Of t (Ok u) = u ≡ t
Of t (Err miss) = ⊥

pub is_of_holds : (s : Sight) (t : TypeInner) → s ≡ Ok t → Of t s
is_of_holds s t e = subst (Of t) (sym e) refl

pub of_test : (b : Bool) (u t : TypeInner) → Of t (test b u) → (b ≡ true) × (u ≡ t)
of_test true u t h = (refl, h)
of_test false u t h = absurd h

of_when : (b : Bool) (u t : TypeInner) → Of t (fine (when b u)) → u ≡ t
of_when true u t h = h
of_when false u t h = absurd h

-- a stated result type is tested, and changes nothing
of_result_holds : (env : Env) (o : Option TypeHandle) (u t : TypeInner) → Of t (result_fits env o u) → u ≡ t
of_result_holds env None u t h = h
of_result_holds env (Some r) u t h = by (env.types r.index) h
  where
    by : (o : Option TypeInner) → Of t (listed o (λ r. test (same_type u r) u)) → u ≡ t
    by None h = absurd h
    by (Some r) h = (of_test (same_type u r) u t h).1

pub of_rule : (env : Env) (b : Bool) (o : Option TypeHandle) (s : Sight) (t : TypeInner) → Of t (cond b (resulting env o s) (Err Outside)) → Of t s
of_rule env false o s t h = absurd h
of_rule env true o (Ok u) t h = of_result_holds env o u t h
of_rule env true o (Err miss) t h = absurd h

-- a known operand type is the type of the value there
pub of_known : (vs : List Value) (n : ℕ) (f : TypeInner → Sight) (t : TypeInner) → Of t (known (types_of vs n) f) → Of t (f (type_of (value_at vs n)))
of_known [] n f t h = absurd h
of_known (v ∷ vs) zero f t h = h
of_known (v ∷ vs) (suc n) f t h = of_known vs n f t h

known_is : (vs : List Value) (n : ℕ) (u : TypeInner) → is_of (types_of vs n) u ≡ true → type_of (value_at vs n) ≡ u
known_is [] n u h = absurd (false≢true h)
known_is (v ∷ vs) zero u h = (types_decided (type_of v) u).0 h
known_is (v ∷ vs) (suc n) u h = known_is vs n u h

-- operations keep the kind of lanes

kind_chosen : (w : Width) (ns : List ℕ) (l : Lanes) → kind_of (chosen_of w ns l) ≡ kind_of l
kind_chosen w ns (lanes.Float xs) = refl
kind_chosen w ns (lanes.Sint xs) = refl
kind_chosen w ns (lanes.Uint xs) = refl
kind_chosen w ns (lanes.Bool xs) = refl

kind_composed : (w : Width) (a b c d : Lanes) → kind_of (composed_of w a b c d) ≡ kind_of a
kind_composed w (lanes.Float xs) b c d = refl
kind_composed w (lanes.Sint xs) b c d = refl
kind_composed w (lanes.Uint xs) b c d = refl
kind_composed w (lanes.Bool xs) b c d = refl

kind_rounded : (w : Width) (l : Lanes) → kind_of (rounded_of w l) ≡ kind_of l
kind_rounded w (lanes.Float xs) = refl
kind_rounded w (lanes.Sint xs) = refl
kind_rounded w (lanes.Uint xs) = refl
kind_rounded w (lanes.Bool xs) = refl

kind_clean : (w : Width) (l : Lanes) → kind_of (clean_lanes w l) ≡ kind_of l
kind_clean w (lanes.Float xs) = refl
kind_clean w (lanes.Sint xs) = refl
kind_clean w (lanes.Uint xs) = refl
kind_clean w (lanes.Bool xs) = refl

kind_shape : (w : Width) (k : ScalarKind) → kind_in (shape w k) ≡ k
kind_shape One k = refl
kind_shape Two k = refl
kind_shape Three k = refl
kind_shape Four k = refl

shape_size : (s : VectorSize) (k : ScalarKind) → shape (width_of s) k ≡ Vector s k
shape_size Bi k = refl
shape_size Tri k = refl
shape_size Quad k = refl

-- a texture is no scalar
handle_scalar : (u : TypeInner) (k : ScalarKind) → as_handle u ≡ Scalar k → false ≡ true
handle_scalar u k e = sym (by u) ∙ ap (λ t. is_some (scalar_kind t)) e
  where
    by : (u : TypeInner) → is_some (scalar_kind (as_handle u)) ≡ false
    by (Scalar k) = refl
    by (Vector s k) = refl
    by (Image d a c) = refl
    by Sampler = refl
    by (BindingArray b) = refl

kind_scalar : (v : Value) (k : ScalarKind) → type_of v ≡ Scalar k → kind_of (components_of v).lanes ≡ k
kind_scalar (Number c) k e = sym (kind_shape c.width (kind_of c.lanes)) ∙ ap kind_in e
kind_scalar (Texture r) k e = absurd (false≢true (handle_scalar r.ty k e))

-- a rule for scalars and vectors refuses every texture, and one for textures every scalar and vector

no_handle : (f : TypeInner → Sight) (u t : TypeInner) → ((d : ImageDimension) (a : Bool) (c : ImageClass) → Of t (f (Image d a c)) → ⊥)
    → (Of t (f Sampler) → ⊥) → ((b : TypeHandle) → Of t (f (BindingArray b)) → ⊥) → Of t (f (as_handle u)) → ⊥
no_handle f (Image d a c) t image sampler array h = image d a c h
no_handle f (BindingArray b) t image sampler array h = array b h
no_handle f _ t image sampler array h = sampler h

no_number : (f : TypeInner → Sight) (c : Components) (t : TypeInner) → ((k : ScalarKind) → Of t (f (Scalar k)) → ⊥)
    → ((s : VectorSize) (k : ScalarKind) → Of t (f (Vector s k)) → ⊥) → Of t (f (type_of (Number c))) → ⊥
no_number f c t scalar vector h = by c.width (kind_of c.lanes) h
  where
    by : (w : Width) (k : ScalarKind) → Of t (f (shape w k)) → ⊥
    by One k h = scalar k h
    by Two k h = vector Bi k h
    by Three k h = vector Tri k h
    by Four k h = vector Quad k h

-- each tag by the type of its operand

rounded_of_holds : (v : Value) (k : ScalarKind) → type_of v ≡ Scalar k → type_of (Number (rounded (components_of v))) ≡ Scalar k
rounded_of_holds (Number c) k e = ap (shape c.width) (kind_rounded c.width c.lanes) ∙ e
rounded_of_holds (Texture r) k e = absurd (false≢true (handle_scalar r.ty k e))

constant_of : (o : Option Literal) (t : TypeInner) → Of t (listed o (λ l. Ok (literal_type l)))
    → type_of (Number (unwrap_or (option_map literal_components o) no_components)) ≡ t
constant_of None t h = absurd h
constant_of (Some (U32 x)) t h = h
constant_of (Some (I32 x)) t h = h
constant_of (Some (F32 x)) t h = h

handle_of : (u t : TypeInner) → Of t (fine (texture_type u)) → as_handle u ≡ t
handle_of (Scalar k) t h = absurd h
handle_of (Vector s k) t h = absurd h
handle_of _ t h = h

listed_of : (o : Option TypeInner) (t : TypeInner) → Of t (listed o (λ u. fine (texture_type u))) → as_handle (unwrap_or o Sampler) ≡ t
listed_of None t h = absurd h
listed_of (Some u) t h = handle_of u t h

resource_of_holds : (env : Env) (o : Option TypeHandle) (t : TypeInner) → Of t (resource env o) → as_handle (unwrap_or (type_by env o) Sampler) ≡ t
resource_of_holds env None t h = absurd h
resource_of_holds env (Some r) t h = listed_of (env.types r.index) t h

element_of_holds : (env : Env) (v : Value) (i t : TypeInner) → Of t (element env (type_of v) i)
    → as_handle (unwrap_or (element_type env (texture_type_of v)) Sampler) ≡ t
element_of_holds env (Number c) i t h = absurd (no_number (λ u. element env u i) c t (λ k x. x) (λ s k x. x) h)
element_of_holds env (Texture r) i t h = by r.ty h
  where
    inner : (b : Bool) (o : Option TypeInner) → Of t (cond b (listed o (λ u. fine (texture_type u))) (Err Lacking)) → as_handle (unwrap_or o Sampler) ≡ t
    inner true o h = listed_of o t h
    inner false o h = absurd h

    by : (u : TypeInner) → Of t (element env (as_handle u) i) → as_handle (unwrap_or (element_type env u) Sampler) ≡ t
    by (BindingArray b) h = inner (is_int (Some i) Scalar) (env.types b.index) h
    by _ h = absurd h

part_of : (i : ℕ) (ns : List ℕ) (v : Value) (t : TypeInner) → Of t (fine (part_type i (type_of v)))
    → type_of (Number (chosen One ns (components_of v))) ≡ t
part_of i ns (Number c) t h = ap Scalar (kind_chosen One ns c.lanes) ∙ by c.width (kind_of c.lanes) h
  where
    by : (w : Width) (k : ScalarKind) → Of t (fine (part_type i (shape w k))) → Scalar k ≡ t
    by One k h = absurd h
    by _ k h = of_when _ (Scalar k) t h
part_of i ns (Texture r) t h = absurd (no_handle (λ u. fine (part_type i u)) r.ty t (λ d a c x. x) (λ x. x) (λ b x. x) h)

-- lanes chosen into a vector: of the kind that they were
chosen_vector : (s : VectorSize) (ns : List ℕ) (c : Components) → type_of (Number (chosen (width_of s) ns c)) ≡ Vector s (kind_of c.lanes)
chosen_vector s ns c = shape_size s (kind_of (chosen_of (width_of s) ns c.lanes)) ∙ ap (Vector s) (kind_chosen (width_of s) ns c.lanes)

splat_of : (s : VectorSize) (ns : List ℕ) (v : Value) (t : TypeInner) → Of t (fine (splat_type s (type_of v)))
    → type_of (Number (chosen (width_of s) ns (components_of v))) ≡ t
splat_of s ns (Number c) t h = chosen_vector s ns c ∙ by c.width (kind_of c.lanes) h
  where
    by : (w : Width) (k : ScalarKind) → Of t (fine (splat_type s (shape w k))) → Vector s k ≡ t
    by One k h = h
    by _ k h = absurd h
splat_of s ns (Texture r) t h = absurd (no_handle (λ u. fine (splat_type s u)) r.ty t (λ d a c x. x) (λ x. x) (λ b x. x) h)

swizzle_of : (s : VectorSize) (p : List SwizzleComponent) (ns : List ℕ) (v : Value) (t : TypeInner) → Of t (fine (swizzle_type s p (type_of v)))
    → type_of (Number (chosen (width_of s) ns (components_of v))) ≡ t
swizzle_of s p ns (Number c) t h = chosen_vector s ns c ∙ by c.width (kind_of c.lanes) h
  where
    by : (w : Width) (k : ScalarKind) → Of t (fine (swizzle_type s p (shape w k))) → Vector s k ≡ t
    by One k h = absurd h
    by _ k h = of_when _ (Vector s k) t h
swizzle_of s p ns (Texture r) t h = absurd (no_handle (λ u. fine (swizzle_type s p u)) r.ty t (λ d a c x. x) (λ x. x) (λ b x. x) h)

cast_of : (v : Value) (t : TypeInner) → Of t (fine (cast_type (type_of v))) → type_of (Number (casted (components_of v))) ≡ t
cast_of (Number c) t h = by c.width c.lanes h
  where
    by : (w : Width) (l : Lanes) → Of t (fine (cast_type (shape w (kind_of l)))) → shape w (kind_of (casted_of w l)) ≡ t
    by One (lanes.Float xs) h = h
    by One (lanes.Sint xs) h = h
    by One (lanes.Uint xs) h = h
    by One (lanes.Bool xs) h = absurd h
    by _ l h = absurd h
cast_of (Texture r) t h = absurd (no_handle (λ u. fine (cast_type u)) r.ty t (λ d a c x. x) (λ x. x) (λ b x. x) h)

same_size : (a b : VectorSize) → eqb (size_of a) (size_of b) ≡ true → b ≡ a
same_size Bi Bi h = refl
same_size Tri Tri h = refl
same_size Quad Quad h = refl
same_size _ _ h = absurd (false≢true h)

-- the first component gives the kind
compose_of : (vs : List Value) (z : VectorSize) (cs : List ExpressionHandle) (b c d : Components) (o : Option TypeInner) (t : TypeInner)
    → Of t (listed o (compose_type (types_of vs) z cs))
    → type_of (Number (composed (width_of z) (components_of (value_at vs (handle_at cs 0))) b c d)) ≡ t
compose_of vs z cs b c d (Some (Vector s k)) t h =
    let both = of_test (eqb (size_of s) (size_of z) && composes (types_of vs) z cs k) (Vector s k) t h in
    let fits = and_parts (eqb (size_of s) (size_of z)) (composes (types_of vs) z cs k) both.0 in
    let first = (and_parts _ _ (and_parts _ _ fits.1).0).0 in
    let v = value_at vs (handle_at cs 0) in
    let a = components_of v in
    let kind = kind_scalar v k (known_is vs (handle_at cs 0) (Scalar k) first) in
    shape_size z (kind_of (composed_of (width_of z) a.lanes b.lanes c.lanes d.lanes))
    ∙ ap (Vector z) (kind_composed (width_of z) a.lanes b.lanes c.lanes d.lanes ∙ kind)
    ∙ ap (λ x. Vector x k) (same_size s z fits.0)
    ∙ both.1
compose_of vs z cs b c d _ t h = absurd h

-- an input, its lanes past the width put to zero
clean_of : (c : Components) → type_of (Number (clean c)) ≡ type_of (Number c)
clean_of c = ap (shape c.width) (kind_clean c.width c.lanes)

supplied_of : (c : Components) (o : Option TypeInner) (t : TypeInner) → ((u : TypeInner) → o ≡ Some u → type_of (Number c) ≡ u)
    → Of t (listed o (λ u. fine (number_type u))) → type_of (Number (clean c)) ≡ t
supplied_of c (Some (Scalar k)) t fits h = clean_of c ∙ fits (Scalar k) refl ∙ h
supplied_of c (Some (Vector s k)) t fits h = clean_of c ∙ fits (Vector s k) refl ∙ h
supplied_of c _ t fits h = absurd h

-- a request asks by the image's type, so that its answer is of the type that the rule says

some_optional : (at : Values) (o : Option ExpressionHandle) → is_some (optional at o) ≡ is_some o
some_optional at None = refl
some_optional at (Some h) = refl

gather_sort : (o : Option SwizzleComponent) → is_gather (sort_of o) ≡ is_some o
gather_sort None = refl
gather_sort (Some c) = refl

-- what a request for a texture of a type is answered by, as it compares or gathers
abbrev asked : TypeInner → Bool → Bool → TypeInner
asked u compares gathers = cond ((depth_of u || compares) && not gathers) (Scalar Float) (Vector Quad (kind_in u))

sample_of : (at : Values) (tys : Known) (e : Expression) (v : Value) (t : TypeInner) → Of t (sample_type tys e (type_of v))
    → asked (texture_type_of v) (is_some (optional at e.image.depth_ref)) (is_gather (sort_of e.image.gather)) ≡ t
sample_of at tys e (Number c) t h = absurd (no_number (sample_type tys e) c t (λ k x. x) (λ s k x. x) h)
sample_of at tys e (Texture r) t h =
    ap (λ b. asked r.ty b (is_gather (sort_of e.image.gather))) (some_optional at e.image.depth_ref)
    ∙ ap (asked r.ty (is_some e.image.depth_ref)) (gather_sort e.image.gather)
    ∙ by r.ty h
  where
    by : (u : TypeInner) → Of t (sample_type tys e (as_handle u)) → asked u (is_some e.image.depth_ref) (is_some e.image.gather) ≡ t
    by (Image d a c) h = (of_test (sample_fits tys e d a) _ t h).1
    by _ h = absurd h

load_of : (tys : Known) (e : Expression) (v : Value) (t : TypeInner) → Of t (load_type tys e (type_of v)) → asked (texture_type_of v) false false ≡ t
load_of tys e (Number c) t h = absurd (no_number (load_type tys e) c t (λ k x. x) (λ s k x. x) h)
load_of tys e (Texture r) t h = by r.ty h
  where
    plain : (b : Bool) → ((b || false) && true) ≡ b
    plain true = refl
    plain false = refl

    by : (u : TypeInner) → Of t (load_type tys e (as_handle u)) → asked u false false ≡ t
    by (Image d a c) h = ap (λ b. answered_by b c) (plain (is_depth c)) ∙ (of_test (load_fits tys e d a) _ t h).1
    by _ h = absurd h

-- the input of a Supplied record has its type
abbrev pub InputFits : Env → (ℕ → Components) → Expression → Type 0
InputFits env ins e = (t : TypeInner) → e.tag ≡ Supplied → env.types e.ty.index ≡ Some t → type_of (Number (ins e.index)) ≡ t

module _ (env : Env) (answers : Answers) (typed : Typed answers) (ins : ℕ → Components) (vs : List Value) (e : Expression) (t : TypeInner) where
  abbrev operand : Value
  operand = value_at vs e.base.index

  made : (tag : ExpressionTag) → Of t (known (types_of vs e.base.index) (λ b. made_of env (types_of vs) e b tag))
      → Of t (made_of env (types_of vs) e (type_of operand) tag)
  made tag h = of_known vs e.base.index (λ b. made_of env (types_of vs) e b tag) t h

  by_tag : (tag : ExpressionTag) → e.tag ≡ tag → InputFits env ins e
      → Of t (otherwise (leaf_rule env (types_of vs) e tag) (known (types_of vs e.base.index) (λ b. made_of env (types_of vs) e b tag)))
      → type_of (worth_tag env answers ins (value_at vs) e tag) ≡ t
  by_tag GlobalVariable is fits h = resource_of_holds env (env.variables e.variable.index) t h
  by_tag FunctionArgument is fits h = resource_of_holds env (env.arguments e.argument.index) t h
  by_tag Constant is fits h = constant_of (env.constants e.constant.index) t h
  by_tag Supplied is fits h = supplied_of (ins e.index) (env.types e.ty.index) t (λ u. fits u is) h
  by_tag Access is fits h = element_of_holds env operand _ t (of_known vs e.other.index (element env (type_of operand)) t (made Access h))
  by_tag AccessIndex is fits h = part_of e.index (e.index ∷ e.index ∷ e.index ∷ e.index ∷ []) operand t (made AccessIndex h)
  by_tag Compose is fits h =
      let at : ℕ → Components = λ i. components_of (value_at vs (handle_at e.components i)) in
      compose_of vs e.size e.components (at 1) (at 2) (at 3) (env.types e.ty.index) t h
  by_tag Splat is fits h = splat_of e.size (0 ∷ 0 ∷ 0 ∷ 0 ∷ []) operand t (made Splat h)
  by_tag Swizzle is fits h = swizzle_of e.size e.pattern (numbers_of e.pattern) operand t (made Swizzle h)
  by_tag Divide is fits h = (of_test _ (Scalar Float) t h).1
  by_tag Round is fits h =
      let both = of_test (is_of (types_of vs e.base.index) (Scalar Float)) (Scalar Float) t h in
      rounded_of_holds operand Float (known_is vs e.base.index (Scalar Float) both.0) ∙ both.1
  by_tag As is fits h = cast_of operand t (made As h)
  by_tag ImageSample is fits h =
      (typed (sample_request (value_at vs) e)).typed ∙ sample_of (value_at vs) (types_of vs) e operand t (made ImageSample h)
  by_tag ImageLoad is fits h = (typed (load_request (value_at vs) e)).typed ∙ load_of (types_of vs) e operand t (made ImageLoad h)

pub worth_typed : (env : Env) (answers : Answers) (typed : Typed answers) (ins : ℕ → Components) (vs : List Value) (e : Expression) (t : TypeInner)
    → InputFits env ins e → seen env (types_of vs) e ≡ Ok t → type_of (worth env answers ins (value_at vs) e) ≡ t
worth_typed env answers typed ins vs e t fits h =
    by_tag env answers typed ins vs e t e.tag refl fits
    (of_rule env _ e.result (rule_of env (types_of vs) e) t (is_of_holds (seen env (types_of vs) e) t h))
