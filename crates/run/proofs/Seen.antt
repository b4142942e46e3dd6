-- Where the first pass sees a type, the records alone give that type too.
use Rattle.std.proofs.Common.{◌≡◌, Bool, true, false, cond, ◌&&◌, Some, None, Ok, Err, Option, sym, refl, ap, ◌∙◌}
use Rattle.std.proofs.lemmas.Bool.{false≢true}
use Rattle.records.proofs.Equal.{types_decided}
use Rattle.records.specs.declared.constants.Literal.{Literal}
use Rattle.records.specs.declared.handles.TypeHandle.{TypeHandle}
use Rattle.records.specs.declared.expressions.ExpressionTag.{ExpressionTag}
use Rattle.records.specs.declared.expressions.ExpressionTag.TheVariants.{GlobalVariable, FunctionArgument, Constant, Supplied, Access, AccessIndex, Compose, Splat, Swizzle, Divide, Round, As, ImageSample, ImageLoad}
use Rattle.records.specs.declared.expressions.Expression.{Expression}
use Rattle.records.specs.declared.types.ScalarKind.TheVariants.{Sint, Float}
use Rattle.records.specs.declared.types.TypeInner.{TypeInner}
use Rattle.records.specs.declared.types.TypeInner.TheVariants.{Scalar, Vector, Image, Sampler, BindingArray}
use Rattle.run.specs.declared.rules.Miss.TheVariants.{Lacking, Outside}
use Rattle.run.specs.Envs.{Env}
use Rattle.records.specs.Types.{same_type}
use Rattle.run.specs.Types.{on, when, kind_in, part_type}
use Rattle.run.specs.Rules.{Sight, Known, listed, known, fine, test, texture_type, number_type, literal_type, resource, element, compose_type, splat_type, swizzle_type, castable, cast_type, sample_type, load_type, inside_result, inside_tag, made_of, leaf_rule, otherwise, rule_of, resulting, seen}
use Rattle.run.specs.Statics.{type_by, element_type, sampled_type, loaded_type, static_tag, static_of}

-- a type that a sight finds is this one
abbrev Gives : Sight → Option TypeInner → Type 0
Gives s o = (t : TypeInner) → s ≡ Ok t → o ≡ Some t

-- what tells the sights apart, and what a fine one holds
abbrev is_fine : Sight → Bool
is_fine (Ok t) = true
is_fine (Err miss) = false

abbrev type_in : Sight → Option TypeInner
type_in (Ok t) = Some t
type_in (Err miss) = None

of_lacking : (o : Option TypeInner) → Gives (Err Lacking) o
of_lacking o t h = absurd (false≢true (ap is_fine h))

of_outside : (o : Option TypeInner) → Gives (Err Outside) o
of_outside o t h = absurd (false≢true (ap is_fine h))

of_fine : (t : TypeInner) → Gives (Ok t) (Some t)
of_fine t u h = ap type_in h

of_test : (b : Bool) (t : TypeInner) → Gives (test b t) (Some t)
of_test true t = of_fine t
of_test false t = of_lacking (Some t)

-- first the records whose type does not hang on a base

of_texture : (o : Option TypeInner) → Gives (listed o (λ t. fine (texture_type t))) o
of_texture None = of_outside None
of_texture (Some (Scalar k)) = of_lacking _
of_texture (Some (Vector s k)) = of_lacking _
of_texture (Some (Image d a c)) = of_fine (Image d a c)
of_texture (Some Sampler) = of_fine Sampler
of_texture (Some (BindingArray b)) = of_fine (BindingArray b)

of_resource : (env : Env) (o : Option TypeHandle) → Gives (resource env o) (type_by env o)
of_resource env None = of_outside None
of_resource env (Some h) = of_texture (env.types h.index)

of_literal : (o : Option Literal) → Gives (listed o (λ l. Ok (literal_type l))) (on o (λ l. Some (literal_type l)))
of_literal None = of_outside None
of_literal (Some l) = of_fine (literal_type l)

of_number : (o : Option TypeInner) → Gives (listed o (λ t. fine (number_type t))) o
of_number None = of_outside None
of_number (Some (Scalar k)) = of_fine (Scalar k)
of_number (Some (Vector s k)) = of_fine (Vector s k)
of_number _ = of_lacking _

of_compose : (tys : Known) (e : Expression) (o : Option TypeInner) → Gives (listed o (compose_type tys e.size e.components)) o
of_compose tys e None = of_outside None
of_compose tys e (Some (Vector s k)) = of_test _ (Vector s k)
of_compose tys e _ = of_lacking _

-- then those that are made of a base

of_when : (b : Bool) (t : TypeInner) → Gives (fine (when b t)) (Some t)
of_when true t = of_fine t
of_when false t = of_lacking (Some t)

of_guard : (b : Bool) (s : Sight) (o : Option TypeInner) → Gives s o → Gives (cond b s (Err Lacking)) o
of_guard true s o g = g
of_guard false s o g = of_lacking o

of_element : (env : Env) (base : TypeInner) (i : Option TypeInner) → Gives (known i (element env base)) (element_type env base)
of_element env base None = of_lacking _
of_element env (BindingArray b) (Some i) = of_guard _ _ _ (of_texture (env.types b.index))
of_element env _ (Some i) = of_lacking _

of_part : (e : Expression) (base : TypeInner) → Gives (fine (part_type e.index base)) (Some (Scalar (kind_in base)))
of_part e (Vector s k) = of_when _ (Scalar k)
of_part e _ = of_lacking _

of_splat : (e : Expression) (base : TypeInner) → Gives (fine (splat_type e.size base)) (Some (Vector e.size (kind_in base)))
of_splat e (Scalar k) = of_fine (Vector e.size k)
of_splat e _ = of_lacking _

of_swizzle : (e : Expression) (base : TypeInner) → Gives (fine (swizzle_type e.size e.pattern base)) (Some (Vector e.size (kind_in base)))
of_swizzle e (Vector s k) = of_when _ (Vector e.size k)
of_swizzle e _ = of_lacking _

of_cast : (base : TypeInner) → Gives (fine (cast_type base)) (Some (Scalar Sint))
of_cast (Scalar k) = of_when (castable k) (Scalar Sint)
of_cast _ = of_lacking _

of_sample : (tys : Known) (e : Expression) (base : TypeInner) → Gives (sample_type tys e base) (sampled_type e base)
of_sample tys e (Image d a c) = of_test _ _
of_sample tys e _ = of_lacking _

of_load : (tys : Known) (e : Expression) (base : TypeInner) → Gives (load_type tys e base) (loaded_type base)
of_load tys e (Image d a c) = of_test _ _
of_load tys e _ = of_lacking _

of_made : (env : Env) (tys : Known) (e : Expression) (base : TypeInner) (tag : ExpressionTag)
    → Gives (made_of env tys e base tag) (static_tag env (Some base) e tag)
of_made env tys e base Access = of_element env base (tys e.other.index)
of_made env tys e base AccessIndex = of_part e base
of_made env tys e base Splat = of_splat e base
of_made env tys e base Swizzle = of_swizzle e base
of_made env tys e base As = of_cast base
of_made env tys e base ImageSample = of_sample tys e base
of_made env tys e base ImageLoad = of_load tys e base
of_made env tys e base _ = of_lacking _

of_known : (env : Env) (tys : Known) (e : Expression) (tag : ExpressionTag) (o : Option TypeInner)
    → Gives (known o (λ base. made_of env tys e base tag)) (static_tag env o e tag)
of_known env tys e tag None = of_lacking _
of_known env tys e tag (Some base) = of_made env tys e base tag

of_tag : (env : Env) (tys : Known) (e : Expression) (o : Option TypeInner) (tag : ExpressionTag)
    → Gives (otherwise (leaf_rule env tys e tag) (known o (λ base. made_of env tys e base tag))) (static_tag env o e tag)
of_tag env tys e o GlobalVariable = of_resource env (env.variables e.variable.index)
of_tag env tys e o FunctionArgument = of_resource env (env.arguments e.argument.index)
of_tag env tys e o Constant = of_literal (env.constants e.constant.index)
of_tag env tys e o Supplied = of_number (env.types e.ty.index)
of_tag env tys e o Access = of_known env tys e Access o
of_tag env tys e o AccessIndex = of_known env tys e AccessIndex o
of_tag env tys e o Compose = of_compose tys e (env.types e.ty.index)
of_tag env tys e o Splat = of_known env tys e Splat o
of_tag env tys e o Swizzle = of_known env tys e Swizzle o
of_tag env tys e o Divide = of_test _ (Scalar Float)
of_tag env tys e o Round = of_test _ (Scalar Float)
of_tag env tys e o As = of_known env tys e As o
of_tag env tys e o ImageSample = of_known env tys e ImageSample o
of_tag env tys e o ImageLoad = of_known env tys e ImageLoad o

-- a stated type is the one that the rule gave, or nothing is seen
of_stated : (t : TypeInner) (o : Option TypeInner) → Gives (listed o (λ r. test (same_type t r) t)) o
of_stated t None = of_outside None
of_stated t (Some r) = at (same_type t r) (types_decided t r).0
  where
    at : (b : Bool) → (b ≡ true → t ≡ r) → Gives (test b t) (Some r)
    at true same u h = ap Some (sym (same refl)) ∙ of_fine t u h
    at false same u h = of_lacking (Some r) u h

of_result_holds : (env : Env) (base : Option TypeInner) (e : Expression) (o : Option TypeHandle) (s : Sight)
    → Gives s (static_tag env base e e.tag) → Gives (resulting env o s) (static_of env base e o)
of_result_holds env base e None (Ok t) g = g
of_result_holds env base e (Some h) (Ok t) g = of_stated t (env.types h.index)
of_result_holds env base e o (Err Lacking) g = of_lacking _
of_result_holds env base e o (Err Outside) g = of_outside _

of_inside : (b : Bool) (s : Sight) (o : Option TypeInner) → Gives s o → Gives (cond b s (Err Outside)) o
of_inside true s o g = g
of_inside false s o g = of_outside o

pub seen_static : (env : Env) (tys : Known) (e : Expression) (t : TypeInner)
    → seen env tys e ≡ Ok t → static_of env (tys e.base.index) e e.result ≡ Some t
seen_static env tys e =
    let base = tys e.base.index in
    of_inside (inside_result env e.result && inside_tag env e e.tag) _ _
    (of_result_holds env base e e.result (rule_of env tys e) (of_tag env tys e base e.tag))
