-- A run that goes on to the end over some lists does so over longer ones, with the same values.
use Rattle.std.proofs.Common.{◌≡◌, ℕ, ◌<◌, ◌≤◌, Bool, true, false, cond, ◌&&◌, ◌||◌, ltb, List, [], ◌∷◌, ◌++◌, length, get_or, is_some, Some, None, Ok, Err, Option, unwrap_or, sym, refl, ap, ◌∙◌, subst, arith}
use Rattle.std.specs.Option.{option_map}
use Rattle.std.proofs.lemmas.Bool.{and_parts, and_from, ltb-true, lt-ltb, false≢true}
use Rattle.records.specs.declared.handles.TypeHandle.{TypeHandle}
use Rattle.records.specs.declared.handles.ExpressionHandle.{ExpressionHandle}
use Rattle.records.specs.declared.types.VectorSize.{VectorSize}
use Rattle.records.specs.declared.types.TypeInner.{TypeInner}
use Rattle.records.specs.declared.types.TypeInner.TheVariants.{Scalar, Sampler, BindingArray}
use Rattle.records.specs.declared.expressions.SampleLevel.{SampleLevel}
use Rattle.records.specs.declared.expressions.SampleLevel.TheVariants.{Exact, Bias, Gradient}
use Rattle.records.specs.declared.expressions.ExpressionTag.{ExpressionTag}
use Rattle.records.specs.declared.expressions.ExpressionTag.TheVariants.{GlobalVariable, FunctionArgument, Constant, Supplied, Access, Compose, Divide, ImageSample, ImageLoad}
use Rattle.records.specs.declared.expressions.Expression.{Expression}
use Rattle.units.specs.declared.values.Components.{Components}
use Rattle.units.specs.declared.values.Root.TheVariants.{Variable, Argument}
use Rattle.units.specs.declared.values.Value.{Value}
use Rattle.units.specs.declared.values.Value.TheVariants.{Number, Texture}
use Rattle.units.specs.Requests.{Answers}
use Rattle.units.specs.Values.{as_handle, type_of}
use Rattle.run.specs.declared.rules.Miss.TheVariants.{Lacking, Outside}
use Rattle.run.specs.Envs.{Env}
use Rattle.run.specs.Laws.{Grows, RunGrows}
use Rattle.run.specs.Rules.{Sight, Known, listed, known, fine, test, is_int, texture_type, resource, element, inside_one, inside_option, inside_level, inside_components, inside_image, inside_tag, inside_result, made_of, leaf_rule, otherwise, rule_of, result_fits, resulting, seen}
use Rattle.run.specs.Runs.{proceeds, run_over, types_of, value_at}
use Rattle.run.specs.Runs.Progress.{Went}
use Rattle.run.specs.Statics.{type_by, element_type}
use Rattle.records.specs.Numbers.{size_of}
use Rattle.records.specs.Types.{same_type}
use Rattle.run.specs.Worth.{no_components, literal_components, resource_of, texture_type_of, whole, element_of, worth_tag, worth}
use Rattle.run.proofs.Onward.{went_on}
use Rattle.run.proofs.Sound.{Of, is_of_holds, of_rule, of_known}

-- a test that holds goes on so
abbrev pub Holds : Bool → Bool → Type 0
Holds a b = a ≡ true → b ≡ true

pub and_holds : (a b a' b' : Bool) → Holds a a' → Holds b b' → Holds (a && b) (a' && b')
and_holds a b a' b' f g h = let both = and_parts a b h in and_from a' b' (f both.0) (g both.1)

or_holds : (c b b' : Bool) → Holds b b' → Holds (c || b) (c || b')
or_holds true b b' f h = refl
or_holds false b b' f h = f h

some_holds : {X : Type 0} (o p : Option X) → ((x : X) → o ≡ Some x → p ≡ Some x) → Holds (is_some o) (is_some p)
some_holds None p keeps h = absurd (false≢true h)
some_holds (Some x) p keeps h = ap is_some (keeps x refl)

-- a sight that is fine goes on so
abbrev Stays : Sight → Sight → Type 0
Stays s s' = (t : TypeInner) → Of t s → Of t s'

listed_stays : {X : Type 0} (o p : Option X) (f g : X → Sight) → ((x : X) → o ≡ Some x → p ≡ Some x) → ((x : X) → Stays (f x) (g x))
    → Stays (listed o f) (listed p g)
listed_stays None p f g keeps on t h = absurd h
listed_stays (Some x) p f g keeps on t h = subst (λ o. Of t (listed o g)) (sym (keeps x refl)) (on x t h)

guard_stays : (b : Bool) (s s' : Sight) → Stays s s' → Stays (cond b s (Err Lacking)) (cond b s' (Err Lacking))
guard_stays true s s' on t h = on t h
guard_stays false s s' on t h = absurd h

known_stays : (o : Option TypeInner) (f g : TypeInner → Sight) → ((u : TypeInner) → Stays (f u) (g u)) → Stays (known o f) (known o g)
known_stays None f g on t h = absurd h
known_stays (Some u) f g on t h = on u t h

inside_stays : (b b' : Bool) (s s' : Sight) → Holds b b' → Stays s s' → Stays (cond b s (Err Outside)) (cond b' s' (Err Outside))
inside_stays true b' s s' f on t h = subst (λ x. Of t (cond x s' (Err Outside))) (sym (f refl)) (on t h)
inside_stays false b' s s' f on t h = absurd h

-- what is listed is the same in both
listed_same : {X : Type 0} (o p : Option X) (f : X → Sight) (t : TypeInner) → ((x : X) → o ≡ Some x → p ≡ Some x) → Of t (listed o f) → o ≡ p
listed_same None p f t keeps h = absurd h
listed_same (Some x) p f t keeps h = sym (keeps x refl)

of_fine : (s : Sight) (t : TypeInner) → Of t s → s ≡ Ok t
of_fine (Ok u) t h = ap Ok h
of_fine (Err miss) t h = absurd h

module _ (env env' : Env) (grows : Grows env env') where
  -- numbers that lie inside

  pub one_holds : (h : ExpressionHandle) → Holds (inside_one env h) (inside_one env' h)
  one_holds h is =
      let low : h.index < env.count = ltb-true h.index env.count is in
      let more : env.count ≤ env'.count = grows.count in
      lt-ltb h.index env'.count (omega arith)

  pub option_holds : (o : Option ExpressionHandle) → Holds (inside_option env o) (inside_option env' o)
  option_holds None is = refl
  option_holds (Some h) is = one_holds h is

  level_holds : (l : SampleLevel) → Holds (inside_level env l) (inside_level env' l)
  level_holds (Exact h) is = one_holds h is
  level_holds (Bias h) is = one_holds h is
  level_holds (Gradient x y) is = and_holds (inside_one env x) (inside_one env y) _ _ (one_holds x) (one_holds y) is
  level_holds _ is = refl

  components_hold : (size : VectorSize) (cs : List ExpressionHandle) → Holds (inside_components env size cs) (inside_components env' size cs)
  components_hold size cs =
      let at : ℕ → ExpressionHandle = λ i. get_or cs i (record { index = 0 }) in
      and_holds _ _ _ _ (and_holds _ _ _ _ (one_holds (at 0)) (one_holds (at 1)))
      (and_holds _ _ _ _ (or_holds (ltb (size_of size) 3) _ _ (one_holds (at 2))) (or_holds (ltb (size_of size) 4) _ _ (one_holds (at 3))))

  image_holds : (e : Expression) → Holds (inside_image env e) (inside_image env' e)
  image_holds e =
      and_holds _ _ _ _ (one_holds e.base) (and_holds _ _ _ _ (one_holds e.image.coordinate)
      (and_holds _ _ _ _ (option_holds e.image.array_index) (and_holds _ _ _ _ (option_holds e.image.offset)
      (and_holds _ _ _ _ (level_holds e.image.level) (and_holds _ _ _ _ (option_holds e.image.depth_ref)
      (and_holds _ _ _ _ (option_holds e.image.sample) (option_holds e.image.lod)))))))

  tag_holds : (e : Expression) (tag : ExpressionTag) → Holds (inside_tag env e tag) (inside_tag env' e tag)
  tag_holds e GlobalVariable = some_holds _ _ (grows.variables e.variable.index)
  tag_holds e FunctionArgument = some_holds _ _ (grows.arguments e.argument.index)
  tag_holds e Constant = some_holds _ _ (grows.constants e.constant.index)
  tag_holds e Supplied = some_holds _ _ (grows.types e.ty.index)
  tag_holds e Access = and_holds _ _ _ _ (one_holds e.base) (one_holds e.other)
  tag_holds e Compose = and_holds _ _ _ _ (some_holds _ _ (grows.types e.ty.index)) (components_hold e.size e.components)
  tag_holds e Divide = and_holds _ _ _ _ (one_holds e.base) (one_holds e.other)
  tag_holds e ImageSample = and_holds _ _ _ _ (one_holds e.other) (image_holds e)
  tag_holds e ImageLoad = image_holds e
  tag_holds e _ = one_holds e.base

  result_holds : (o : Option TypeHandle) → Holds (inside_result env o) (inside_result env' o)
  result_holds None is = refl
  result_holds (Some h) is = some_holds _ _ (grows.types h.index) is

  -- types that are seen

  type_stays : (n : ℕ) (f : TypeInner → Sight) → Stays (listed (env.types n) f) (listed (env'.types n) f)
  type_stays n f = listed_stays (env.types n) (env'.types n) f f (grows.types n) (λ u t h. h)

  resource_stays : (o p : Option TypeHandle) → ((h : TypeHandle) → o ≡ Some h → p ≡ Some h) → Stays (resource env o) (resource env' p)
  resource_stays o p keeps = listed_stays o p _ _ keeps (λ h. type_stays h.index (λ u. fine (texture_type u)))

  element_stays : (base i : TypeInner) → Stays (element env base i) (element env' base i)
  element_stays (BindingArray b) i t h = guard_stays (is_int (Some i) Scalar) _ _ (type_stays b.index (λ u. fine (texture_type u))) t h
  element_stays _ i t h = absurd h

  made_stays : (tys : Known) (e : Expression) (base : TypeInner) (tag : ExpressionTag) → Stays (made_of env tys e base tag) (made_of env' tys e base tag)
  made_stays tys e base Access t h = known_stays (tys e.other.index) (element env base) (element env' base) (element_stays base) t h
  made_stays tys e base _ t h = h

  rule_stays : (tys : Known) (e : Expression) (tag : ExpressionTag)
      → Stays (otherwise (leaf_rule env tys e tag) (known (tys e.base.index) (λ base. made_of env tys e base tag)))
      (otherwise (leaf_rule env' tys e tag) (known (tys e.base.index) (λ base. made_of env' tys e base tag)))
  rule_stays tys e GlobalVariable t h = resource_stays _ _ (grows.variables e.variable.index) t h
  rule_stays tys e FunctionArgument t h = resource_stays _ _ (grows.arguments e.argument.index) t h
  rule_stays tys e Constant t h = listed_stays _ _ _ _ (grows.constants e.constant.index) (λ l t h. h) t h
  rule_stays tys e Supplied t h = type_stays e.ty.index _ t h
  rule_stays tys e Access t h = known_stays (tys e.base.index) _ _ (λ u. made_stays tys e u Access) t h
  rule_stays tys e Compose t h = type_stays e.ty.index _ t h
  rule_stays tys e _ t h = h

  fits_stays : (o : Option TypeHandle) (u : TypeInner) → Stays (result_fits env o u) (result_fits env' o u)
  fits_stays None u t h = h
  fits_stays (Some r) u t h = type_stays r.index (λ r. test (same_type u r) u) t h

  resulting_stays : (o : Option TypeHandle) (s s' : Sight) → Stays s s' → Stays (resulting env o s) (resulting env' o s')
  resulting_stays o (Ok u) s' on t h = subst (λ x. Of t (resulting env' o x)) (sym (of_fine s' u (on u refl))) (fits_stays o u t h)
  resulting_stays o (Err miss) s' on t h = absurd h

  pub seen_grows : (tys : Known) (e : Expression) (t : TypeInner) → seen env tys e ≡ Ok t → seen env' tys e ≡ Ok t
  seen_grows tys e t is =
      of_fine (seen env' tys e) t
      (inside_stays _ _ _ _ (and_holds _ _ _ _ (result_holds e.result) (tag_holds e e.tag))
      (resulting_stays e.result (rule_of env tys e) (rule_of env' tys e) (rule_stays tys e e.tag)) t (is_of_holds (seen env tys e) t is))

  -- values

  type_by_same : (o p : Option TypeHandle) (t : TypeInner) → ((h : TypeHandle) → o ≡ Some h → p ≡ Some h) → Of t (resource env o) → type_by env o ≡ type_by env' p
  type_by_same None p t keeps h = absurd h
  type_by_same (Some r) p t keeps h =
      listed_same (env.types r.index) (env'.types r.index) _ t (grows.types r.index) h ∙ ap (type_by env') (sym (keeps r refl))

  element_type_same : (v : Value) (i t : TypeInner) → Of t (element env (type_of v) i) → element_type env (texture_type_of v) ≡ element_type env' (texture_type_of v)
  element_type_same (Number c) i t h = refl
  element_type_same (Texture r) i t h = by r.ty h
    where
      inner : (b : Bool) (o p : Option TypeInner) → ((u : TypeInner) → o ≡ Some u → p ≡ Some u)
          → Of t (cond b (listed o (λ u. fine (texture_type u))) (Err Lacking)) → o ≡ p
      inner true o p keeps h = listed_same o p _ t keeps h
      inner false o p keeps h = absurd h

      by : (u : TypeInner) → Of t (element env (as_handle u) i) → element_type env u ≡ element_type env' u
      by (BindingArray b) h = inner (is_int (Some i) Scalar) (env.types b.index) (env'.types b.index) (grows.types b.index) h
      by _ h = refl

  element_same : (base index : Value) → element_type env (texture_type_of base) ≡ element_type env' (texture_type_of base)
      → element_of env base index ≡ element_of env' base index
  element_same base index same = ap (λ o. Texture (record { resource = resource_of (element_of env base index); ty = unwrap_or o Sampler })) same

  module _ (answers : Answers) (ins : ℕ → Components) where
    tag_same : (vs : List Value) (e : Expression) (t : TypeInner) (tag : ExpressionTag)
        → Of t (otherwise (leaf_rule env (types_of vs) e tag) (known (types_of vs e.base.index) (λ b. made_of env (types_of vs) e b tag)))
        → worth_tag env answers ins (value_at vs) e tag ≡ worth_tag env' answers ins (value_at vs) e tag
    tag_same vs e t GlobalVariable h = ap (whole (Variable e.variable)) (type_by_same _ _ t (grows.variables e.variable.index) h)
    tag_same vs e t FunctionArgument h = ap (whole (Argument e.argument)) (type_by_same _ _ t (grows.arguments e.argument.index) h)
    tag_same vs e t Constant h =
        ap (λ o. Number (unwrap_or (option_map literal_components o) no_components)) (listed_same _ _ _ t (grows.constants e.constant.index) h)
    tag_same vs e t Access h =
        let base = value_at vs e.base.index in
        element_same base (value_at vs e.other.index)
        (element_type_same base _ t
        (of_known vs e.other.index (element env (type_of base)) t (of_known vs e.base.index (λ u. made_of env (types_of vs) e u Access) t h)))
    tag_same vs e t _ h = refl

    -- where a type is seen
    pub worth_grows : (vs : List Value) (e : Expression) (t : TypeInner) → seen env (types_of vs) e ≡ Ok t
        → worth env answers ins (value_at vs) e ≡ worth env' answers ins (value_at vs) e
    worth_grows vs e t is = tag_same vs e t e.tag (of_rule env _ e.result (rule_of env (types_of vs) e) t (is_of_holds (seen env (types_of vs) e) t is))

    -- from any values before
    pub run_grows_from : (es : List Expression) (vs us : List Value)
        → run_over env (worth env answers ins) vs es ≡ Went us → run_over env' (worth env' answers ins) vs es ≡ Went us
    unfolding run_over
    run_grows_from [] vs us is = is
    run_grows_from (e ∷ es) vs us is =
        let on = went_on env (worth env answers ins) vs e es us is in
        ap (λ s. proceeds s (length vs) (run_over env' (worth env' answers ins) (vs ++ worth env' answers ins (value_at vs) e ∷ []) es))
        (seen_grows (types_of vs) e on.ty on.fine)
        ∙ ap (λ v. run_over env' (worth env' answers ins) (vs ++ v ∷ []) es) (sym (worth_grows vs e on.ty on.fine))
        ∙ run_grows_from es (vs ++ worth env answers ins (value_at vs) e ∷ []) us on.rest

pub run_grows : RunGrows
run_grows env env' answers ins es vs grows is = run_grows_from env env' grows answers ins es [] vs is
