-- Requests made again from more values: operands that were known have the values that they had.
use Rattle.std.proofs.Common.{◌≡◌, ℕ, zero, suc, ◌+◌, Bool, true, List, [], ◌∷◌, ◌++◌, length, take, is_some as option_is_some, Some, None, Ok, Option, unwrap_or, sym, refl, ap, ◌∙◌, append_assoc, append-nil, arith}
use Rattle.std.specs.List.{slice_get}
use Rattle.std.proofs.lemmas.Bool.{and_parts, false≢true}
use Rattle.records.specs.declared.handles.ExpressionHandle.{ExpressionHandle}
use Rattle.records.specs.declared.types.ScalarKind.{ScalarKind}
use Rattle.records.specs.declared.types.ScalarKind.TheVariants.{Sint, Float}
use Rattle.records.specs.declared.types.ImageDimension.{ImageDimension}
use Rattle.records.specs.declared.types.TypeInner.{TypeInner}
use Rattle.records.specs.declared.types.TypeInner.TheVariants.{Scalar, Image, Sampler}
use Rattle.records.specs.declared.expressions.SampleLevel.{SampleLevel}
use Rattle.records.specs.declared.expressions.SampleLevel.TheVariants as sampling
use Rattle.records.specs.declared.expressions.ExpressionTag.{ExpressionTag}
use Rattle.records.specs.declared.expressions.ExpressionTag.TheVariants.{ImageSample, ImageLoad}
use Rattle.records.specs.declared.expressions.Expression.{Expression}
use Rattle.units.specs.declared.values.Components.{Components}
use Rattle.units.specs.declared.values.Value.{Value}
use Rattle.units.specs.declared.values.Value.TheVariants.{Number}
use Rattle.units.specs.declared.requests.Level.TheVariants.{Exact, Bias}
use Rattle.units.specs.declared.requests.Request.{Request}
use Rattle.units.specs.Requests.{Answers}
use Rattle.run.specs.Asked.{request_tag, request_of, with_request, asked}
use Rattle.run.specs.Envs.{Env}
use Rattle.run.specs.Laws.{AsksAgain, AsksAnswered, AskedGrows}
use Rattle.run.specs.Rules.{Sight, known, is_of, is_int, place_type, layer_fits, offset_fits, float_fits, integer_fits, level_fits, sample_fits, sample_type, load_fits, load_type, made_of, leaf_rule, otherwise, rule_of, seen}
use Rattle.run.specs.Runs.{Progress, run_over, types_of, value_at}
use Rattle.run.specs.Worth.{Values, components_of, optional, level_of, sample_request, load_request, worth_tag, worth}
use Rattle.run.proofs.Onward.{went_on, went_after}
use Rattle.run.proofs.Places.{nth_at, one_more, take_front}
use Rattle.run.proofs.Sound.{Of, is_of_holds, of_test, of_rule, of_known}

-- what passes a test of types is known

pub is_some : (o : Option TypeInner) (u : TypeInner) → is_of o u ≡ true → option_is_some o ≡ true
is_some None u h = h
is_some (Some t) u h = refl

pub int_some : (o : Option TypeInner) (of : ScalarKind → TypeInner) → is_int o of ≡ true → option_is_some o ≡ true
int_some None of h = h
int_some (Some t) of h = refl

known_some : (o : Option TypeInner) (f : TypeInner → Sight) (t : TypeInner) → Of t (known o f) → option_is_some o ≡ true
known_some None f t h = absurd h
known_some (Some u) f t h = refl

-- what is known stays

pub value_stays : (vs us : List Value) (n : ℕ) → option_is_some (types_of vs n) ≡ true → value_at (vs ++ us) n ≡ value_at vs n
value_stays [] us n h = absurd (false≢true h)
value_stays (v ∷ vs) us zero h = refl
value_stays (v ∷ vs) us (suc n) h = value_stays vs us n h

pub type_stays : (vs us : List Value) (n : ℕ) → option_is_some (types_of vs n) ≡ true → types_of (vs ++ us) n ≡ types_of vs n
type_stays [] us n h = absurd (false≢true h)
type_stays (v ∷ vs) us zero h = refl
type_stays (v ∷ vs) us (suc n) h = type_stays vs us n h

module _ (vs us : List Value) where
  -- operands

  components_stay : (h : ExpressionHandle) → option_is_some (types_of vs h.index) ≡ true → components_of (value_at (vs ++ us) h.index) ≡ components_of (value_at vs h.index)
  components_stay h some = ap components_of (value_stays vs us h.index some)

  pub layer_stays : (a : Bool) (o : Option ExpressionHandle) → layer_fits (types_of vs) a o ≡ true → optional (value_at (vs ++ us)) o ≡ optional (value_at vs) o
  layer_stays a None fits = refl
  layer_stays a (Some h) fits = ap Some (components_stay h (is_some _ (Scalar Sint) (and_parts a _ fits).1))

  offset_stays : (d : ImageDimension) (o : Option ExpressionHandle) → offset_fits (types_of vs) d o ≡ true → optional (value_at (vs ++ us)) o ≡ optional (value_at vs) o
  offset_stays d None fits = refl
  offset_stays d (Some h) fits = ap Some (components_stay h (int_some _ (place_type d) fits))

  float_stays : (o : Option ExpressionHandle) → float_fits (types_of vs) o ≡ true → optional (value_at (vs ++ us)) o ≡ optional (value_at vs) o
  float_stays None fits = refl
  float_stays (Some h) fits = ap Some (components_stay h (is_some _ (Scalar Float) fits))

  integer_stays : (o : Option ExpressionHandle) → integer_fits (types_of vs) o ≡ true → optional (value_at (vs ++ us)) o ≡ optional (value_at vs) o
  integer_stays None fits = refl
  integer_stays (Some h) fits = ap Some (components_stay h (int_some _ Scalar fits))

  level_stays : (d : ImageDimension) (l : SampleLevel) → level_fits (types_of vs) d l ≡ true → level_of (value_at (vs ++ us)) l ≡ level_of (value_at vs) l
  level_stays d sampling.Auto fits = refl
  level_stays d sampling.Zero fits = refl
  level_stays d (sampling.Exact h) fits = ap Exact (components_stay h (is_some _ (Scalar Float) fits))
  level_stays d (sampling.Bias h) fits = ap Bias (components_stay h (is_some _ (Scalar Float) fits))
  level_stays d (sampling.Gradient x y) fits =
      let both = and_parts _ _ fits in
      let first = components_stay x (is_some _ (place_type d Float) both.0) in
      let second = components_stay y (is_some _ (place_type d Float) both.1) in
      cc

  -- requests

  sample_again : (e : Expression) (d : ImageDimension) (a : Bool) → option_is_some (types_of vs e.base.index) ≡ true → sample_fits (types_of vs) e d a ≡ true
      → sample_request (value_at (vs ++ us)) e ≡ sample_request (value_at vs) e
  sample_again e d a some fits =
      let f1 = and_parts _ _ fits in
      let f2 = and_parts _ _ f1.1 in
      let f3 = and_parts _ _ f2.1 in
      let f4 = and_parts _ _ f3.1 in
      let f5 = and_parts _ _ f4.1 in
      let image = value_stays vs us e.base.index some in
      let sampler = value_stays vs us e.other.index (is_some _ Sampler f1.0) in
      let place = value_stays vs us e.image.coordinate.index (is_some _ (place_type d Float) f2.0) in
      let layer = layer_stays a e.image.array_index f3.0 in
      let offset = offset_stays d e.image.offset f4.0 in
      let level = level_stays d e.image.level f5.0 in
      let reference = float_stays e.image.depth_ref f5.1 in
      cc

  load_again : (e : Expression) (d : ImageDimension) (a : Bool) → option_is_some (types_of vs e.base.index) ≡ true → load_fits (types_of vs) e d a ≡ true
      → load_request (value_at (vs ++ us)) e ≡ load_request (value_at vs) e
  load_again e d a some fits =
      let f1 = and_parts _ _ fits in
      let f2 = and_parts _ _ f1.1 in
      let f3 = and_parts _ _ f2.1 in
      let image = value_stays vs us e.base.index some in
      let place = value_stays vs us e.image.coordinate.index (int_some _ (place_type d) f1.0) in
      let layer = layer_stays a e.image.array_index f2.0 in
      let sample = integer_stays e.image.sample f3.0 in
      let lod = integer_stays e.image.lod f3.1 in
      cc

  sample_of : (e : Expression) (t u : TypeInner) → option_is_some (types_of vs e.base.index) ≡ true → Of t (sample_type (types_of vs) e u)
      → sample_request (value_at (vs ++ us)) e ≡ sample_request (value_at vs) e
  sample_of e t (Image d a c) some h = sample_again e d a some (of_test _ _ t h).0
  sample_of e t _ some h = absurd h

  load_of : (e : Expression) (t u : TypeInner) → option_is_some (types_of vs e.base.index) ≡ true → Of t (load_type (types_of vs) e u)
      → load_request (value_at (vs ++ us)) e ≡ load_request (value_at vs) e
  load_of e t (Image d a c) some h = load_again e d a some (of_test _ _ t h).0
  load_of e t _ some h = absurd h

  tag_again : (env : Env) (e : Expression) (t : TypeInner) (tag : ExpressionTag)
      → Of t (otherwise (leaf_rule env (types_of vs) e tag) (known (types_of vs e.base.index) (λ b. made_of env (types_of vs) e b tag)))
      → request_tag (value_at (vs ++ us)) e tag ≡ request_tag (value_at vs) e tag
  tag_again env e t ImageSample h =
      ap Some (sample_of e t _ (known_some (types_of vs e.base.index) _ t h) (of_known vs e.base.index (sample_type (types_of vs) e) t h))
  tag_again env e t ImageLoad h =
      ap Some (load_of e t _ (known_some (types_of vs e.base.index) _ t h) (of_known vs e.base.index (load_type (types_of vs) e) t h))
  tag_again env e t _ h = refl

  -- of an expression that was fine by the values before it
  pub request_again : (env : Env) (e : Expression) (t : TypeInner) → seen env (types_of vs) e ≡ Ok t → request_of (value_at (vs ++ us)) e ≡ request_of (value_at vs) e
  request_again env e t is = tag_again env e t e.tag (of_rule env _ e.result (rule_of env (types_of vs) e) t (is_of_holds (seen env (types_of vs) e) t is))

-- an expression that makes a request is worth the answer to it
answer_there : (env : Env) (answers : Answers) (ins : ℕ → Components) (at : Values) (e : Expression) (q : Request) (tag : ExpressionTag)
    → request_tag at e tag ≡ Some q → worth_tag env answers ins at e tag ≡ Number (answers q)
answer_there env answers ins at e q ImageSample is = ap (λ o. Number (answers (unwrap_or o q))) is
answer_there env answers ins at e q ImageLoad is = ap (λ o. Number (answers (unwrap_or o q))) is
answer_there env answers ins at e q _ is = absurd (false≢true (ap option_is_some is))

-- the values of a run, from those before its first expression and one of these: the request of that one stays
module _ (env : Env) (w : Values → Expression → Value) (e : Expression) (es : List Expression) (vs us : List Value) (is : run_over env w vs (e ∷ es) ≡ Progress.Went us) where
  request_first : (xs : List Value) → request_of (value_at (us ++ xs)) e ≡ request_of (value_at vs) e
  request_first xs =
      let on = went_on env w vs e es us is in
      let after = went_after env w (e ∷ es) vs us is in
      ap (λ l. request_of (value_at l) e) (ap (λ l. l ++ xs) after.1 ∙ append_assoc vs after.0 xs)
      ∙ request_again vs (after.0 ++ xs) env e on.ty on.fine

  request_here : request_of (value_at us) e ≡ request_of (value_at vs) e
  request_here = ap (λ l. request_of (value_at l) e) (sym (append-nil us)) ∙ request_first []

  value_here : slice_get us (length vs + 0) ≡ Some (w (value_at vs) e)
  value_here =
      let v = w (value_at vs) e in
      let on = went_on env w vs e es us is in
      let after = went_after env w es (vs ++ v ∷ []) us on.rest in
      ap (λ l. slice_get l (length vs + 0)) (after.1 ∙ append_assoc vs (v ∷ []) after.0) ∙ nth_at vs v after.0 (length vs + 0) (omega arith)

-- from any values before
pub asks_again_from : (env : Env) (w : Values → Expression → Value) (es : List Expression) (vs us : List Value) (i : ℕ) (e : Expression)
    → run_over env w vs es ≡ Progress.Went us → slice_get es i ≡ Some e → request_of (value_at us) e ≡ request_of (value_at (take (length vs + i) us)) e
asks_again_from env w [] vs us i e is here = absurd (false≢true (ap option_is_some here))
asks_again_from env w (x ∷ es) vs us zero e is here =
    let same : x ≡ e = ap (λ o. unwrap_or o x) here in
    let after = went_after env w (x ∷ es) vs us is in
    let before : take (length vs + 0) us ≡ vs = ap (take (length vs + 0)) after.1 ∙ take_front vs after.0 (length vs + 0) (omega arith) in
    ap (request_of (value_at us)) (sym same) ∙ request_here env w x es vs us is ∙ ap (request_of (value_at vs)) same
    ∙ ap (λ l. request_of (value_at l) e) (sym before)
asks_again_from env w (x ∷ es) vs us (suc i) e is here =
    let v = w (value_at vs) x in
    let on = went_on env w vs x es us is in
    let m : length (vs ++ v ∷ []) ≡ suc (length vs) = one_more vs v in
    let n : length (vs ++ v ∷ []) + i ≡ length vs + suc i = omega arith in
    asks_again_from env w es (vs ++ v ∷ []) us i e on.rest here ∙ ap (λ k. request_of (value_at (take k us)) e) n

pub asks_again : AsksAgain
asks_again env answers ins es vs i e is here =
    let n : 0 + i ≡ i = omega arith in
    asks_again_from env (worth env answers ins) es [] vs i e is here ∙ ap (λ k. request_of (value_at (take k vs)) e) n

pub asks_answered_from : (env : Env) (answers : Answers) (ins : ℕ → Components) (es : List Expression) (vs us : List Value) (i : ℕ) (e : Expression) (q : Request)
    → run_over env (worth env answers ins) vs es ≡ Progress.Went us → slice_get es i ≡ Some e → request_of (value_at us) e ≡ Some q
    → slice_get us (length vs + i) ≡ Some (Number (answers q))
asks_answered_from env answers ins [] vs us i e q is here made = absurd (false≢true (ap option_is_some here))
asks_answered_from env answers ins (x ∷ es) vs us zero e q is here made =
    let same : x ≡ e = ap (λ o. unwrap_or o x) here in
    value_here env (worth env answers ins) x es vs us is
    ∙ ap Some (answer_there env answers ins (value_at vs) x q x.tag
    (sym (request_here env (worth env answers ins) x es vs us is) ∙ ap (request_of (value_at us)) same ∙ made))
asks_answered_from env answers ins (x ∷ es) vs us (suc i) e q is here made =
    let v = worth env answers ins (value_at vs) x in
    let on = went_on env (worth env answers ins) vs x es us is in
    let m : length (vs ++ v ∷ []) ≡ suc (length vs) = one_more vs v in
    let n : length vs + suc i ≡ length (vs ++ v ∷ []) + i = omega arith in
    ap (slice_get us) n ∙ asks_answered_from env answers ins es (vs ++ v ∷ []) us i e q on.rest here made

pub asks_answered : AsksAnswered
asks_answered env answers ins es vs i e q is here made =
    let n : i ≡ 0 + i = omega arith in
    ap (slice_get vs) n ∙ asks_answered_from env answers ins es [] vs i e q is here made

pub asked_grows_from : (env : Env) (w : Values → Expression → Value) (es : List Expression) (vs us xs : List Value)
    → run_over env w vs es ≡ Progress.Went us → asked (value_at (us ++ xs)) es ≡ asked (value_at us) es
unfolding asked
asked_grows_from env w [] vs us xs is = refl
asked_grows_from env w (e ∷ es) vs us xs is =
    let on = went_on env w vs e es us is in
    let first = request_first env w e es vs us is xs ∙ sym (request_here env w e es vs us is) in
    let rest = asked_grows_from env w es (vs ++ w (value_at vs) e ∷ []) us xs on.rest in
    ap (λ o. with_request o (asked (value_at (us ++ xs)) es)) first ∙ ap (with_request (request_of (value_at us) e)) rest

pub asked_grows : AskedGrows
asked_grows env answers ins es vs us is = asked_grows_from env (worth env answers ins) es [] vs us is
