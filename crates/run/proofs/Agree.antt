-- The two passes come to what the fold comes to.
use Rattle.std.proofs.Common.{◌≡◌, ℕ, suc, ◌+◌, List, [], ◌∷◌, ◌++◌, length, drop, is_some, Some, None, Ok, Err, Option, sym, refl, ap, ◌∙◌, ⊎_elim, arith}
use Rattle.std.specs.List.{slice_get}
use Rattle.std.specs.Option.{option_map}
use Rattle.std.proofs.lemmas.Bool.{cases_lt, cond_below, cond_above, false≢true}
use Rattle.std.proofs.lemmas.Option.{slice_get_past}
use Rattle.records.specs.declared.expressions.Expression.{Expression}
use Rattle.records.specs.declared.types.TypeInner.{TypeInner}
use Rattle.units.specs.declared.values.Components.{Components}
use Rattle.units.specs.declared.values.Value.{Value}
use Rattle.units.specs.Requests.{Answers, Typed}
use Rattle.units.specs.Values.{type_of}
use Rattle.run.specs.declared.passes.Halt.{Halt}
use Rattle.run.specs.Envs.{Env}
use Rattle.run.specs.Rules.{Sight, seen}
use Rattle.run.specs.Statics.{static, known_before}
use Rattle.run.specs.Worth.{Values, worth}
use Rattle.run.specs.Runs.{types_of, value_at, halt_of, first_halt, or_else, halting, worked, Progress, proceeds, run_over, by_passes}
use Rattle.run.proofs.Fuel.{static_is}
use Rattle.run.proofs.Places.{nth_before, nth_at, one_more, nth_drop, drop_more}
use Rattle.run.proofs.Seen.{seen_static}
use Rattle.run.proofs.Sound.{InputFits, worth_typed}

-- the types of the values are what is known from the records
abbrev pub Typing : Env → List Expression → List Value → Type 0
Typing env es vs = (h : ℕ) → types_of vs h ≡ known_before env es (length vs) h

pub typing_none : (env : Env) (es : List Expression) → Typing env es []
typing_none env es h = cond_above h 0 _ _ _ (omega arith) refl

typing_more : (env : Env) (es : List Expression) (vs : List Value) (v : Value) (t : TypeInner) → type_of v ≡ t → static env es (length vs) ≡ Some t
    → Typing env es vs → Typing env es (vs ++ v ∷ [])
typing_more env es vs v t is known before h =
    let n : length (vs ++ v ∷ []) ≡ suc (length vs) = one_more vs v in
    ⊎_elim
    (λ l. ap (option_map type_of) (nth_before vs (v ∷ []) h l) ∙ before h ∙ sym (cond_below h (length vs) (static env es h) None l)
    ∙ cond_below h (length (vs ++ v ∷ [])) (static env es h) None (omega arith))
    (λ m. ⊎_elim
    (λ l. let e : h ≡ length vs = omega arith in
    ap (option_map type_of) (nth_at vs v [] h e) ∙ ap Some is ∙ sym known ∙ ap (static env es) (sym e)
    ∙ cond_below h (length (vs ++ v ∷ [])) (static env es h) None (omega arith))
    (λ l. ap (option_map type_of) (slice_get_past (vs ++ v ∷ []) h (omega arith)) ∙ cond_above h (length (vs ++ v ∷ [])) (static env es h) None None (omega arith) refl)
    (cases_lt h (suc (length vs))))
    (cases_lt h (length vs))

-- every Supplied record has an input of its type
abbrev pub InputsFit : Env → (ℕ → Components) → List Expression → Type 0
InputsFit env ins es = (h : ℕ) (e : Expression) → slice_get es h ≡ Some e → InputFits env ins e

module _ (env : Env) (answers : Answers) (typed : Typed answers) (ins : ℕ → Components) (es : List Expression) (fits : InputsFit env ins es) where
  -- one expression that is fine
  typing_on : (vs : List Value) (e : Expression) (r : List Expression) (t : TypeInner) → drop (length vs) es ≡ e ∷ r
      → seen env (types_of vs) e ≡ Ok t → Typing env es vs → Typing env es (vs ++ worth env answers ins (value_at vs) e ∷ [])
  typing_on vs e r t is fine ty =
      let here : slice_get es (length vs) ≡ Some e = nth_drop (length vs) es e r is in
      let fine' : seen env (known_before env es (length vs)) e ≡ Ok t = (λ k. seen env (λ h. sym (ty h) k) e) ∙ fine in
      typing_more env es vs _ t (worth_typed env answers typed ins vs e t (fits (length vs) e here) fine)
      (static_is env es (length vs) e here ∙ seen_static env (known_before env es (length vs)) e t fine') ty

  -- what is seen by the types of the values is what is seen by the records
  seen_either : (vs : List Value) (n : ℕ) (e : Expression) → n ≡ length vs → Typing env es vs
      → seen env (known_before env es n) e ≡ seen env (types_of vs) e
  seen_either vs n e len ty = ap (λ m. seen env (known_before env es m) e) len ∙ (λ k. seen env (λ h. sym (ty h) k) e)

  -- the end of both from what they come to after one expression that is fine
  agree_at : (vs : List Value) (n : ℕ) (e : Expression) (rest : Progress) (more : Option Halt) (all : List Value) → n ≡ length vs → Typing env es vs
      → ((t : TypeInner) → seen env (types_of vs) e ≡ Ok t → rest ≡ by_passes more all) → (s : Sight) → seen env (types_of vs) e ≡ s
      → proceeds (seen env (types_of vs) e) (length vs) rest ≡ by_passes (or_else (halt_of (seen env (known_before env es n) e) n) more) all
  agree_at vs n e rest more all len ty next s q = ap (λ x. proceeds x (length vs) rest) q ∙ by s q ∙ sym (ap (λ x. by_passes (or_else (halt_of x n) more) all) (seen_either vs n e len ty ∙ q))
    where
      by : (s : Sight) → seen env (types_of vs) e ≡ s → proceeds s (length vs) rest ≡ by_passes (or_else (halt_of s n) more) all
      by (Ok t) q = next t q
      by (Err miss) q = ap (λ m. by_passes (or_else (halt_of (Err miss) m) more) all) (sym len)

  pub agree : (r : List Expression) (vs : List Value) (n : ℕ) → n ≡ length vs → drop n es ≡ r → Typing env es vs
      → run_over env (worth env answers ins) vs r ≡ by_passes (halting env (known_before env es) n r) (worked (worth env answers ins) vs r)
  unfolding run_over first_halt worked
  agree [] vs n len is ty = refl
  agree (e ∷ r) vs n len is ty =
      agree_at vs n e _ _ _ len ty
      (λ t q. agree r (vs ++ worth env answers ins (value_at vs) e ∷ []) (suc n) (ap suc len ∙ sym (one_more vs _)) (drop_more n es e r is)
      (typing_on vs e r t (ap (λ m. drop m es) (sym len) ∙ is) q ty))
      (seen env (types_of vs) e) refl

  -- where no expression halts the run, the types of all values are known
  types_at : (vs : List Value) (n : ℕ) (e : Expression) (more : Option Halt) (Goal : Type 0) → n ≡ length vs → Typing env es vs
      → or_else (halt_of (seen env (known_before env es n) e) n) more ≡ None → ((t : TypeInner) → seen env (types_of vs) e ≡ Ok t → more ≡ None → Goal)
      → (s : Sight) → seen env (types_of vs) e ≡ s → Goal
  types_at vs n e more Goal len ty none next s q = by s q (sym (ap (λ x. or_else (halt_of x n) more) (seen_either vs n e len ty ∙ q)) ∙ none)
    where
      by : (s : Sight) → seen env (types_of vs) e ≡ s → or_else (halt_of s n) more ≡ None → Goal
      by (Ok t) q m = next t q m
      by (Err miss) q m = absurd (false≢true (ap is_some (sym m)))

  pub types_all : (r : List Expression) (vs : List Value) (n : ℕ) → n ≡ length vs → drop n es ≡ r → Typing env es vs
      → halting env (known_before env es) n r ≡ None → Typing env es (worked (worth env answers ins) vs r)
  unfolding first_halt worked
  types_all [] vs n len is ty none = ty
  types_all (e ∷ r) vs n len is ty none =
      types_at vs n e _ _ len ty none
      (λ t q m. types_all r (vs ++ worth env answers ins (value_at vs) e ∷ []) (suc n) (ap suc len ∙ sym (one_more vs _)) (drop_more n es e r is)
      (typing_on vs e r t (ap (λ m. drop m es) (sym len) ∙ is) q ty) m)
      (seen env (types_of vs) e) refl

pub length_worked : (w : Values → Expression → Value) (es : List Expression) (vs : List Value) → length (worked w vs es) ≡ length vs + length es
unfolding worked
length_worked w [] vs = omega arith
length_worked w (e ∷ es) vs =
    let a : length (worked w (vs ++ w (value_at vs) e ∷ []) es) ≡ length (vs ++ w (value_at vs) e ∷ []) + length es = length_worked w es (vs ++ w (value_at vs) e ∷ []) in
    let b : length (vs ++ w (value_at vs) e ∷ []) ≡ suc (length vs) = one_more vs _ in
    omega arith
