-- A run that goes on to the end, one expression at a time.
use Rattle.std.proofs.Common.{◌≡◌, suc, ◌+◌, Bool, true, false, List, [], ◌∷◌, ◌++◌, length, sym, refl, ap, ◌∙◌, append_assoc, append-nil, arith, Ok, Err}
use Rattle.std.proofs.lemmas.Bool.{false≢true}
use Rattle.records.specs.declared.types.TypeInner.{TypeInner}
use Rattle.records.specs.declared.expressions.Expression.{Expression}
use Rattle.units.specs.declared.values.Value.{Value}
use Rattle.run.specs.Envs.{Env}
use Rattle.run.specs.Rules.{Sight, seen}
use Rattle.run.specs.Runs.{Progress, proceeds, run_over, types_of, value_at}
use Rattle.run.specs.Worth.{Values}
use Rattle.run.proofs.Places.{one_more}

-- the first expression was fine, and the run went on over the rest
pub record Onward (env : Env) (w : Values → Expression → Value) (vs : List Value) (e : Expression) (es : List Expression) (us : List Value) : Type 0 where
  pub ty : TypeInner
  pub fine : seen env (types_of vs) e ≡ Ok ty
  pub rest : run_over env w (vs ++ w (value_at vs) e ∷ []) es ≡ Progress.Went us

abbrev went : Progress → Bool
went (Progress.Went vs) = true
went (Progress.Halted h) = false

pub went_on : (env : Env) (w : Values → Expression → Value) (vs : List Value) (e : Expression) (es : List Expression) (us : List Value)
    → run_over env w vs (e ∷ es) ≡ Progress.Went us → Onward env w vs e es us
unfolding run_over
went_on env w vs e es us is = by (seen env (types_of vs) e) refl is
  where
    by : (s : Sight) → seen env (types_of vs) e ≡ s → proceeds s (length vs) (run_over env w (vs ++ w (value_at vs) e ∷ []) es) ≡ Progress.Went us
        → Onward env w vs e es us
    by (Ok t) q is = record { ty = t; fine = q; rest = is }
    by (Err miss) q is = absurd (false≢true (ap went is))

-- the values of a run stand after those before it
abbrev values_in : Progress → List Value
values_in (Progress.Went vs) = vs
values_in (Progress.Halted h) = []

pub went_after : (env : Env) (w : Values → Expression → Value) (es : List Expression) (vs us : List Value)
    → run_over env w vs es ≡ Progress.Went us → (ws : List Value) × (us ≡ vs ++ ws)
unfolding run_over
went_after env w [] vs us is = ([], sym (ap values_in is) ∙ sym (append-nil vs))
went_after env w (e ∷ es) vs us is =
    let v = w (value_at vs) e in
    let on = went_on env w vs e es us is in
    let more = went_after env w es (vs ++ v ∷ []) us on.rest in
    (v ∷ more.0, more.1 ∙ append_assoc vs (v ∷ []) more.0)

-- one value for each expression
pub went_length : (env : Env) (w : Values → Expression → Value) (es : List Expression) (vs us : List Value)
    → run_over env w vs es ≡ Progress.Went us → length us ≡ length vs + length es
unfolding run_over
went_length env w [] vs us is = let n : length us ≡ length vs = sym (ap (λ p. length (values_in p)) is) in omega arith
went_length env w (e ∷ es) vs us is =
    let v = w (value_at vs) e in
    let on = went_on env w vs e es us is in
    let n : length us ≡ length (vs ++ v ∷ []) + length es = went_length env w es (vs ++ v ∷ []) us on.rest in
    let m : length (vs ++ v ∷ []) ≡ suc (length vs) = one_more vs v in
    omega arith
