-- Inputs of a list in two parts, and over longer lists.
use Rattle.std.proofs.Common.{◌≡◌, ℕ, suc, ◌+◌, List, [], ◌∷◌, length, is_some, Some, None, Option, sym, refl, ap, ◌∙◌}
use Rattle.std.proofs.lemmas.Bool.{false≢true}
use Rattle.records.specs.declared.types.TypeInner.{TypeInner}
use Rattle.records.specs.declared.expressions.ExpressionTag.{ExpressionTag}
use Rattle.records.specs.declared.expressions.ExpressionTag.TheVariants.{Supplied}
use Rattle.records.specs.declared.expressions.Expression.{Expression}
use Rattle.units.specs.declared.values.Components.{Components}
use Rattle.run.specs.declared.passes.Halt.{Halt}
use Rattle.run.specs.Envs.{Env}
use Rattle.run.specs.Inputs.{input_type, input_halt_by, input_halt, halting_inputs}
use Rattle.run.specs.Laws.{Grows, InputsAppend, InputsGrow}
use Rattle.run.specs.Runs.{first_halt, or_else}
use Rattle.run.proofs.Appends.{first_appends}
use Rattle.run.proofs.Steps.{first_none_of, rest_none_of}

-- where the number of a record makes no difference, that of the first makes none
first_from_any : {X : Type 0} (g : X → Option Halt) (i j : ℕ) (xs : List X) → first_halt (λ _ x. g x) i xs ≡ first_halt (λ _ x. g x) j xs
unfolding first_halt
first_from_any g i j [] = refl
first_from_any g i j (x ∷ xs) = ap (or_else (g x)) (first_from_any g (suc i) (suc j) xs)

pub inputs_append : InputsAppend
inputs_append env ins es fs =
    first_appends (λ i e. input_halt env ins e e.tag) 0 es fs
    ∙ ap (or_else (halting_inputs env ins es)) (first_from_any (λ e. input_halt env ins e e.tag) (0 + length es) 0 fs)

by_type : (o p input : Option TypeInner) → ((t : TypeInner) → o ≡ Some t → p ≡ Some t) → input_halt_by o input ≡ None → input_halt_by p input ≡ None
by_type None p input keeps is = absurd (false≢true (ap is_some (sym is)))
by_type (Some t) p input keeps is = ap (λ o. input_halt_by o input) (keeps t refl) ∙ is

module _ (env env' : Env) (grows : Grows env env') (ins : List Components) where
  input_stays : (e : Expression) (tag : ExpressionTag) → input_halt env ins e tag ≡ None → input_halt env' ins e tag ≡ None
  input_stays e Supplied is = by_type _ _ (input_type ins e.index) (grows.types e.ty.index) is
  input_stays e _ is = refl

  all_stay : (i : ℕ) (es : List Expression) → first_halt (λ _ (e : Expression). input_halt env ins e e.tag) i es ≡ None
      → first_halt (λ _ (e : Expression). input_halt env' ins e e.tag) i es ≡ None
  unfolding first_halt
  all_stay i [] is = refl
  all_stay i (e ∷ es) is =
      ap (λ o. or_else o (first_halt (λ _ (x : Expression). input_halt env' ins x x.tag) (suc i) es))
      (input_stays e e.tag (first_none_of (input_halt env ins e e.tag) _ is))
      ∙ all_stay (suc i) es (rest_none_of (input_halt env ins e e.tag) _ is)

pub inputs_grow : InputsGrow
inputs_grow env env' ins es grows is = all_stay env env' grows ins 0 es is
