-- The whole run from what the passes find.
use Rattle.std.proofs.Common.{◌≡◌, ℕ, zero, suc, ◌+◌, ◌≤◌, Bool, true, false, cond, ◌||◌, ltb, List, [], ◌∷◌, ◌++◌, length, get_or, take, drop, is_some, Some, None, Err, Option, unwrap_or, sym, refl, ap, ◌∙◌, arith}
use Rattle.std.specs.List.{slice_get}
use Rattle.std.proofs.lemmas.Bool.{false≢true, le-ltb}
use Rattle.records.proofs.Equal.{types_decided}
use Rattle.records.specs.declared.refusals.Error.TheVariants.{Full}
use Rattle.records.specs.declared.expressions.Expression.{Expression}
use Rattle.records.specs.declared.statements.Statement.{Statement}
use Rattle.records.specs.declared.statements.Statement.TheVariants.{Emit, ImageStore}
use Rattle.records.specs.declared.types.TypeInner.{TypeInner}
use Rattle.units.specs.declared.values.Components.{Components}
use Rattle.units.specs.declared.values.Value.{Value}
use Rattle.units.specs.declared.requests.Request.{Request}
use Rattle.units.specs.declared.values.Value.TheVariants.{Number}
use Rattle.units.specs.Requests.{Answers, Typed}
use Rattle.units.specs.Values.{type_of}
use Rattle.run.specs.declared.passes.Halt.{Halt}
use Rattle.run.specs.declared.passes.Halt.TheVariants.{WrongInput}
use Rattle.run.specs.Ends.{After, nothing_written, after_inputs, after_expressions, after_stores, after_run, over}
use Rattle.run.specs.Envs.{Env}
use Rattle.run.specs.Inputs.{input_type, input_halt_by, input_halt, halting_inputs}
use Rattle.run.specs.Rules.{is_of}
use Rattle.run.specs.Runs.{first_halt, or_else, halting, worked, run_over, by_passes, value_at, input_at}
use Rattle.run.specs.Statics.{known_before}
use Rattle.run.specs.Stores.{halting_stores, stores, store_count}
use Rattle.run.specs.Worth.{Values, worth, no_components}
use Rattle.run.proofs.Agree.{InputsFit, typing_none, agree, types_all, length_worked}
use Rattle.run.proofs.Places.{take_front}
use Rattle.run.proofs.Steps.{first_none_of, rest_none_of}

-- where none halts, no record does
none_halts : {X : Type 0} (g : X → Option Halt) (i : ℕ) (xs : List X) (h : ℕ) (x : X) → first_halt (λ _ y. g y) i xs ≡ None → slice_get xs h ≡ Some x → g x ≡ None
unfolding first_halt
none_halts g i [] h x none is = absurd (false≢true (ap is_some is))
none_halts g i (y ∷ xs) zero x none is = ap g (sym (ap (λ o. unwrap_or o y) is)) ∙ first_none_of (g y) _ none
none_halts g i (y ∷ xs) (suc h) x none is = none_halts g (suc i) xs h x (rest_none_of (g y) _ none) is

input_is : (ins : List Components) (k : ℕ) (t : TypeInner) → is_of (input_type ins k) t ≡ true → type_of (Number (get_or ins k no_components)) ≡ t
input_is [] k t is = absurd (false≢true is)
input_is (c ∷ ins) zero t is = (types_decided _ _).0 is
input_is (c ∷ ins) (suc k) t is = input_is ins k t is

fits_of : (b : Bool) → cond b None (Some WrongInput) ≡ None → b ≡ true
fits_of true is = refl
fits_of false is = absurd (false≢true (ap is_some (sym is)))

pub inputs_fit : (env : Env) (ins : List Components) (es : List Expression) → halting_inputs env ins es ≡ None → InputsFit env (input_at ins) es
inputs_fit env ins es none h e here t tag is =
    let fine : input_halt env ins e e.tag ≡ None = none_halts (λ x. input_halt env ins x x.tag) 0 es h e none here in
    input_is ins e.index t
    (fits_of _ (sym (ap (λ o. input_halt_by o (input_type ins e.index)) is) ∙ sym (ap (input_halt env ins e) tag) ∙ fine))

-- all that can halt a run, by the passes
abbrev pub pass_halt : Env → List Components → List Expression → List Statement → Option Halt
pass_halt env ins es ss =
    or_else (halting_inputs env ins es)
    (or_else (halting env (known_before env es) 0 es) (halting_stores env (known_before env es (length es)) 0 ss))

pub whole : (env : Env) (answers : Answers) → Typed answers → (ins : List Components) (es : List Expression) (ss : List Statement)
    → after_inputs (halting_inputs env ins es) (after_expressions env ss (run_over env (worth env answers (input_at ins)) [] es))
    ≡ after_stores ss (worked (worth env answers (input_at ins)) [] es) (pass_halt env ins es ss)
whole env answers typed ins es ss = by (halting_inputs env ins es) refl
  where
    by_expressions : InputsFit env (input_at ins) es → (o : Option Halt) → halting env (known_before env es) 0 es ≡ o
        → after_expressions env ss (by_passes o (worked (worth env answers (input_at ins)) [] es))
        ≡ after_stores ss (worked (worth env answers (input_at ins)) [] es) (or_else o (halting_stores env (known_before env es (length es)) 0 ss))
    by_expressions fits (Some h) is = refl
    by_expressions fits None is =
        let typing = types_all env answers typed (input_at ins) es fits es [] 0 refl refl (typing_none env es) is in
        let n : length (worked (worth env answers (input_at ins)) [] es) ≡ 0 + length es = length_worked (worth env answers (input_at ins)) es [] in
        let m : length (worked (worth env answers (input_at ins)) [] es) ≡ length es = omega arith in
        (λ k. after_stores ss (worked (worth env answers (input_at ins)) [] es) (halting_stores env (λ h. typing h k) 0 ss))
        ∙ ap (λ l. after_stores ss (worked (worth env answers (input_at ins)) [] es) (halting_stores env (known_before env es l) 0 ss)) m

    by : (o : Option Halt) → halting_inputs env ins es ≡ o
        → after_inputs o (after_expressions env ss (run_over env (worth env answers (input_at ins)) [] es))
        ≡ after_stores ss (worked (worth env answers (input_at ins)) [] es)
        (or_else o (or_else (halting env (known_before env es) 0 es) (halting_stores env (known_before env es (length es)) 0 ss)))
    by (Some h) is = refl
    by None is =
        let fits = inputs_fit env ins es is in
        ap (after_expressions env ss) (agree env answers typed (input_at ins) es fits es [] 0 refl refl (typing_none env es))
        ∙ by_expressions fits (halting env (known_before env es) 0 es) refl

-- where both lists are long enough
pub after_run_is : (env : Env) (answers : Answers) → Typed answers → (ins : List Components) (es : List Expression) (ss : List Statement) (cells store_cells : ℕ)
    → length es ≤ cells → store_count ss ≤ store_cells
    → after_run env answers ins es ss cells store_cells ≡ after_stores ss (worked (worth env answers (input_at ins)) [] es) (pass_halt env ins es ss)
after_run_is env answers typed ins es ss cells store_cells p q =
    ap (λ b. long (b || ltb store_cells (store_count ss))) (le-ltb cells (length es) p) ∙ ap long (le-ltb store_cells (store_count ss) q) ∙ whole env answers typed ins es ss
  where
    long : Bool → After
    long b =
        cond b (nothing_written (Err Full))
        (after_inputs (halting_inputs env ins es) (after_expressions env ss (run_over env (worth env answers (input_at ins)) [] es)))

length_stores : (at : Values) (ss : List Statement) → length (stores at ss) ≡ store_count ss
unfolding stores store_count
length_stores at [] = refl
length_stores at (Emit r ∷ ss) = length_stores at ss
length_stores at (ImageStore i c l v ∷ ss) = ap suc (length_stores at ss)

length_all : (w : Values → Expression → Value) (es : List Expression) → length (worked w [] es) ≡ length es
length_all w es = let n : length (worked w [] es) ≡ 0 + length es = length_worked w es [] in omega arith

-- what the second passes leave in the two lists
pub done_values : (w : Values → Expression → Value) (es : List Expression) (old vs : List Value) → vs ≡ worked w [] es ++ drop (length es) old → vs ≡ over (worked w [] es) old
done_values w es old vs is = is ∙ ap (λ n. worked w [] es ++ drop n old) (sym (length_all w es))

pub done_requests : (w : Values → Expression → Value) (es : List Expression) (ss : List Statement) (rest vs : List Value) (old rs : List Request)
    → vs ≡ worked w [] es ++ rest → rs ≡ stores (value_at (take (length es) vs)) ss ++ drop (store_count ss) old
    → rs ≡ over (stores (value_at (worked w [] es)) ss) old
done_requests w es ss rest vs old rs is made =
    made
    ∙ ap (λ l. stores (value_at l) ss ++ drop (store_count ss) old)
    (ap (take (length es)) is ∙ take_front (worked w [] es) rest (length es) (sym (length_all w es)))
    ∙ ap (λ n. stores (value_at (worked w [] es)) ss ++ drop n old) (sym (length_stores (value_at (worked w [] es)) ss))
