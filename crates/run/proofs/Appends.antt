-- Laws over a list in two parts.
use Rattle.std.proofs.Common.{◌≡◌, ℕ, suc, ◌+◌, List, [], ◌∷◌, ◌++◌, length, Some, None, Ok, Err, Option, sym, refl, ap, ◌∙◌, arith}
use Rattle.records.specs.declared.statements.Statement.TheVariants.{Emit, ImageStore}
use Rattle.units.specs.declared.values.Value.{Value}
use Rattle.units.specs.declared.requests.Request.{Request}
use Rattle.run.specs.declared.passes.Halt.{Halt}
use Rattle.run.specs.Asked.{request_of, with_request, asked}
use Rattle.run.specs.Laws.{goes_on, RunAppends, AskedAppends, StoresAppend, StoreCountsAdd, StoreHaltsAppend}
use Rattle.run.specs.Rules.{Sight, seen}
use Rattle.run.specs.Runs.{Progress, proceeds, run_over, types_of, value_at, or_else, first_halt}
use Rattle.run.specs.Stores.{store_halt, store_request_of, stores, store_count}
use Rattle.run.proofs.Storing.{stores_turn}

proceeds_on : (s : Sight) (i : ℕ) (p : Progress) (rest : List Value → Progress) → proceeds s i (goes_on p rest) ≡ goes_on (proceeds s i p) rest
proceeds_on (Ok t) i p rest = refl
proceeds_on (Err miss) i p rest = refl

pub run_appends : RunAppends
unfolding run_over
run_appends env w vs [] fs = refl
run_appends env w vs (e ∷ es) fs =
    ap (proceeds (seen env (types_of vs) e) (length vs)) (run_appends env w (vs ++ w (value_at vs) e ∷ []) es fs)
    ∙ proceeds_on (seen env (types_of vs) e) (length vs) _ (λ us. run_over env w us fs)

request_on : (o : Option Request) (rs ss : List Request) → with_request o (rs ++ ss) ≡ with_request o rs ++ ss
request_on None rs ss = refl
request_on (Some q) rs ss = refl

pub asked_appends : AskedAppends
unfolding asked
asked_appends at [] fs = refl
asked_appends at (e ∷ es) fs = ap (with_request (request_of at e)) (asked_appends at es fs) ∙ request_on (request_of at e) (asked at es) (asked at fs)

pub stores_append : StoresAppend
unfolding stores
stores_append at [] ts = refl
stores_append at (s ∷ ss) ts =
    stores_turn at s (ss ++ ts) ∙ ap (with_request (store_request_of at s)) (stores_append at ss ts)
    ∙ request_on (store_request_of at s) (stores at ss) (stores at ts) ∙ ap (λ rs. rs ++ stores at ts) (sym (stores_turn at s ss))

pub store_counts_add : StoreCountsAdd
unfolding store_count
store_counts_add [] ts = omega arith
store_counts_add (Emit r ∷ ss) ts = store_counts_add ss ts
store_counts_add (ImageStore i c l v ∷ ss) ts = omega (arith, store_counts_add ss ts)

or_else_on : (o m n : Option Halt) → or_else o (or_else m n) ≡ or_else (or_else o m) n
or_else_on None m n = refl
or_else_on (Some h) m n = refl

-- the first halt of a list of any records
pub first_appends : {X : Type 0} (f : ℕ → X → Option Halt) (i : ℕ) (xs ys : List X)
    → first_halt f i (xs ++ ys) ≡ or_else (first_halt f i xs) (first_halt f (i + length xs) ys)
unfolding first_halt
first_appends f i [] ys = let n : i ≡ i + 0 = omega arith in ap (λ k. first_halt f k ys) n
first_appends f i (x ∷ xs) ys =
    let n : suc i + length xs ≡ i + suc (length xs) = omega arith in
    ap (or_else (f i x)) (first_appends f (suc i) xs ys ∙ ap (λ k. or_else (first_halt f (suc i) xs) (first_halt f k ys)) n)
    ∙ or_else_on (f i x) (first_halt f (suc i) xs) (first_halt f (i + suc (length xs)) ys)

pub store_halts_append : StoreHaltsAppend
store_halts_append env tys j ss ts = first_appends (store_halt env tys) j ss ts
