-- Stores that do not halt a run: over longer lists and more values they do not either, and list the same requests.
use Rattle.std.proofs.Common.{◌≡◌, ℕ, suc, Bool, true, false, cond, List, [], ◌∷◌, ◌++◌, is_some as option_is_some, Some, None, Option, sym, refl, ap, ◌∙◌}
use Rattle.std.proofs.lemmas.Bool.{and_parts, and_from, false≢true}
use Rattle.records.specs.declared.handles.ExpressionHandle.{ExpressionHandle}
use Rattle.records.specs.declared.types.ScalarKind.{ScalarKind}
use Rattle.records.specs.declared.types.ScalarKind.TheVariants.{Sint}
use Rattle.records.specs.declared.types.VectorSize.TheVariants.{Quad}
use Rattle.records.specs.declared.types.TypeInner.{TypeInner}
use Rattle.records.specs.declared.types.TypeInner.TheVariants.{Scalar, Vector, Image}
use Rattle.records.specs.declared.statements.Statement.{Statement}
use Rattle.records.specs.declared.statements.Statement.TheVariants.{Emit, ImageStore}
use Rattle.units.specs.declared.values.Value.{Value}
use Rattle.run.specs.declared.passes.Halt.{Halt}
use Rattle.run.specs.Asked.{with_request}
use Rattle.run.specs.Envs.{Env}
use Rattle.run.specs.Laws.{Grows, StoresGrow}
use Rattle.run.specs.Rules.{is_of, is_int, place_type, layer_fits}
use Rattle.run.specs.Runs.{or_else, first_halt, types_of, value_at}
use Rattle.run.specs.Stores.{store_fits, inside_store, store_halt, halting_stores, store_request, store_request_of, stores}
use Rattle.run.specs.Types.{class_kind}
use Rattle.run.proofs.Again.{is_some, int_some, value_stays, type_stays, layer_stays}
use Rattle.run.proofs.Grown.{and_holds, one_holds, option_holds}
use Rattle.run.proofs.Steps.{first_none_of, rest_none_of}
use Rattle.run.proofs.Storing.{stores_turn}

-- a store with what it needs: it has that from more values too, and makes the same request
record Again (vs us : List Value) (i c : ExpressionHandle) (l : Option ExpressionHandle) (v : ExpressionHandle) : Type 0 where
  fits : store_fits (types_of (vs ++ us)) (types_of (vs ++ us) i.index) c l v ≡ true
  same : store_request (value_at (vs ++ us)) i c l v ≡ store_request (value_at vs) i c l v

module _ (vs us : List Value) where
  of_stays : (n : ℕ) (u : TypeInner) → is_of (types_of vs n) u ≡ true → is_of (types_of (vs ++ us) n) u ≡ true
  of_stays n u h = ap (λ o. is_of o u) (type_stays vs us n (is_some (types_of vs n) u h)) ∙ h

  int_stays : (n : ℕ) (of : ScalarKind → TypeInner) → is_int (types_of vs n) of ≡ true → is_int (types_of (vs ++ us) n) of ≡ true
  int_stays n of h = ap (λ o. is_int o of) (type_stays vs us n (int_some (types_of vs n) of h)) ∙ h

  layer_fits_stays : (a : Bool) (o : Option ExpressionHandle) → layer_fits (types_of vs) a o ≡ true → layer_fits (types_of (vs ++ us)) a o ≡ true
  layer_fits_stays a None h = h
  layer_fits_stays a (Some x) h = let both = and_parts a _ h in and_from a _ both.0 (of_stays x.index (Scalar Sint) both.1)

  again : (i c : ExpressionHandle) (l : Option ExpressionHandle) (v : ExpressionHandle) (o : Option TypeInner) → types_of vs i.index ≡ o
      → store_fits (types_of vs) o c l v ≡ true → Again vs us i c l v
  again i c l v (Some (Image d a class)) q h =
      let f1 = and_parts _ _ h in
      let f2 = and_parts _ _ f1.1 in
      let some : option_is_some (types_of vs i.index) ≡ true = ap option_is_some q in
      let image = value_stays vs us i.index some in
      let place = value_stays vs us c.index (int_some _ (place_type d) f1.0) in
      let layer = layer_stays vs us a l f2.0 in
      let texel = value_stays vs us v.index (is_some _ (Vector Quad (class_kind class)) f2.1) in
      record {
        fits =
            ap (λ o. store_fits (types_of (vs ++ us)) o c l v) (type_stays vs us i.index some ∙ q)
            ∙ and_from _ _ (int_stays c.index (place_type d) f1.0)
            (and_from _ _ (layer_fits_stays a l f2.0) (of_stays v.index (Vector Quad (class_kind class)) f2.1));
        same = cc;
      }
  again i c l v _ q h = absurd (false≢true h)

-- where nothing halts, both tests hold
tests_hold : (a b : Bool) (g h : Halt) → cond a (cond b None (Some g)) (Some h) ≡ None → (a ≡ true) × (b ≡ true)
tests_hold true true g h is = (refl, refl)
tests_hold true false g h is = absurd (false≢true (ap option_is_some (sym is)))
tests_hold false b g h is = absurd (false≢true (ap option_is_some (sym is)))

none_from : (a b : Bool) (g h : Halt) → a ≡ true → b ≡ true → cond a (cond b None (Some g)) (Some h) ≡ None
none_from a b g h p q = ap (λ x. cond x (cond b None (Some g)) (Some h)) p ∙ ap (λ x. cond x None (Some g)) q

module _ (env env' : Env) (grows : Grows env env') (vs us : List Value) where
  inside_store_stays : (i c : ExpressionHandle) (l : Option ExpressionHandle) (v : ExpressionHandle) → inside_store env i c l v ≡ true → inside_store env' i c l v ≡ true
  inside_store_stays i c l v =
      and_holds _ _ _ _ (one_holds env env' grows i) (and_holds _ _ _ _ (one_holds env env' grows c)
      (and_holds _ _ _ _ (option_holds env env' grows l) (one_holds env env' grows v)))

  one_stays : (j : ℕ) (s : Statement) → store_halt env (types_of vs) j s ≡ None
      → (store_halt env' (types_of (vs ++ us)) j s ≡ None) × (store_request_of (value_at (vs ++ us)) s ≡ store_request_of (value_at vs) s)
  one_stays j (Emit r) is = (refl, refl)
  one_stays j (ImageStore i c l v) is =
      let both = tests_hold (inside_store env i c l v) (store_fits (types_of vs) (types_of vs i.index) c l v) _ _ is in
      let more = again vs us i c l v (types_of vs i.index) refl both.1 in
      (none_from _ _ _ _ (inside_store_stays i c l v both.0) more.fits, ap Some more.same)

  all_stay : (j : ℕ) (ss : List Statement) → halting_stores env (types_of vs) j ss ≡ None
      → (halting_stores env' (types_of (vs ++ us)) j ss ≡ None) × (stores (value_at (vs ++ us)) ss ≡ stores (value_at vs) ss)
  unfolding first_halt stores
  all_stay j [] is = (refl, refl)
  all_stay j (s ∷ ss) is =
      let first = one_stays j s (first_none_of (store_halt env (types_of vs) j s) _ is) in
      let rest = all_stay (suc j) ss (rest_none_of (store_halt env (types_of vs) j s) _ is) in (
        ap (λ o. or_else o (halting_stores env' (types_of (vs ++ us)) (suc j) ss)) first.0 ∙ rest.0,
        stores_turn (value_at (vs ++ us)) s ss ∙ ap (λ o. with_request o (stores (value_at (vs ++ us)) ss)) first.1
            ∙ ap (with_request (store_request_of (value_at vs) s)) rest.1 ∙ sym (stores_turn (value_at vs) s ss),
      )

pub stores_grow : StoresGrow
stores_grow env env' vs us j ss grows is = all_stay env env' grows vs us j ss is
