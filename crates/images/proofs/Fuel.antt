-- Steps enough: a base lies below.
use Rattle.std.proofs.Common.{◌≡◌, ℕ, zero, suc, ◌<◌, Bool, true, false, cond, ltb, Ok, Err, Result, refl, arith}
use Rattle.std.specs.List.{slice_get}
use Rattle.std.specs.Option.{ok_or}
use Rattle.std.proofs.lemmas.Bool.{ltb-true}
use Rattle.records.specs.declared.refusals.Error.{Error}
use Rattle.records.specs.declared.refusals.Error.TheVariants.{Mismatch}
use Rattle.records.specs.declared.handles.TypeHandle.{TypeHandle}
use Rattle.records.specs.declared.expressions.Expression.{Expression}
use Rattle.records.specs.declared.expressions.ExpressionTag.{ExpressionTag}
use Rattle.records.specs.declared.expressions.ExpressionTag.TheVariants as tags
use Rattle.records.specs.Refusals.{and_then}
use Rattle.images.specs.Used.{Used}
use Rattle.images.specs.Finds.{image_type_by, image_type_in, image_type}

abbrev Below : Type 0
Below = ℕ → Result TypeHandle Error

cond_same : (f g : Below) (b h : ℕ) → (b < h → f b ≡ g b) → cond (ltb b h) (f b) (Err Mismatch) ≡ cond (ltb b h) (g b) (Err Mismatch)
cond_same f g b h e = at (ltb b h) (λ t. e (ltb-true b h t))
  where
    at : (r : Bool) → (r ≡ true → f b ≡ g b) → cond r (f b) (Err Mismatch) ≡ cond r (g b) (Err Mismatch)
    at true q = q refl
    at false q = refl

-- only an element's base is asked for
by_same : (f g : Below) (u : Used) (place h : ℕ) (e : Expression) (t : ExpressionTag) → (e.base.index < h → f e.base.index ≡ g e.base.index)
    → image_type_by f u place h e t ≡ image_type_by g u place h e t
by_same f g u place h e tags.Access same = cond_same f g e.base.index h same
by_same f g u place h e _ same = refl

then_same : (r : Result Expression Error) (f g : Expression → Result TypeHandle Error) → ((e : Expression) → f e ≡ g e) → and_then r f ≡ and_then r g
then_same (Ok e) f g same = same e
then_same (Err e) f g same = refl

pub enough : (k m : ℕ) (u : Used) (place h : ℕ) → h < k → h < m → image_type_in k u place h ≡ image_type_in m u place h
unfolding image_type_in
enough zero m u place h p q = absurd (omega arith)
enough (suc k) zero u place h p q = absurd (omega arith)
enough (suc k) (suc m) u place h p q =
    then_same (ok_or (slice_get u.expressions h) Mismatch) _ _ (λ e.
    by_same (image_type_in k u place) (image_type_in m u place) u place h e e.tag
    (λ l. enough k m u place e.base.index (omega arith) (omega arith)))

-- as the code goes: the record, and the type of its base by the same rule
pub image_type_is : (u : Used) (place h : ℕ)
    → image_type u place h ≡ and_then (ok_or (slice_get u.expressions h) Mismatch) (λ e. image_type_by (image_type u place) u place h e e.tag)
unfolding image_type_in
image_type_is u place h =
    then_same (ok_or (slice_get u.expressions h) Mismatch) _ _ (λ e.
    by_same (image_type_in h u place) (image_type u place) u place h e e.tag
    (λ l. enough h (suc e.base.index) u place e.base.index l (omega arith)))
