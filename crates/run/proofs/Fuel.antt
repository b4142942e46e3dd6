-- Steps enough: a base lies below.
use Rattle.std.proofs.Common.{◌≡◌, ℕ, zero, suc, ◌<◌, ◌≤◌, Bool, true, false, cond, ltb, List, Some, None, Option, sym, refl, ap, ◌∙◌, arith}
use Rattle.std.specs.List.{slice_get}
use Rattle.std.proofs.lemmas.Bool.{ltb-true, cond_below, cond_above}
use Rattle.records.specs.declared.handles.TypeHandle.{TypeHandle}
use Rattle.records.specs.declared.types.TypeInner.{TypeInner}
use Rattle.records.specs.declared.expressions.Expression.{Expression}
use Rattle.run.specs.Envs.{Env}
use Rattle.run.specs.Types.{on}
use Rattle.run.specs.Rules.{Known}
use Rattle.run.specs.Statics.{static_tag, static_of, static_in, static}

below_same : (f g : Known) (b h : ℕ) → (b < h → f b ≡ g b) → cond (ltb b h) (f b) None ≡ cond (ltb b h) (g b) None
below_same f g b h e = at (ltb b h) (λ t. e (ltb-true b h t))
  where
    at : (r : Bool) → (r ≡ true → f b ≡ g b) → cond r (f b) None ≡ cond r (g b) None
    at true q = q refl
    at false q = refl

on_same : (o : Option Expression) (f g : Expression → Option TypeInner) → ((e : Expression) → f e ≡ g e) → on o f ≡ on o g
on_same None f g h = refl
on_same (Some e) f g h = h e

pub enough : (k m : ℕ) (env : Env) (es : List Expression) (h : ℕ) → h < k → h < m → static_in k env es h ≡ static_in m env es h
unfolding static_in
enough zero m env es h p q = absurd (omega arith)
enough (suc k) zero env es h p q = absurd (omega arith)
enough (suc k) (suc m) env es h p q =
    on_same (slice_get es h) _ _ (λ e.
    ap (λ base. static_of env base e e.result)
    (below_same (static_in k env es) (static_in m env es) e.base.index h
    (λ l. enough k m env es e.base.index (omega arith) (omega arith))))

-- an expression by its record
pub static_is : (env : Env) (es : List Expression) (h : ℕ) (e : Expression) → slice_get es h ≡ Some e
    → static env es h ≡ static_of env (cond (ltb e.base.index h) (static env es e.base.index) None) e e.result
unfolding static_in
static_is env es h e is =
    ap (λ o. on o (λ x. static_of env (cond (ltb x.base.index h) (static_in h env es x.base.index) None) x x.result)) is
    ∙ ap (λ base. static_of env base e e.result)
    (below_same (static_in h env es) (static env es) e.base.index h
    (λ l. enough h (suc e.base.index) env es e.base.index l (omega arith)))

pub static_past : (env : Env) (es : List Expression) (h : ℕ) → slice_get es h ≡ None → static env es h ≡ None
unfolding static_in
static_past env es h is = ap (λ o. on o (λ x. static_of env (cond (ltb x.base.index h) (static_in h env es x.base.index) None) x x.result)) is

-- as the code goes: a record read from the list, whose type is stated, or is made of its base's
pub static_stated : (env : Env) (es : List Expression) (h : ℕ) (e : Expression) (r : TypeHandle) (t : Option TypeInner) → slice_get es h ≡ Some e
    → e.result ≡ Some r → t ≡ env.types r.index → t ≡ static env es h
static_stated env es h e r t here is made =
    made ∙ sym (static_is env es h e here ∙ ap (static_of env (cond (ltb e.base.index h) (static env es e.base.index) None) e) is)

pub static_made : (env : Env) (es : List Expression) (h : ℕ) (e : Expression) (below t : Option TypeInner) → slice_get es h ≡ Some e
    → e.result ≡ None → below ≡ cond (ltb e.base.index h) (static env es e.base.index) None
    → t ≡ static_tag env below e e.tag → t ≡ static env es h
static_made env es h e below t here is base made =
    made ∙ ap (λ o. static_tag env o e e.tag) base
    ∙ sym (static_is env es h e here ∙ ap (static_of env (cond (ltb e.base.index h) (static env es e.base.index) None) e) is)

pub below_then : (b h : ℕ) (below t : Option TypeInner) → b < h → below ≡ t → below ≡ cond (ltb b h) t None
below_then b h below t l e = e ∙ cond_below b h t None l

pub below_else : (b h : ℕ) (below t : Option TypeInner) → h ≤ b → below ≡ None → below ≡ cond (ltb b h) t None
below_else b h below t l e = cond_above b h t None below l e
