use Rattle.std.proofs.Common.{sym, ◌∙◌}
use Rattle.run.specs.Envs.{env_of}
use Rattle.run.proofs.Fuel.{static_past, static_stated, static_made, below_then, below_else}
use Rattle.run.proofs.statics.+static_type.Goals as goal
use Rattle.run.proofs.statics.+static_type.Goals.{then-e-handle, else-e-handle}

pub returns-in_err-e : goal.returns-in_err-e
returns-in_err-e t c =
    c.from_residual.ensures
    ∙ sym (static_past (env_of c.args.lists) c.args.lists.expressions.now c.args.handle.index (sym c.expression_at.ensures ∙ c.in_err-e.was))

pub returns-in-Some : goal.returns-in-Some
returns-in-Some t c =
    static_stated (env_of c.args.lists) c.args.lists.expressions.now c.args.handle.index c.in_ok-e.e c.in-Some.result _
    (sym c.expression_at.ensures ∙ c.in_ok-e.was) c.in-Some.is c.type_at.ensures

pub returns : goal.returns
returns t c =
    static_made (env_of c.args.lists) c.args.lists.expressions.now c.args.handle.index c.in_ok-e.e c.if-e-handle.below _
    (sym c.expression_at.ensures ∙ c.in_ok-e.was) c.in_default.is
    (elim c.if-e-handle.branch [
      | then-e-handle w ↦ below_then _ _ c.if-e-handle.below _ w.if-e-handle.true (w.below-is ∙ w.static_type-below.ensures)
      | else-e-handle w ↦ below_else _ _ c.if-e-handle.below _ w.if-e-handle.false w.below-is
    ])
    c.static_tag.ensures
