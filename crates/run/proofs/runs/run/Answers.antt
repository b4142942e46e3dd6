use Rattle.std.proofs.Common.{sym, ap, ◌∙◌, arith}
use Rattle.run.specs.Ends.{After, after_stores, over}
use Rattle.run.proofs.Steps.{none_of, some_of}
use Rattle.run.proofs.Whole.{after_run_is, done_values, done_requests}
use Rattle.run.proofs.runs.run.Goals as goal

pub returns-in-Err : goal.returns-in-Err
returns-in-Err g c =
    let e = after_run_is _ (g.U.TextureUnit.answers c.args.unit.now) (g.U.TextureUnit.typed c.args.unit.now) c.args.inputs.now
    c.args.lists.expressions.now c.args.lists.statements.now _ _ (omega arith) (omega arith)
    ∙ ap (after_stores c.args.lists.statements.now _) (some_of _ c.in-Err.halt (sym c.in-Err.is ∙ c.check.ensures)) in
    record {
      answer = c.end.ensures ∙ sym (ap (λ (a : After). a.answer) e);
      written = sym (ap (λ (a : After). over a.values c.args.values.now) e);
      listed = sym (ap (λ (a : After). over a.requests c.args.requests.now) e);
    }

pub returns : goal.returns
returns g c =
    let e = after_run_is _ (g.U.TextureUnit.answers c.args.unit.now) (g.U.TextureUnit.typed c.args.unit.now) c.args.inputs.now
    c.args.lists.expressions.now c.args.lists.statements.now _ _ (omega arith) (omega arith)
    ∙ ap (after_stores c.args.lists.statements.now _) (none_of _ (sym c.in_default.is ∙ c.check.ensures)) in
    record {
      answer = sym (ap (λ (a : After). a.answer) e);
      written = done_values _ _ _ _ c.fill_values.ensures ∙ sym (ap (λ (a : After). over a.values c.args.values.now) e);
      listed =
          done_requests _ _ _ _ _ _ _ c.fill_values.ensures c.fill_stores.ensures
          ∙ sym (ap (λ (a : After). over a.requests c.args.requests.now) e);
    }
