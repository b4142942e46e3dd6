use Rattle.std.proofs.Common.{sym, ap, ◌∙◌, arith, rules}
use Rattle.run.specs.Runs.{or_halt}
use Rattle.run.proofs.Steps.{first_on, first_here, first_none}
use Rattle.run.proofs.checks.check_each.Goals as goal

pub returns-in_err-check : goal.returns-in_err-check
returns-in_err-check g c f tells =
    let found = tells _ _ _ c.check.ensures ∙ ap (λ x. or_halt (f c.loop-i.i x)) c.index-items-i.is in
    let halts = first_here f c.args.items.now c.loop-i.i _ c.in_err-check.field-0.0 _ (omega arith) (sym c.in_err-check.was ∙ found) (c.loop-i.invariant f tells) in
    search rules

pub loop-i-preserved : goal.loop-i-preserved
loop-i-preserved g c f tells =
    let found = tells _ _ _ c.check.ensures ∙ ap (λ x. or_halt (f c.loop-i.i x)) c.index-items-i.is in
    first_on f c.args.items.now c.loop-i.i _ _ (omega arith) (sym c.in_ok-check.was ∙ found) (c.loop-i.invariant f tells)

pub returns : goal.returns
returns g c f tells = first_none f c.args.items.now c.loop-i.i _ (omega arith) (c.loop-i.invariant f tells)
