use Rattle.std.proofs.Common.{arith}
use Rattle.run.proofs.Steps.{working_on, working_all}
use Rattle.run.proofs.passes.fill_values.Goals as goal

pub loop-i-preserved : goal.loop-i-preserved
loop-i-preserved g c =
    let long = c.loop-i.invariant.long in
    working_on _ c.args.lists.expressions.now c.args.values.now c.loop-i.values c.loop-i.i _ _
    (omega arith) (omega arith) c.work_out.ensures c.loop-i.invariant

pub returns : goal.returns
returns g c = working_all _ c.args.lists.expressions.now c.args.values.now c.loop-i.values c.loop-i.i (omega arith) c.loop-i.invariant
