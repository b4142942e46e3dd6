use Rattle.run.specs.Envs.{env_of}
use Rattle.run.specs.Runs.{input_at}
use Rattle.run.specs.Worth.{worth}
use Rattle.run.proofs.Steps.{Working}
use Rattle.run.proofs.passes.fill_values.Given as goal

abbrev pub invariant-loop-i : goal.invariant-loop-i
invariant-loop-i g l =
    Working (worth (env_of l.lists) (g.U.TextureUnit.answers l.unit) (input_at l.inputs)) l.lists.expressions.now l.initial.values l.values l.i
