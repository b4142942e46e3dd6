use Rattle.std.proofs.Common.{rules}
use Rattle.run.specs.Envs.{env_of}
use Rattle.run.specs.Rules.{no_handle, inside_one}
use Rattle.run.proofs.lists.Lists.has_components.Goals as goal

pub returns : goal.returns
returns c = c.of_first.ensures no_handle (inside_one (env_of c.args.self)) (λ x r e. search rules)
