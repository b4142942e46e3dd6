use Rattle.std.proofs.Common.{rules}
use Rattle.records.specs.declared.handles.ExpressionHandle.{ExpressionHandle}
use Rattle.records.specs.declared.types.TypeInner.TheVariants.{Scalar}
use Rattle.run.specs.Rules.{no_handle, is_of}
use Rattle.run.specs.Statics.{known_by}
use Rattle.run.proofs.before.Before.composes.Goals as goal

pub returns : goal.returns
returns c = c.of_first.ensures no_handle (λ (h : ExpressionHandle). is_of (known_by c.args.self h.index) (Scalar c.args.kind)) (λ x r e. search rules)
