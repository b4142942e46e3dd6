use Rattle.std.proofs.Common.{◌≡◌, ◌^◌, ◌<◌}
use Rattle.words.specs.Masks.{supports}
use Rattle.words.proofs.opcodes.OperandRule.supports.Given as goal

-- what is left of the mask decides
abbrev pub invariant-loop-image_ops : goal.invariant-loop-image_ops
invariant-loop-image_ops l = (l.image_ops < 2 ^ 32) × (supports l.self l.image_ops ≡ supports l.self l.mask)

abbrev pub decreases-loop-image_ops : goal.decreases-loop-image_ops
decreases-loop-image_ops l = l.image_ops
