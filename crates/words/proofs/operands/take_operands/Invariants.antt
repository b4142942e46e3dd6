use Rattle.std.proofs.Common.{◌≡◌, ◌^◌, ◌<◌}
use Rattle.words.specs.Masks.{over, add_words, words_needed}
use Rattle.words.proofs.Waits.{Ahead, waiting}
use Rattle.words.proofs.operands.take_operands.Given as goal

-- the operands of the bits that are left are still to come, and there are words enough for them
abbrev pub invariant-loop-image_ops : goal.invariant-loop-image_ops
invariant-loop-image_ops l = (l.image_ops < 2 ^ 32)
    × (l.operands ≡ waiting l.image_ops l.mask l.words l.first)
    × Ahead l.mask l.image_ops l.next
    × (over add_words l.next l.image_ops 32 ≡ words_needed l.mask)

abbrev pub decreases-loop-image_ops : goal.decreases-loop-image_ops
decreases-loop-image_ops l = l.image_ops
