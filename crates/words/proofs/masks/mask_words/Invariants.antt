use Rattle.std.proofs.Common.{◌≡◌, ◌^◌, ◌<◌}
use Rattle.words.specs.Masks.{over, add_words, words_needed}
use Rattle.words.proofs.masks.mask_words.Given as goal

-- the words counted so far, and those of the bits that are left, are those of the mask
abbrev pub invariant-loop-image_ops : goal.invariant-loop-image_ops
invariant-loop-image_ops l = (l.image_ops < 2 ^ 32) × (over add_words l.words l.image_ops 32 ≡ words_needed l.mask)

abbrev pub decreases-loop-image_ops : goal.decreases-loop-image_ops
decreases-loop-image_ops l = l.image_ops
