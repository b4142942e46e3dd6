use Rattle.std.proofs.Common.{sym, ap, ◌∙◌, arith}
use Rattle.words.specs.Masks.{over, add_words}
use Rattle.words.proofs.Walks.{turn, falls, over_zero}
use Rattle.words.proofs.Counts.{counted, small}
use Rattle.words.proofs.masks.mask_words.Goals as goal

pub overflow_add-words : goal.overflow_add-words
overflow_add-words c =
    let h = turn c.loop-image_ops.image_ops c.loop-image_ops-test.true c.loop-image_ops.invariant.0 in
    record { fits = small _ c.args.mask _ (counted _ _ c.args.mask _ _ _ h c.loop-image_ops.invariant.1 c.words_at-words.ensures) }

pub loop-image_ops-smaller : goal.loop-image_ops-smaller
loop-image_ops-smaller c = falls 32 _ _ _ (turn c.loop-image_ops.image_ops c.loop-image_ops-test.true c.loop-image_ops.invariant.0)

pub loop-image_ops-preserved : goal.loop-image_ops-preserved
loop-image_ops-preserved c =
    let h = turn c.loop-image_ops.image_ops c.loop-image_ops-test.true c.loop-image_ops.invariant.0 in
    let l = falls 32 _ _ _ h in
    (omega (arith, l, c.loop-image_ops.invariant.0), counted _ _ c.args.mask _ _ _ h c.loop-image_ops.invariant.1 c.words_at-words.ensures)

pub returns : goal.returns
returns c =
    sym (over_zero add_words c.loop-image_ops.words 32)
    ∙ ap (λ n. over add_words c.loop-image_ops.words n 32) (sym c.loop-image_ops-test.false)
    ∙ c.loop-image_ops.invariant.1
