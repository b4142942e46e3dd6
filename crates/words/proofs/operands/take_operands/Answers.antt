use Rattle.std.proofs.Common.{refl, ap, ◌∙◌, arith}
use lib.Count.{count_trailing_zeros}
use Rattle.words.specs.Operands.{taken}
use Rattle.words.proofs.Walks.{turn, falls}
use Rattle.words.proofs.Counts.{counted, within, small}
use Rattle.words.proofs.Waits.{waiting, ahead_turn, waiting_turn, waiting_none}
use Rattle.words.proofs.operands.take_operands.Goals as goal

pub with-operands-requires : goal.with-operands-requires
with-operands-requires c =
    let h = turn c.loop-image_ops.image_ops c.loop-image_ops-test.true c.loop-image_ops.invariant.0 in
    let w = within _ c.args.mask _ (counted _ _ c.args.mask _ _ _ h c.loop-image_ops.invariant.3 refl) in
    (omega (arith, w, c.requires.0), c.requires.1)

pub overflow_add-next : goal.overflow_add-next
overflow_add-next c =
    let h = turn c.loop-image_ops.image_ops c.loop-image_ops-test.true c.loop-image_ops.invariant.0 in
    record { fits = small _ c.args.mask _ (counted _ _ c.args.mask _ _ _ h c.loop-image_ops.invariant.3 c.words_at-next.ensures) }

pub loop-image_ops-smaller : goal.loop-image_ops-smaller
loop-image_ops-smaller c = falls 32 _ _ _ (turn c.loop-image_ops.image_ops c.loop-image_ops-test.true c.loop-image_ops.invariant.0)

pub loop-image_ops-preserved : goal.loop-image_ops-preserved
loop-image_ops-preserved c =
    let h = turn c.loop-image_ops.image_ops c.loop-image_ops-test.true c.loop-image_ops.invariant.0 in
    let l = falls 32 _ _ _ h in (
      omega (arith, l, c.loop-image_ops.invariant.0),
      c.with-operands.ensures
          ∙ ap (λ ops. taken (count_trailing_zeros 32 c.loop-image_ops.image_ops) c.args.words.now c.args.first c.loop-image_ops.next ops) c.loop-image_ops.invariant.1
          ∙ waiting_turn c.args.mask _ _ _ c.loop-image_ops.next c.args.words.now c.args.first h c.loop-image_ops.invariant.2,
      ahead_turn c.args.mask _ _ _ c.loop-image_ops.next _ h c.loop-image_ops.invariant.2 c.words_at-next.ensures,
      counted _ _ c.args.mask _ _ _ h c.loop-image_ops.invariant.3 c.words_at-next.ensures,
    )

pub returns : goal.returns
returns c =
    c.loop-image_ops.invariant.1
    ∙ ap (λ n. waiting n c.args.mask c.args.words.now c.args.first) c.loop-image_ops-test.false
    ∙ waiting_none c.args.mask c.args.words.now c.args.first
