use Rattle.std.proofs.Common.{◌≡◌, ℕ, zero, suc, Bool, true, false, cond, ◌&&◌, sym, refl, ap, ◌∙◌, arith}
use Rattle.words.specs.declared.opcodes.OperandRule.{OperandRule}
use Rattle.words.specs.Masks.{has, over, also_permits, permits, supports}
use Rattle.words.proofs.Walks.{Turn, turn, falls, over_turn, over_zero}
use Rattle.words.proofs.opcodes.OperandRule.supports.Goals as goal

-- a bit that is not permitted decides, whatever comes after it
refused : (rule : OperandRule) (n j : ℕ) → over (also_permits rule) false n j ≡ false
unfolding over
refused rule n zero = refl
refused rule n (suc j) = at (has n j) (refused rule n j)
  where
    at : (b : Bool) → over (also_permits rule) false n j ≡ false
        → cond b (over (also_permits rule) false n j && permits rule j) (over (also_permits rule) false n j) ≡ false
    at true h = ap (λ ok. ok && permits rule j) h
    at false h = h

-- the lowest bit first
first : (rule : OperandRule) (b : Bool) (n t y : ℕ) → Turn 32 n t y → permits rule t ≡ b → supports rule n ≡ over (also_permits rule) b y 32
first rule b n t y h e = over_turn (also_permits rule) true 32 n t y h 32 h.inside ∙ ap (λ v. over (also_permits rule) v y 32) e

pub returns-then-not-permits : goal.returns-then-not-permits
returns-then-not-permits c =
    let h = turn c.loop-image_ops.image_ops c.loop-image_ops-test.true c.loop-image_ops.invariant.0 in
    sym (first _ false _ _ _ h (sym c.if-not-permits.ensures) ∙ refused _ _ 32) ∙ c.loop-image_ops.invariant.1

pub loop-image_ops-smaller : goal.loop-image_ops-smaller
loop-image_ops-smaller c = falls 32 _ _ _ (turn c.loop-image_ops.image_ops c.loop-image_ops-test.true c.loop-image_ops.invariant.0)

pub loop-image_ops-preserved : goal.loop-image_ops-preserved
loop-image_ops-preserved c =
    let h = turn c.loop-image_ops.image_ops c.loop-image_ops-test.true c.loop-image_ops.invariant.0 in
    let l = falls 32 _ _ _ h in
    (omega (arith, l, c.loop-image_ops.invariant.0), sym (first _ true _ _ _ h (sym c.if-not-permits.ensures)) ∙ c.loop-image_ops.invariant.1)

pub returns : goal.returns
returns c = sym (over_zero (also_permits c.args.self) true 32) ∙ ap (λ n. supports c.args.self n) (sym c.loop-image_ops-test.false) ∙ c.loop-image_ops.invariant.1
