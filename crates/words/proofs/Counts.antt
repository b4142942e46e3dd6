-- How many words a mask's operands take: never fewer than counted so far, never more than two for a bit.
use Rattle.std.proofs.Common.{◌≡◌, ℕ, zero, suc, ◌+◌, ◌*◌, ◌^◌, ◌<◌, ◌≤◌, Bool, true, false, cond, sym, ap, ◌∙◌, arith}
use Rattle.std.proofs.lemmas.Bool.Decides.{nat_tests}
use Rattle.words.specs.Masks.{has, over, add_words, words_at, words_needed}
use Rattle.words.proofs.Walks.{Turn, over_turn}

few_at : (j : ℕ) → words_at j ≤ 2
few_at j = grind (arith, nat_tests)

over_grows : (a n j : ℕ) → a ≤ over add_words a n j
unfolding over
over_grows a n zero = omega arith
over_grows a n (suc j) = at (has n j) (over_grows a n j)
  where
    at : (b : Bool) → a ≤ over add_words a n j → a ≤ cond b (add_words j (over add_words a n j)) (over add_words a n j)
    at true h = omega arith
    at false h = h

over_few : (a n j : ℕ) → over add_words a n j ≤ a + 2 * j
unfolding over
over_few a n zero = omega arith
over_few a n (suc j) = at (has n j) (over_few a n j)
  where
    at : (b : Bool) → over add_words a n j ≤ a + 2 * j → cond b (add_words j (over add_words a n j)) (over add_words a n j) ≤ a + 2 * suc j
    at true h = let w = few_at j in sum (over add_words a n j) (words_at j) h w
      where
        sum : (x w : ℕ) → x ≤ a + 2 * j → w ≤ 2 → x + w ≤ a + 2 * suc j
        sum x w h l = omega arith
    at false h = omega arith

-- the words counted after a turn, and those still to count, are those of the mask
pub counted : (words w mask n t y : ℕ) → Turn 32 n t y → over add_words words n 32 ≡ words_needed mask → w ≡ words_at t
    → over add_words (words + w) y 32 ≡ words_needed mask
counted words w mask n t y h e q =
    ap (λ v. over add_words (words + v) y 32) q ∙ sym (over_turn add_words words 32 n t y h 32 h.inside) ∙ e

pub within : (a mask y : ℕ) → over add_words a y 32 ≡ words_needed mask → a ≤ words_needed mask
within a mask y e = omega (arith, over_grows a y 32)

pub small : (a mask y : ℕ) → over add_words a y 32 ≡ words_needed mask → a < 2 ^ 64
small a mask y e = omega (arith, over_grows a y 32, over_few 0 mask 32)
