-- The order of n cells in a ring, from one of them on.
use Rattle.std.proofs.Common.{◌≡◌, ℕ, ◌+◌, ◌<◌, ◌≤◌, mod-lt, arith}
use Rattle.std.proofs.lemmas.Bool.Decides.{nat_tests}
use Rattle.books.specs.Ring.{home, following, rank}

pub home_lt : (n id : ℕ) → 0 < n → home n id < n
unfolding home
home_lt n id h = mod-lt _ {m = n} h

pub rank_first : (n s : ℕ) → rank n s s ≡ 0
unfolding rank
rank_first n s = grind (arith, nat_tests)

pub rank_lt : (n s i : ℕ) → s ≤ n → i < n → rank n s i < n
unfolding rank
rank_lt n s i a b = grind (arith, nat_tests)

pub rank_inj : (n s i j : ℕ) → s ≤ n → i < n → j < n → rank n s i ≡ rank n s j → i ≡ j
unfolding rank
rank_inj n s i j a b c e = grind (arith, nat_tests)

pub rank_next : (n s i : ℕ) → s < n → i < n → rank n s i + 1 < n → rank n s (following n i) ≡ rank n s i + 1
unfolding rank
rank_next n s i a b c = grind (arith, nat_tests)

pub following_lt : (n i : ℕ) → 0 < n → following n i < n
following_lt n i h = grind (arith, nat_tests)
