-- The search for an id, from cell to cell.
use Rattle.std.proofs.Common.{◌≡◌, ℕ, ◌+◌, ◌<◌, false, length, get_or, None, sym, ap, ◌∙◌, subst, ⊎_elim, arith}
use Rattle.std.proofs.lemmas.List.{get_or_past}
use Rattle.std.proofs.lemmas.Bool.{cases_lt}
use Rattle.books.specs.Probing.{Cells}
use Rattle.books.specs.Ring.{home, following, rank, ends_at, Passes, Sought}
use Rattle.books.proofs.Order.{home_lt, rank_first, rank_inj, rank_next, following_lt}

-- m cells are passed, and cell i is the next one, unless all are passed
pub record Walk {R : Type 0} (n : ℕ) (cells : Cells R) (id i m : ℕ) : Type 0 where
  pub within : i < n
  pub at : m < n → rank n (home n id) i ≡ m
  pub passes : Passes n cells id m

module _ {R : Type 0} (n : ℕ) (cs : Cells R) (id : ℕ) where
  pub walk_from : (i m : ℕ) → 0 < n → i ≡ home n id → m ≡ 0 → Walk n cs id i m
  walk_from i m h e z = record {
    within = omega (arith, home_lt n id h);
    at = λ _. ap (rank n (home n id)) e ∙ rank_first n (home n id) ∙ sym z;
    passes = λ j l r. absurd (omega arith);
  }

  pub walk_on : (i k m : ℕ) → Walk n cs id i m → m < n → ends_at (get_or cs i None) id ≡ false → k ≡ following n i → Walk n cs id k (m + 1)
  walk_on i k m w l o e =
      let s = home_lt n id (omega arith) in
      let here = w.at l in
      subst (λ k. Walk n cs id k (m + 1)) (sym e) (record {
        within = following_lt n i (omega arith);
        at = λ h. rank_next n (home n id) i s w.within (omega arith) ∙ ap (λ k. k + 1) here;
        passes = λ j jl jr. ⊎_elim
            (λ lt. w.passes j jl lt)
            (λ ge. ap (λ k. ends_at (get_or cs k None) id) (rank_inj n (home n id) j i (omega arith) jl w.within (omega arith)) ∙ o)
            (cases_lt (rank n (home n id) j) m);
      })

  pub walk_past : length cs ≡ n → Passes n cs id n → Sought n cs id n
  walk_past e h = record {
    within = omega arith;
    ends = ap (λ c. ends_at c id) (get_or_past cs n None (omega arith));
    passes = λ h. absurd (omega arith);
    all = λ _. h;
  }
