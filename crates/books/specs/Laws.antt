-- Proofs that the two books are lawful. They stand here since a book hands them over as its `laws`; there is nothing in
-- them to believe.
use Rattle.std.specs.Prelude.{◌≡◌, ℕ, zero, suc, ◌-◌, ◌≤◌, true, false, cond, List, [], ◌∷◌, length, get_or, is_some, Some, None, Option, ◌==◌, slice_index_or, refl}
use Rattle.std.proofs.Math.Path.{ap}
use Rattle.std.proofs.Common.{inl, inr}
use native.Mathlib.Omega.{arith}
use Rattle.std.proofs.lemmas.Bool.{both_ways, cond-true, eq-eqb}
use Rattle.std.proofs.lemmas.List.{get_or_past}
use Rattle.books.specs.Books.{one, present, count, Outside}
use Rattle.books.specs.Direct.{direct_held}
use Rattle.books.specs.Probing.{Cells, probing_book}
use Rattle.books.specs.Ring.{filled}

pub one_le : {X : Type 0} (o : Option X) → one o ≤ 1
one_le None = omega arith
one_le (Some x) = omega arith

module _ {R : Type 0} where
  -- id 0 has no record
  pub present_less : (f : ℕ → Option R) (n : ℕ) → f 0 ≡ None → present f n ≤ n - 1
  unfolding present
  present_less f zero e = omega arith
  present_less f (suc zero) e = let z : one (f 0) ≡ 0 = ap one e in omega arith
  present_less f (suc (suc n)) e = omega (arith, one_le (f (suc n)), present_less f (suc n) e)

  pub direct_inside : (cs : List (Option R)) (id : ℕ) → Outside (length cs) id → direct_held cs id ≡ None
  direct_inside cs id (inl e) = cond-true (id == 0) None (slice_index_or cs id None) (eq-eqb id 0 e)
  direct_inside cs id (inr h) =
      let past : get_or cs id None ≡ None = get_or_past cs id None h in
      elim (id == 0) as (λ b. cond b None (slice_index_or cs id None) ≡ None) [ true ↦ refl | false ↦ past ]

  pub direct_fits : (cs : List (Option R)) → present (direct_held cs) (length cs) ≤ length cs - 1
  direct_fits cs = present_less (direct_held cs) (length cs) refl

  pub none_from : (o : Option R) → is_some o ≡ false → o ≡ None
  none_from None e = refl
  none_from (Some x) e = absurd (both_ways true e refl)

  pub filled_le : (cs : Cells R) → filled cs ≤ length cs
  unfolding filled
  filled_le [] = omega arith
  filled_le (c ∷ cs) = omega (arith, one_le c, filled_le cs)

  pub probing_fits : (cs : Cells R) (used : ℕ) → used ≡ count (probing_book cs) → used ≡ filled cs
      → count (probing_book cs) ≤ length cs
  probing_fits cs used counted busy = omega (arith, filled_le cs)
