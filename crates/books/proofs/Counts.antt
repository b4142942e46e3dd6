-- How many ids find a record: as one more is put, and where it is none.
use Rattle.std.proofs.Common.{◌≡◌, ℕ, zero, suc, ◌+◌, ◌<◌, true, false, cond, eqb, is_some, Some, None, Option, sym, refl, ap, ◌∙◌, ⊎_elim, add_comm, add-one, arith}
use Rattle.std.proofs.lemmas.Map.{update_here, update_apart}
use Rattle.std.proofs.lemmas.Bool.{cases_eq}
use Rattle.std.specs.Map.{update}
use Rattle.books.specs.Books.{one, present}

module _ {R : Type 0} where
  pub present_more : (f : ℕ → Option R) (n : ℕ) → present f (n + 1) ≡ present f n + one (f n)
  unfolding present
  present_more f n = ap (present f) (add-one n) ∙ add_comm (one (f n)) (present f n)

  -- only the ids below n count
  present_same : (f g : ℕ → Option R) (n : ℕ) → ((k : ℕ) → k < n → f k ≡ g k) → present f n ≡ present g n
  unfolding present
  present_same f g zero h = refl
  present_same f g (suc n) h =
      let here : one (f n) ≡ one (g n) = ap one (h n (omega arith)) in
      omega (arith, present_same f g n (λ k l. h k (omega arith)))

  pub present_put : (f : ℕ → Option R) (id : ℕ) (item : R) (n : ℕ) → id < n → is_some (f id) ≡ false
      → present (update eqb f id (Some item)) n ≡ present f n + 1
  unfolding present
  present_put f id item zero l e = absurd (omega arith)
  present_put f id item (suc n) l e = ⊎_elim at (λ p. apart p (present_put f id item n (omega arith) e)) (cases_eq id n)
    where
      g : ℕ → Option R
      g = update eqb f id (Some item)

      at : id ≡ n → one (g n) + present g n ≡ one (f n) + present f n + 1
      at p =
          let here : one (g n) ≡ 1 = ap (λ k. one (g k)) (sym p) ∙ ap one (update_here f id (Some item)) in
          let was : one (f n) ≡ 0 = ap (λ k. one (f k)) (sym p) ∙ ap (λ b. cond b 1 0) e in
          omega (arith, present_same g f n (λ k h. update_apart f id (Some item) k (λ q. omega arith)))

      apart : (id ≡ n → ⊥) → present g n ≡ present f n + 1 → one (g n) + present g n ≡ one (f n) + present f n + 1
      apart p more = let here : one (g n) ≡ one (f n) = ap one (update_apart f id (Some item) n (λ q. p (sym q))) in omega arith

  pub present_empty : (f : ℕ → Option R) (n : ℕ) → ((k : ℕ) → f k ≡ None) → present f n ≡ 0
  unfolding present
  present_empty f zero h = refl
  present_empty f (suc n) h = let z : one (f n) ≡ 0 = ap one (h n) in omega (arith, present_empty f n h)

  one_none : (o : Option R) → one o ≡ 0 → o ≡ None
  one_none None p = refl
  one_none (Some x) p = absurd (omega arith)

  pub present_none : (f : ℕ → Option R) (n : ℕ) → present f n ≡ 0 → (id : ℕ) → id < n → f id ≡ None
  unfolding present
  present_none f zero p id l = absurd (omega arith)
  present_none f (suc n) p id l =
      ⊎_elim (λ e. ap f e ∙ one_none (f n) (omega arith)) (λ e. present_none f n (omega arith) id (omega arith)) (cases_eq id n)

  -- where some ids find a record, here is one
  pub present_some : (f : ℕ → Option R) (n : ℕ) → (present f n ≡ 0 → ⊥) → (id : ℕ) × (is_some (f id) ≡ true)
  unfolding present
  present_some f zero p = absurd (p refl)
  present_some f (suc n) p = by (f n) refl (present_some f n)
    where
      by : (o : Option R) → f n ≡ o → ((present f n ≡ 0 → ⊥) → (id : ℕ) × (is_some (f id) ≡ true)) → (id : ℕ) × (is_some (f id) ≡ true)
      by (Some x) e below = (n, ap is_some e)
      by None e below = let z : one (f n) ≡ 0 = ap one e in below (λ q. p (omega arith))
