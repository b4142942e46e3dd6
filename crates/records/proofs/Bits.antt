-- The two lowest bits of a number, and what setting one of them does.
use Rattle.std.proofs.Common.{◌≡◌, ℕ, zero, suc, ◌%◌, ◌<◌, true, eqb, sym, refl, ap, ◌∙◌, arith}
use lib.Bits.{bit_and, bit_or}
use Rattle.std.proofs.lemmas.Nat.{and_mod, or_mod, and_le_r}
use Rattle.records.specs.Flags.{contains, inserted, Sets, FlagsKept}

-- only the two lowest bits matter
contains_low : (n s : ℕ) → s < 4 → contains n s ≡ contains (n % 4) s
contains_low n s h =
    let low : bit_and n s % 4 ≡ bit_and n s = omega (arith, and_le_r n s) in
    let small : s % 4 ≡ s = omega arith in
    ap (λ x. eqb x s) (sym low ∙ and_mod n s 2 ∙ ap (bit_and (n % 4)) small)

inserted_low : (n s : ℕ) → s < 4 → inserted n s % 4 ≡ inserted (n % 4) s % 4
inserted_low n s h =
    let twice : n % 4 % 4 ≡ n % 4 = omega arith in
    or_mod n s 2 ∙ ap (λ x. bit_or x (s % 4)) (sym twice) ∙ sym (or_mod (n % 4) s 2)

after_low : (n s t : ℕ) → s < 4 → t < 4 → contains (inserted n s) t ≡ contains (inserted (n % 4) s) t
after_low n s t h k =
    contains_low (inserted n s) t k ∙ ap (λ x. contains x t) (inserted_low n s h) ∙ sym (contains_low (inserted (n % 4) s) t k)

abbrev Small : ℕ → ℕ → ℕ → Type 0
Small s t r = (contains (inserted r s) s ≡ true) × (contains (inserted r s) t ≡ contains r t)

four : (s t : ℕ) → Small s t 0 → Small s t 1 → Small s t 2 → Small s t 3 → (r : ℕ) → r < 4 → Small s t r
four s t a b c d zero h = a
four s t a b c d (suc zero) h = b
four s t a b c d (suc (suc zero)) h = c
four s t a b c d (suc (suc (suc zero))) h = d
four s t a b c d (suc (suc (suc (suc r)))) h = absurd (omega arith)

-- so four numbers decide for all
each : (s t : ℕ) → s < 4 → t < 4 → ((r : ℕ) → r < 4 → Small s t r) → Sets s t
each s t h k small n =
    let c = small (n % 4) (omega arith) in
    (after_low n s s h h ∙ c.0, after_low n s t h k ∙ c.1 ∙ sym (contains_low n t k))

pub flags_kept : FlagsKept
flags_kept = (
  each 1 2 (omega arith) (omega arith) (four 1 2 (refl, refl) (refl, refl) (refl, refl) (refl, refl)),
  each 2 1 (omega arith) (omega arith) (four 2 1 (refl, refl) (refl, refl) (refl, refl) (refl, refl)),
  refl,
  refl,
)
