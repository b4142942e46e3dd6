-- One turn of the walk over a mask's set bits: the lowest is taken off, the others stay.
use Rattle.std.proofs.Common.{◌≡◌, ℕ, zero, suc, ◌+◌, ◌*◌, ◌/◌, ◌%◌, ◌^◌, ◌<◌, Bool, true, false, cond, eqb, ◌⊎◌, sym, refl, ap, ◌∙◌, subst, inl, inr, pow-suc, arith}
use Rattle.std.proofs.lemmas.Bool.{cases_order}
use Rattle.std.proofs.lemmas.Nat.{shr-shr, one_shl, pow_pos}
use lib.Bits.{bit_xor, differ, xor_step, xor_zero_r}
use lib.Count.{count_trailing_zeros, under}
use Rattle.words.specs.Masks.{has, over}

parity : (n : ℕ) → (n % 2 ≡ 0) ⊎ (n % 2 ≡ 1)
parity n = go (n % 2) (omega arith)
  where
    go : (d : ℕ) → d < 2 → (d ≡ 0) ⊎ (d ≡ 1)
    go zero h = inl refl
    go (suc zero) h = inr refl
    go (suc (suc d)) h = absurd (omega arith)

-- bits of a number and of its half
has_zero : (n : ℕ) → has n 0 ≡ eqb (n % 2) 1
unfolding has
has_zero n = let e : n / 1 ≡ n = omega arith in ap (λ x. eqb (x % 2) 1) e

has_suc : (n j : ℕ) → has n (suc j) ≡ has (n / 2) j
unfolding has
has_suc n j =
    let q : 1 + j ≡ suc j = omega arith in
    let e : n / 2 / 2 ^ j ≡ n / 2 ^ (1 + j) = shr-shr n 1 j in
    ap (λ x. eqb (x % 2) 1) (sym (e ∙ ap (λ i. n / 2 ^ i) q))

has_odd : (n : ℕ) → n % 2 ≡ 1 → has n 0 ≡ true
has_odd n e = has_zero n ∙ ap (λ d. eqb d 1) e

has_even : (n : ℕ) → n % 2 ≡ 0 → has n 0 ≡ false
has_even n e = has_zero n ∙ ap (λ d. eqb d 1) e

has_twice : (y j : ℕ) → has (y * 2) (suc j) ≡ has y j
has_twice y j = has_suc (y * 2) j ∙ ap (λ x. has x j) (let q : y * 2 / 2 ≡ y = omega arith in q)

pub has_none : (j : ℕ) → has 0 j ≡ false
has_none zero = has_even 0 refl
has_none (suc j) = has_suc 0 j ∙ has_none j

-- n without its bit t, which is its lowest
pub record Turn (k n t y : ℕ) : Type 0 where
  pub inside : t < k
  pub less : y + 2 ^ t ≡ n
  pub here : has n t ≡ true
  pub lowest : (j : ℕ) → j < t → has n j ≡ false
  pub gone : has y t ≡ false
  pub kept : (j : ℕ) → (j ≡ t → ⊥) → has y j ≡ has n j

tz_odd : (k n : ℕ) → n % 2 ≡ 1 → count_trailing_zeros (suc k) n ≡ 0
unfolding count_trailing_zeros
tz_odd k n e = ap (λ d. under d (count_trailing_zeros k (n / 2))) e

tz_even : (k n : ℕ) → n % 2 ≡ 0 → count_trailing_zeros (suc k) n ≡ suc (count_trailing_zeros k (n / 2))
unfolding count_trailing_zeros
tz_even k n e = ap (λ d. under d (count_trailing_zeros k (n / 2))) e

xor_odd : (n : ℕ) → n % 2 ≡ 1 → bit_xor n 1 ≡ n / 2 * 2
xor_odd n e =
    xor_step n 1 ∙ ap (λ d. bit_xor (n / 2) 0 * 2 + differ d 1) e ∙ omega (arith, xor_zero_r (n / 2))

xor_even : (n t : ℕ) → n % 2 ≡ 0 → bit_xor n (2 ^ suc t) ≡ bit_xor (n / 2) (2 ^ t) * 2
xor_even n t e =
    let p = pow-suc 2 t in
    let half : 2 ^ suc t / 2 ≡ 2 ^ t = omega (arith, p) in
    let rest : 2 ^ suc t % 2 ≡ 0 = omega (arith, p) in
    xor_step n (2 ^ suc t)
    ∙ ap (λ x. bit_xor (n / 2) x * 2 + differ (n % 2) (2 ^ suc t % 2)) half
    ∙ ap (λ x. bit_xor (n / 2) (2 ^ t) * 2 + differ x (2 ^ suc t % 2)) e
    ∙ ap (λ x. bit_xor (n / 2) (2 ^ t) * 2 + differ 0 x) rest ∙ omega arith

glue : (k n t y u x : ℕ) → u ≡ t → x ≡ y → Turn k n t y → Turn k n u x
glue k n t y u x p q h = subst (λ v. Turn k n v x) (sym p) (subst (λ v. Turn k n t v) (sym q) h)

even_turn : (k n t y : ℕ) → n % 2 ≡ 0 → Turn k (n / 2) t y → Turn (suc k) n (suc t) (y * 2)
even_turn k n t y e h = record {
  inside = let i = h.inside in omega arith;
  less = let l = h.less in omega (arith, pow-suc 2 t);
  here = has_suc n t ∙ h.here;
  lowest = lower;
  gone = has_twice y t ∙ h.gone;
  kept = same;
}
  where
    lower : (j : ℕ) → j < suc t → has n j ≡ false
    lower zero l = has_even n e
    lower (suc j) l = has_suc n j ∙ h.lowest j (omega arith)

    same : (j : ℕ) → (j ≡ suc t → ⊥) → has (y * 2) j ≡ has n j
    same zero d = has_even (y * 2) (omega arith) ∙ sym (has_even n e)
    same (suc j) d = has_twice y j ∙ h.kept j (λ q. d (omega arith)) ∙ sym (has_suc n j)

odd_turn : (k n : ℕ) → n % 2 ≡ 1 → Turn (suc k) n 0 (n / 2 * 2)
odd_turn k n e = record {
  inside = omega arith;
  less = omega arith;
  here = has_odd n e;
  lowest = λ j l. absurd (omega arith);
  gone = has_even (n / 2 * 2) (omega arith);
  kept = same;
}
  where
    same : (j : ℕ) → (j ≡ 0 → ⊥) → has (n / 2 * 2) j ≡ has n j
    same zero d = absurd (d refl)
    same (suc j) d = has_twice (n / 2) j ∙ sym (has_suc n j)

turn_of : (k n : ℕ) → 0 < n → n < 2 ^ k → Turn k n (count_trailing_zeros k n) (bit_xor n (2 ^ count_trailing_zeros k n))
turn_of zero n p h = absurd (omega arith)
turn_of (suc k) n p h = at (λ q r. turn_of k (n / 2) q r) (parity n)
  where
    at : (0 < n / 2 → n / 2 < 2 ^ k → Turn k (n / 2) (count_trailing_zeros k (n / 2)) (bit_xor (n / 2) (2 ^ count_trailing_zeros k (n / 2))))
        → (n % 2 ≡ 0) ⊎ (n % 2 ≡ 1) → Turn (suc k) n (count_trailing_zeros (suc k) n) (bit_xor n (2 ^ count_trailing_zeros (suc k) n))
    at rest (inl e) =
        let t = count_trailing_zeros k (n / 2) in
        glue (suc k) n (suc t) (bit_xor (n / 2) (2 ^ t) * 2) (count_trailing_zeros (suc k) n) (bit_xor n (2 ^ count_trailing_zeros (suc k) n))
        (tz_even k n e)
        (ap (λ u. bit_xor n (2 ^ u)) (tz_even k n e) ∙ xor_even n t e)
        (even_turn k n t _ e (rest (omega arith) (omega (arith, pow-suc 2 k))))
    at rest (inr e) =
        glue (suc k) n 0 (n / 2 * 2) (count_trailing_zeros (suc k) n) (bit_xor n (2 ^ count_trailing_zeros (suc k) n))
        (tz_odd k n e)
        (ap (λ u. bit_xor n (2 ^ u)) (tz_odd k n e) ∙ xor_odd n e)
        (odd_turn k n e)

-- the turn as the code writes it: `image_ops ^= 1 << image_ops.trailing_zeros()`
pub turn : (n : ℕ) → (n ≡ 0 → ⊥) → n < 2 ^ 32
    → Turn 32 n (count_trailing_zeros 32 n) (bit_xor n ((1 * 2 ^ count_trailing_zeros 32 n) % 2 ^ 32))
turn n z h =
    let s = turn_of 32 n (omega arith) h in
    rw (one_shl (count_trailing_zeros 32 n) 32 s.inside) s

pub falls : (k n t y : ℕ) → Turn k n t y → y < n
falls k n t y h = let l = h.less in omega (arith, pow_pos t)

pub over_none : {A : Type 0} (f : ℕ → A → A) (a : A) (n j : ℕ) → ((i : ℕ) → i < j → has n i ≡ false) → over f a n j ≡ a
unfolding over
over_none f a n zero h = refl
over_none f a n (suc j) h =
    ap (λ b. cond b (f j (over f a n j)) (over f a n j)) (h j (omega arith)) ∙ over_none f a n j (λ i l. h i (omega arith))

pub over_zero : {A : Type 0} (f : ℕ → A → A) (a : A) (j : ℕ) → over f a 0 j ≡ a
over_zero f a j = over_none f a 0 j (λ i l. has_none i)

over_step : {A : Type 0} (f : ℕ → A → A) (a : A) (n j : ℕ) (b : Bool) (x : A) → has n j ≡ b → over f a n j ≡ x
    → over f a n (suc j) ≡ cond b (f j x) x
unfolding over
over_step f a n j b x p q = ap (λ v. cond v (f j (over f a n j)) (over f a n j)) p ∙ ap (λ v. cond b (f j v) v) q

-- above the lowest bit, a turn moves f at that bit into the start
pub over_turn : {A : Type 0} (f : ℕ → A → A) (a : A) (k n t y : ℕ) → Turn k n t y → (j : ℕ) → t < j
    → over f a n j ≡ over f (f t a) y j
over_turn f a k n t y h zero l = absurd (omega arith)
over_turn f a k n t y h (suc j) l = at (over_turn f a k n t y h j) (cases_order t j)
  where
    below : (i : ℕ) → i < t → has y i ≡ false
    below i m = h.kept i (λ q. omega arith) ∙ h.lowest i m

    here : t ≡ j → over f a n (suc j) ≡ over f (f t a) y (suc j)
    here e =
        subst (λ v. over f a n (suc v) ≡ over f (f t a) y (suc v)) e (
        over_step f a n t true a h.here (over_none f a n t h.lowest)
        ∙ sym (over_step f (f t a) y t false (f t a) h.gone (over_none f (f t a) y t below)))

    at : (t < j → over f a n j ≡ over f (f t a) y j) → (t ≡ j) ⊎ ((t < j) ⊎ (j < t)) → over f a n (suc j) ≡ over f (f t a) y (suc j)
    at lower (inl e) = here e
    at lower (inr (inl m)) =
        over_step f a n j (has n j) (over f (f t a) y j) refl (lower m)
        ∙ sym (over_step f (f t a) y j (has n j) (over f (f t a) y j) (h.kept j (λ q. omega arith)) refl)
    at lower (inr (inr m)) = absurd (omega arith)
