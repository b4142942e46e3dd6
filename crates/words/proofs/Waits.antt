-- The walk that takes the operands: those of the bits that are left are still to come.
use Rattle.std.proofs.Common.{◌≡◌, ℕ, ◌+◌, ◌<◌, true, cond, eqb, ◌⊎◌, List, Some, None, Option, sym, refl, ap, ◌∙◌, subst, inl, inr}
use Rattle.std.proofs.lemmas.Bool.{both_ways, cases_eq, cases_order, eq-eqb, ne_eqb}
use Rattle.words.specs.declared.operands.ImageOperands.{ImageOperands}
use Rattle.words.specs.Masks.{has, over, add_words, words_at, words_below}
use Rattle.words.specs.Operands.{id_at, grad_at, operand, operands_of, taken}
use Rattle.words.proofs.Walks.{Turn, over_turn, over_none}

-- a bit that is left is a bit of the mask, and its operand comes after those of the lower bits that are left
abbrev pub Ahead : ℕ → ℕ → ℕ → Type 0
Ahead mask left next = (j : ℕ) → has left j ≡ true → (has mask j ≡ true) × (over add_words next left j ≡ words_below mask j)

abbrev wait : {X : Type 0} → (ℕ → X) → ℕ → ℕ → ℕ → Option X
wait read mask left j = cond (has left j) None (operand read mask j)

-- the operands of the bits that are not left
abbrev pub waiting : ℕ → ℕ → List ℕ → ℕ → ImageOperands
waiting left mask ws first = record {
  mask = mask;
  bias = wait (id_at ws first) mask left 0;
  lod = wait (id_at ws first) mask left 1;
  grad = wait (grad_at ws first) mask left 2;
  const_offset = wait (id_at ws first) mask left 3;
  sample = wait (id_at ws first) mask left 6;
  make_texel_available = wait (id_at ws first) mask left 8;
  make_texel_visible = wait (id_at ws first) mask left 9;
}

-- the lowest bit that is left is the next one
next_is : (mask n t y next : ℕ) → Turn 32 n t y → Ahead mask n next → words_below mask t ≡ next
next_is mask n t y next h a = sym (a t h.here).1 ∙ over_none add_words next n t h.lowest

pub ahead_turn : (mask n t y next w : ℕ) → Turn 32 n t y → Ahead mask n next → w ≡ words_at t → Ahead mask y (next + w)
ahead_turn mask n t y next w h a q j b = at (cases_eq j t)
  where
    set : (j ≡ t → ⊥) → has n j ≡ true
    set d = sym (h.kept j d) ∙ b

    above : (j ≡ t → ⊥) → t < j
    above d = by (cases_order j t)
      where
        by : (j ≡ t) ⊎ ((j < t) ⊎ (t < j)) → t < j
        by (inl e) = absurd (d e)
        by (inr (inl m)) = absurd (both_ways (has n j) (h.lowest j m) (set d))
        by (inr (inr m)) = m

    at : (j ≡ t) ⊎ (j ≡ t → ⊥) → (has mask j ≡ true) × (over add_words (next + w) y j ≡ words_below mask j)
    at (inl e) = absurd (both_ways (has y t) h.gone (subst (λ i. has y i ≡ true) e b))
    at (inr d) = ((a j (set d)).0, ap (λ v. over add_words (next + v) y j) q ∙ sym (over_turn add_words next 32 n t y h j (above d)) ∙ (a j (set d)).1)

field : {X : Type 0} (read : ℕ → X) (mask n t y next : ℕ) → Turn 32 n t y → Ahead mask n next → (j : ℕ)
    → cond (eqb t j) (Some (read next)) (wait read mask n j) ≡ wait read mask y j
field read mask n t y next h a j = at (cases_eq t j)
  where
    at : (t ≡ j) ⊎ (t ≡ j → ⊥) → cond (eqb t j) (Some (read next)) (wait read mask n j) ≡ wait read mask y j
    at (inl e) =
        ap (λ b. cond b (Some (read next)) (wait read mask n j)) (eq-eqb t j e)
        ∙ subst (λ i. Some (read next) ≡ wait read mask y i) e (
        sym (ap (λ b. cond b None (operand read mask t)) h.gone
        ∙ ap (λ b. cond b (Some (read (words_below mask t))) None) (a t h.here).0
        ∙ ap (λ i. Some (read i)) (next_is mask n t y next h a)))
    at (inr d) =
        ap (λ b. cond b (Some (read next)) (wait read mask n j)) (ne_eqb t j d)
        ∙ ap (λ b. cond b None (operand read mask j)) (sym (h.kept j (λ e. d (sym e))))

pub waiting_turn : (mask n t y next : ℕ) (ws : List ℕ) (first : ℕ) → Turn 32 n t y → Ahead mask n next
    → taken t ws first next (waiting n mask ws first) ≡ waiting y mask ws first
waiting_turn mask n t y next ws first h a =
    let bias = field (id_at ws first) mask n t y next h a 0 in
    let lod = field (id_at ws first) mask n t y next h a 1 in
    let grad = field (grad_at ws first) mask n t y next h a 2 in
    let offset = field (id_at ws first) mask n t y next h a 3 in
    let sample = field (id_at ws first) mask n t y next h a 6 in
    let available = field (id_at ws first) mask n t y next h a 8 in
    let visible = field (id_at ws first) mask n t y next h a 9 in
    cc

pub waiting_none : (mask : ℕ) (ws : List ℕ) (first : ℕ) → waiting 0 mask ws first ≡ operands_of mask ws first
unfolding has
waiting_none mask ws first = refl
