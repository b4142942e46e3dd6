-- The operands of a mask are the words after it, in their order.
use Rattle.std.proofs.Common.{◌≡◌, ℕ, zero, suc, ◌+◌, Bool, true, false, cond, List, [], ◌∷◌, ◌++◌, length, get_or, Some, None, sym, refl, ap, ◌∙◌, append_assoc, arith}
use Rattle.std.proofs.lemmas.Bool.Decides.{nat_tests}
use Rattle.words.specs.declared.operands.IdRef.{IdRef}
use Rattle.words.specs.Masks.{has, over, words_at, words_below, words_needed}
use Rattle.words.specs.Operands.{id_at, grad_at, operand, operands_of}
use Rattle.words.specs.Laws.{one, two, spelled, placed}

-- n ids from index i on
abbrev run : List ℕ → ℕ → ℕ → ℕ → List IdRef
run ws first i zero = []
run ws first i (suc n) = id_at ws first i ∷ run ws first (i + 1) n

run_join : (ws : List ℕ) (first i a b : ℕ) → run ws first i a ++ run ws first (i + a) b ≡ run ws first i (a + b)
run_join ws first i zero b =
    let p : i + 0 ≡ i = omega arith in
    let q : b ≡ 0 + b = omega arith in
    ap (λ k. run ws first k b) p ∙ ap (λ k. run ws first i k) q
run_join ws first i (suc a) b =
    let p : i + suc a ≡ i + 1 + a = omega arith in
    let q : suc (a + b) ≡ suc a + b = omega arith in
    ap (λ k. id_at ws first i ∷ (run ws first (i + 1) a ++ run ws first k b)) p
    ∙ ap (λ r. id_at ws first i ∷ r) (run_join ws first (i + 1) a b)
    ∙ ap (λ k. run ws first i k) q

-- the ids of all words
run_more : (w : ℕ) (ws : List ℕ) (first i n : ℕ) → run (w ∷ ws) first (suc i) n ≡ run ws (first + 1) i n
run_more w ws first i zero = refl
run_more w ws first i (suc n) =
    let p : first + suc i ≡ first + 1 + i = omega arith in
    let q : suc i + 1 ≡ suc (i + 1) = omega arith in
    ap (λ k. record { id = get_or ws i 0; place = k } ∷ run (w ∷ ws) first (suc i + 1) n) p
    ∙ ap (λ k. id_at ws (first + 1) i ∷ run (w ∷ ws) first k n) q
    ∙ ap (λ r. id_at ws (first + 1) i ∷ r) (run_more w ws first (i + 1) n)

run_all : (ws : List ℕ) (first : ℕ) → run ws first 0 (length ws) ≡ placed first ws
run_all [] first = refl
run_all (w ∷ ws) first =
    let p : first + 0 ≡ first = omega arith in
    ap (λ k. record { id = w; place = k } ∷ run (w ∷ ws) first 1 (length ws)) p
    ∙ ap (λ r. record { id = w; place = first } ∷ r) (run_more w ws first 0 (length ws) ∙ run_all ws (first + 1))

-- the words below a bit and those below the next
abbrev taken_at : ℕ → ℕ → ℕ
taken_at m j = cond (has m j) (words_at j) 0

below_more : (m j : ℕ) → words_below m (suc j) ≡ words_below m j + taken_at m j
unfolding over
below_more m j = at (has m j)
  where
    at : (b : Bool) → cond b (words_below m j + words_at j) (words_below m j) ≡ words_below m j + cond b (words_at j) 0
    at true = refl
    at false = omega arith

-- from bit 15 on no bit takes words, and neither do bits 4, 5, 7 and 10 to 14
flat : (m j : ℕ) → words_at j ≡ 0 → words_below m (suc j) ≡ words_below m j
flat m j e = below_more m j ∙ at (has m j)
  where
    at : (b : Bool) → words_below m j + cond b (words_at j) 0 ≡ words_below m j
    at true = omega arith
    at false = omega arith

none_at : (k : ℕ) → words_at (15 + k) ≡ 0
none_at k = grind (arith, nat_tests)

flat_above : (m k : ℕ) → words_below m (15 + k) ≡ words_below m 15
flat_above m zero = refl
flat_above m (suc k) =
    let p : 15 + suc k ≡ suc (15 + k) = omega arith in
    ap (λ j. words_below m j) p ∙ flat m (15 + k) (none_at k) ∙ flat_above m k

flat_last : (m : ℕ) → words_below m 32 ≡ words_below m 10
flat_last m = flat_above m 17 ∙ flat m 14 refl ∙ flat m 13 refl ∙ flat m 12 refl ∙ flat m 11 refl ∙ flat m 10 refl

-- the ids of the words below a bit
abbrev before : ℕ → List ℕ → ℕ → ℕ → List IdRef
before m ws first j = run ws first 0 (words_below m j)

step : (m : ℕ) (ws : List ℕ) (first j : ℕ) (part : List IdRef) → part ≡ run ws first (words_below m j) (taken_at m j)
    → before m ws first j ++ part ≡ before m ws first (suc j)
step m ws first j part e =
    let w = words_below m j in
    let p : w ≡ 0 + w = omega arith in
    ap (λ r. before m ws first j ++ r) (e ∙ ap (λ k. run ws first k (taken_at m j)) p)
    ∙ run_join ws first 0 w (taken_at m j) ∙ ap (λ k. run ws first 0 k) (sym (below_more m j))

grow : (m : ℕ) (ws : List ℕ) (first j : ℕ) (part more : List IdRef) → part ≡ run ws first (words_below m j) (taken_at m j)
    → before m ws first j ++ (part ++ more) ≡ before m ws first (suc j) ++ more
grow m ws first j part more e = sym (append_assoc (before m ws first j) part more) ∙ ap (λ r. r ++ more) (step m ws first j part e)

skip : (m : ℕ) (ws : List ℕ) (first j : ℕ) (more : List IdRef) → words_at j ≡ 0
    → before m ws first j ++ more ≡ before m ws first (suc j) ++ more
skip m ws first j more e = ap (λ k. run ws first 0 k ++ more) (sym (flat m j e))

one_part : (m : ℕ) (ws : List ℕ) (first j : ℕ) → one (operand (id_at ws first) m j) ≡ run ws first (words_below m j) (cond (has m j) 1 0)
one_part m ws first j = at (has m j)
  where
    at : (b : Bool) → one (cond b (Some (id_at ws first (words_below m j))) None) ≡ run ws first (words_below m j) (cond b 1 0)
    at true = refl
    at false = refl

two_part : (m : ℕ) (ws : List ℕ) (first : ℕ) → two (operand (grad_at ws first) m 2) ≡ run ws first (words_below m 2) (cond (has m 2) 2 0)
two_part m ws first = at (has m 2)
  where
    at : (b : Bool) → two (cond b (Some (grad_at ws first (words_below m 2))) None) ≡ run ws first (words_below m 2) (cond b 2 0)
    at true = refl
    at false = refl

none_before : (m : ℕ) (ws : List ℕ) (first : ℕ) (more : List IdRef) → more ≡ before m ws first 0 ++ more
unfolding over
none_before m ws first more = refl

pub spells : (m : ℕ) (ws : List ℕ) (first : ℕ) → length ws ≡ words_needed m → spelled (operands_of m ws first) ≡ placed first ws
spells m ws first e =
    none_before m ws first _
    ∙ grow m ws first 0 _ _ (one_part m ws first 0)
    ∙ grow m ws first 1 _ _ (one_part m ws first 1)
    ∙ grow m ws first 2 _ _ (two_part m ws first)
    ∙ grow m ws first 3 _ _ (one_part m ws first 3)
    ∙ skip m ws first 4 _ refl ∙ skip m ws first 5 _ refl
    ∙ grow m ws first 6 _ _ (one_part m ws first 6)
    ∙ skip m ws first 7 _ refl
    ∙ grow m ws first 8 _ _ (one_part m ws first 8)
    ∙ step m ws first 9 _ (one_part m ws first 9)
    ∙ ap (λ k. run ws first 0 k) (sym (flat_last m) ∙ sym e) ∙ run_all ws first
