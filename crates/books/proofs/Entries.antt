-- The map that cells hold, by what stands in which cell.
use Rattle.std.proofs.Common.{◌≡◌, ℕ, zero, suc, ◌+◌, ◌<◌, Bool, true, false, cond, eqb, [], ◌∷◌, length, get_or, set, is_some, Some, None, sym, refl, ap, ◌∙◌, arith}
use Rattle.std.proofs.lemmas.List.{get_or_past}
use Rattle.std.proofs.lemmas.Bool.{both_ways, cond-true, cond-false, eq-eqb, ne_eqb, eqb-true}
use Rattle.std.proofs.lemmas.Bool.Decides.{nat_tests}
use Rattle.std.specs.Map.{update}
use Rattle.books.specs.declared.ring.Entry.{Entry}
use Rattle.books.specs.Books.{one}
use Rattle.books.specs.Probing.{Cells, says, probing_held}
use Rattle.books.specs.Ring.{ends_at, item_of, filled}

turned : {X : Type 0} (q a : ℕ) (x z : X) → cond (eqb q a) x z ≡ cond (eqb a q) x z
turned q a x z = grind (arith, nat_tests)

swapped : {X : Type 0} (q a b : ℕ) (x y z : X) → (a ≡ b → ⊥) → cond (eqb q b) y (cond (eqb a q) x z) ≡ cond (eqb a q) x (cond (eqb q b) y z)
swapped q a b x y z ne = grind (arith, nat_tests)

module _ {R : Type 0} where
  -- cell i, if any, is the only one that holds the id
  abbrev pub Alone : Cells R → ℕ → ℕ → Type 0
  Alone cs id i = (k : ℕ) (e : Entry R) → get_or cs k None ≡ Some e → e.id ≡ id → k ≡ i

  pub held_at : (cs : Cells R) (id i : ℕ) → Alone cs id i → ends_at (get_or cs i None) id ≡ true
      → probing_held cs id ≡ item_of (get_or cs i None)
  unfolding probing_held
  held_at [] id i h o = refl
  held_at (None ∷ cs) id zero h o =
      held_at cs id (length cs) (λ k e p q. absurd (omega (arith, h (suc k) e p q))) (ap (λ c. ends_at c id) (get_or_past cs (length cs) None (omega arith)))
      ∙ ap item_of (get_or_past cs (length cs) None (omega arith))
  held_at (Some e ∷ cs) id zero h o = cond-true (eqb id e.id) _ _ (eq-eqb id e.id (sym (eqb-true e.id id o)))
  held_at (None ∷ cs) id (suc i) h o = held_at cs id i (λ k e p q. omega (arith, h (suc k) e p q)) o
  held_at (Some e ∷ cs) id (suc i) h o =
      cond-false (eqb id e.id) _ _ (ne_eqb id e.id (λ q. omega (arith, h zero e refl (sym q))))
      ∙ held_at cs id i (λ k d p q. omega (arith, h (suc k) d p q)) o

  pub absent : (cs : Cells R) (id : ℕ) → ((k : ℕ) (e : Entry R) → get_or cs k None ≡ Some e → e.id ≡ id → ⊥)
      → probing_held cs id ≡ None
  absent cs id h =
      let past = get_or_past cs (length cs) None (omega arith) in
      held_at cs id (length cs) (λ k e p q. absurd (h k e p q)) (ap (λ c. ends_at c id) past) ∙ ap item_of past

  -- no cell holds an id that the map lacks
  pub lacks : (cs : Cells R) (id : ℕ) → is_some (probing_held cs id) ≡ false
      → (k : ℕ) (e : Entry R) → get_or cs k None ≡ Some e → e.id ≡ id → ⊥
  unfolding probing_held
  lacks [] id n k e p q = let z : ◌≡◌ {A = ℕ} 0 1 = cc in omega arith
  lacks (c ∷ cs) id n zero e p q =
      both_ways _ n (ap (λ x. is_some (says x id (probing_held cs id))) p ∙ ap is_some (cond-true (eqb id e.id) _ _ (eq-eqb id e.id (sym q))))
  lacks (None ∷ cs) id n (suc k) e p q = lacks cs id n k e p q
  lacks (Some c ∷ cs) id n (suc k) e p q = lacks cs id (other (eqb id c.id) n) k e p q
    where
      other : (b : Bool) → is_some (cond b (Some c.item) (probing_held cs id)) ≡ false → is_some (probing_held cs id) ≡ false
      other true m = absurd (both_ways true m refl)
      other false m = m

  pub says_put : (cs : Cells R) (i : ℕ) (e : Entry R) → i < length cs → get_or cs i None ≡ None
      → is_some (probing_held cs e.id) ≡ false
      → (q : ℕ) → probing_held (set cs i (Some e)) q ≡ update eqb (probing_held cs) e.id (Some e.item) q
  unfolding probing_held
  says_put [] i e l p n q = absurd (omega arith)
  says_put (c ∷ cs) zero e l p n q =
      ap (λ x. cond (eqb q e.id) (Some e.item) (says x q (probing_held cs q))) (sym p) ∙ turned q e.id _ _
  says_put (None ∷ cs) (suc i) e l p n q = says_put cs i e (omega arith) p n q
  says_put (Some c ∷ cs) (suc i) e l p n q =
      let apart : e.id ≡ c.id → ⊥ = λ z. lacks (Some c ∷ cs) e.id n zero c refl (sym z) in
      let rest : is_some (probing_held cs e.id) ≡ false = ap is_some (sym (cond-false (eqb e.id c.id) _ _ (ne_eqb _ _ apart))) ∙ n in
      ap (cond (eqb q c.id) (Some c.item)) (says_put cs i e (omega arith) p rest q) ∙ swapped q e.id c.id _ _ _ apart

  pub filled_put : (cs : Cells R) (i : ℕ) (e : Entry R) → i < length cs → get_or cs i None ≡ None
      → filled (set cs i (Some e)) ≡ filled cs + 1
  unfolding filled
  filled_put [] i e l p = absurd (omega arith)
  filled_put (c ∷ cs) zero e l p = let z : one c ≡ 0 = ap one p in omega arith
  filled_put (c ∷ cs) (suc i) e l p = omega (arith, filled_put cs i e (omega arith) p)

  pub filled_all : (cs : Cells R) → ((k : ℕ) → k < length cs → one (get_or cs k None) ≡ 1) → filled cs ≡ length cs
  unfolding filled
  filled_all [] h = refl
  filled_all (c ∷ cs) h = omega (arith, h 0 (omega arith), filled_all cs (λ k l. h (suc k) (omega arith)))

  pub filled_none : (cs : Cells R) → ((k : ℕ) → get_or cs k None ≡ None) → filled cs ≡ 0
  unfolding filled
  filled_none [] h = refl
  filled_none (c ∷ cs) h = let z : one c ≡ 0 = ap one (h 0) in omega (arith, filled_none cs (λ k. h (suc k)))
