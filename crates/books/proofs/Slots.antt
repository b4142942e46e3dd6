-- What the search for an id comes to, where each record can be reached, and that a put keeps it so.
use Rattle.std.proofs.Common.{◌≡◌, ℕ, ◌<◌, ◌≤◌, true, false, ◌⊎◌, length, get_or, set, is_some, Some, None, Option, sym, refl, ap, ◌∙◌, subst, inl, inr, arith, length-set}
use Rattle.std.proofs.lemmas.List.{get_or-set_same, get_or-set_other, get_or_past}
use Rattle.std.proofs.lemmas.Bool.{both_ways, cases_eq, cases_lt, cases_order, eq-eqb, ne_eqb}
use Rattle.books.specs.declared.ring.Entry.{Entry}
use Rattle.books.specs.Books.{one}
use Rattle.books.specs.Probing.{Cells, probing_held}
use Rattle.books.specs.Ring.{home, rank, ends_at, Reached, Sought, Slot, filled}
use Rattle.books.proofs.Entries.{Alone, held_at, lacks, filled_all}
use Rattle.books.proofs.Order.{home_lt, rank_lt, rank_inj}

module _ {R : Type 0} where
  filled_in : (cs : Cells R) (k : ℕ) (e : Entry R) → get_or cs k None ≡ Some e → k < length cs
  filled_in cs k e p = by (cases_lt k (length cs))
    where
      by : (k < length cs) ⊎ (length cs ≤ k) → k < length cs
      by (inl l) = l
      by (inr h) = absurd (let past = get_or_past cs k None h in let z : ◌≡◌ {A = ℕ} 0 1 = cc in omega arith)

  -- the search for an id ends at the only cell that can hold it
  alone : (n : ℕ) (cs : Cells R) (id r : ℕ) → n ≡ length cs → Reached n cs → Sought n cs id r → Alone cs id r
  alone n cs id r nl reached so k e p q = by (cases_lt r n)
    where
      s : ℕ
      s = home n id

      inside : k < n
      inside = omega (arith, filled_in cs k e p)

      here : ends_at (get_or cs k None) id ≡ true
      here = ap (λ c. ends_at c id) p ∙ eq-eqb e.id id q

      -- were r before k, the search for e would end at r
      later : r < n → rank n s r < rank n s k → ends_at (get_or cs r None) id ≡ false
      later rl lt =
          let before : rank n (home n e.id) r < rank n (home n e.id) k = subst (λ x. rank n (home n x) r < rank n (home n x) k) (sym q) lt in
          subst (λ x. ends_at (get_or cs r None) x ≡ false) q (reached (record { i = k; e = e; here = p; j = r; inside = rl; before = before }))

      order : r < n → (rank n s k ≡ rank n s r) ⊎ ((rank n s k < rank n s r) ⊎ (rank n s r < rank n s k)) → k ≡ r
      order rl (inl eq) = rank_inj n s k r (omega (arith, home_lt n id (omega (arith, inside)))) inside rl eq
      order rl (inr (inl lt)) = absurd (both_ways _ (so.passes rl k inside lt) here)
      order rl (inr (inr gt)) = absurd (both_ways _ (later rl gt) so.ends)

      by : (r < n) ⊎ (n ≤ r) → k ≡ r
      by (inl rl) = order rl (cases_order (rank n s k) (rank n s r))
      by (inr rn) =
          let full : r ≡ n = omega (arith, so.within) in
          let lt = rank_lt n s k (omega (arith, home_lt n id (omega (arith, inside)))) inside in
          absurd (both_ways _ (so.all full k inside lt) here)

  busy : (o : Option (Entry R)) (id : ℕ) → ends_at o id ≡ false → one o ≡ 1
  busy None id p = absurd (both_ways true p refl)
  busy (Some e) id p = refl

  pub slot : (cs : Cells R) (id r : ℕ) → Reached (length cs) cs → Sought (length cs) cs id r → Slot cs id r
  slot cs id r reached so = record {
    sought = so;
    found = held_at cs id r (alone (length cs) cs id r refl reached so) so.ends;
    room = λ h. by h (cases_lt r (length cs));
  }
    where
      full : length cs ≤ r → filled cs ≡ length cs
      full past = filled_all cs (λ k l.
          let lt = rank_lt (length cs) (home (length cs) id) k (omega (arith, home_lt (length cs) id (omega arith))) l in
          busy (get_or cs k None) id (so.all (omega (arith, so.within)) k l lt))

      by : filled cs < length cs → (r < length cs) ⊎ (length cs ≤ r) → r < length cs
      by h (inl l) = l
      by h (inr past) = absurd (omega (arith, full past))

  -- a record in the cell at which the search for its id ends
  reached_more : (n : ℕ) (cs : Cells R) (i : ℕ) (e : Entry R) → i < length cs → is_some (probing_held cs e.id) ≡ false
      → i < n → Reached n cs → Sought n cs e.id i → Reached n (set cs i (Some e))
  reached_more n cs i e l free il reached so w = by (cases_eq w.j i) (cases_eq w.i i)
    where
      new : Cells R
      new = set cs i (Some e)

      was : (w.i ≡ i → ⊥) → get_or cs w.i None ≡ Some w.e
      was ne = sym (get_or-set_other cs i w.i (Some e) None ne) ∙ w.here

      is : w.i ≡ i → e ≡ w.e
      is eq =
          let same : Some e ≡ Some w.e = sym (get_or-set_same cs i (Some e) None l) ∙ ap (λ k. get_or new k None) (sym eq) ∙ w.here in
          cc

      apart : w.j ≡ i → (w.i ≡ i) ⊎ (w.i ≡ i → ⊥) → e.id ≡ w.e.id → ⊥
      apart ji (inl ii) q = omega (arith, w.before, ap (rank n (home n w.e.id)) (ji ∙ sym ii))
      apart ji (inr ii) q = lacks cs e.id free w.i w.e (was ii) (sym q)

      before : (w.i ≡ i) ⊎ (w.i ≡ i → ⊥) → ends_at (get_or cs w.j None) w.e.id ≡ false
      before (inl ii) =
          let q : e.id ≡ w.e.id = ap (λ (x : Entry R). x.id) (is ii) in
          let lt : rank n (home n e.id) w.j < rank n (home n e.id) i =
          subst (λ k. rank n (home n e.id) w.j < rank n (home n e.id) k) ii (subst (λ x. rank n (home n x) w.j < rank n (home n x) w.i) (sym q) w.before) in
          subst (λ x. ends_at (get_or cs w.j None) x ≡ false) q (so.passes il w.j w.inside lt)
      before (inr ii) = reached (record { i = w.i; e = w.e; here = was ii; j = w.j; inside = w.inside; before = w.before })

      by : (w.j ≡ i) ⊎ (w.j ≡ i → ⊥) → (w.i ≡ i) ⊎ (w.i ≡ i → ⊥) → ends_at (get_or new w.j None) w.e.id ≡ false
      by (inl ji) ii =
          ap (λ k. ends_at (get_or new k None) w.e.id) ji
          ∙ ap (λ c. ends_at c w.e.id) (get_or-set_same cs i (Some e) None l) ∙ ne_eqb e.id w.e.id (apart ji ii)
      by (inr ji) ii = ap (λ c. ends_at c w.e.id) (get_or-set_other cs i w.j (Some e) None ji) ∙ before ii

  pub reached_put : (cs : Cells R) (i : ℕ) (e : Entry R) → i < length cs → is_some (probing_held cs e.id) ≡ false
      → Reached (length cs) cs → Sought (length cs) cs e.id i → Reached (length (set cs i (Some e))) (set cs i (Some e))
  reached_put cs i e l free reached so =
      subst (λ n. Reached n (set cs i (Some e))) (sym (length-set cs i (Some e))) (reached_more (length cs) cs i e l free l reached so)
