-- One cell for each id: counting the records, and putting one more.
use Rattle.std.proofs.Common.{◌≡◌, ℕ, zero, suc, ◌+◌, ◌-◌, ◌<◌, ◌≤◌, false, cond, eqb, leb, List, [], ◌∷◌, length, get_or, take, drop, set, is_some, Some, None, Ok, Option, sym, refl, ap, ◌∙◌, ap₂, ⊎_elim, add-one, arith, length-set}
use mathlib.Core.Path.{fun_ext}
use Rattle.std.proofs.Math.Seq.{take-length}
use Rattle.std.proofs.lemmas.List.{get_or-set_same, get_or-set_other}
use Rattle.std.proofs.lemmas.Map.{update_here, update_apart}
use Rattle.std.proofs.lemmas.Bool.{cases_eq, cond-false, lt-leb, ne_eqb, or_from}
use Rattle.std.specs.Map.{update}
use Rattle.std.specs.List.{count_by}
use Rattle.std.proofs.lemmas.List.Sums.{count_by_more_no, count_by_more_yes}
use Rattle.books.specs.Books.{Book, one, present, count, taken, answer, added}
use Rattle.books.specs.Direct.{direct_held, direct_book}
use Rattle.books.specs.Laws.{present_less, direct_fits}
use Rattle.books.proofs.Counts.{present_more, present_put}

module _ {R : Type 0} where
  past_zero : (n : ℕ) (o : Option R) → cond (eqb (suc n) 0) None o ≡ o
  past_zero n o = cond-false (eqb (suc n) 0) None o (ne_eqb (suc n) 0 (λ z. omega arith))

  step : (c : Option R) (cs : List (Option R)) (n : ℕ) → n < length cs → (o : Option R) → get_or cs n None ≡ o
      → present (direct_held (c ∷ cs)) (suc n) ≡ count_by is_some (take n cs) → present (direct_held (c ∷ cs)) (suc n + 1) ≡ count_by is_some (take (n + 1) cs)
  step c cs n h None e below =
      let here : one (direct_held (c ∷ cs) (suc n)) ≡ 0 = ap one (past_zero n _ ∙ e) in
      omega (arith, present_more (direct_held (c ∷ cs)) (suc n), below, count_by_more_no is_some cs n None h (ap is_some e))
  step c cs n h (Some r) e below =
      let here : one (direct_held (c ∷ cs) (suc n)) ≡ 1 = ap one (past_zero n _ ∙ e) in
      omega (arith, present_more (direct_held (c ∷ cs)) (suc n), below, count_by_more_yes is_some cs n None h (ap is_some e))

  -- the records of the ids up to n stand in the n cells after the first
  front : (c : Option R) (cs : List (Option R)) (n : ℕ) → n ≤ length cs → present (direct_held (c ∷ cs)) (n + 1) ≡ count_by is_some (take n cs)
  front c cs zero h = omega (arith, present_less (direct_held (c ∷ cs)) 1 refl)
  front c cs (suc n) h =
      step c cs n h (get_or cs n None) refl (ap (present (direct_held (c ∷ cs))) (sym (add-one n)) ∙ front c cs n (omega arith))
      ∙ ap (λ k. count_by is_some (take k cs)) (add-one n)

  pub counts_records : (cs : List (Option R)) → count_by is_some (drop 1 cs) ≡ count (direct_book cs)
  unfolding present
  counts_records [] = refl
  counts_records (c ∷ cs) =
      sym (front c cs (length cs) (omega arith) ∙ ap (count_by is_some) (take-length cs)) ∙ ap (present (direct_held (c ∷ cs))) (add-one (length cs))

  held_put : (cs : List (Option R)) (id : ℕ) (item : R) → (id ≡ 0 → ⊥) → id < length cs
      → direct_held (set cs id (Some item)) ≡ update eqb (direct_held cs) id (Some item)
  held_put cs id item nz l = fun_ext (λ q. ⊎_elim (at q) (apart q) (cases_eq q id))
    where
      new : ℕ → Option R
      new = direct_held (set cs id (Some item))

      there : new id ≡ Some item
      there = cond-false (eqb id 0) None _ (ne_eqb id 0 nz) ∙ get_or-set_same cs id (Some item) None l

      at : (q : ℕ) → q ≡ id → new q ≡ update eqb (direct_held cs) id (Some item) q
      at q p = ap new p ∙ there ∙ sym (update_here (direct_held cs) id (Some item)) ∙ ap (update eqb (direct_held cs) id (Some item)) (sym p)

      apart : (q : ℕ) → (q ≡ id → ⊥) → new q ≡ update eqb (direct_held cs) id (Some item) q
      apart q p = ap (cond (eqb q 0) None) (get_or-set_other cs id q (Some item) None p) ∙ sym (update_apart (direct_held cs) id (Some item) q p)

  pub book_put : (cs : List (Option R)) (id : ℕ) (item : R) → (id ≡ 0 → ⊥) → id < length cs
      → direct_book (set cs id (Some item)) ≡ added (direct_book cs) id item
  book_put cs id item nz l =
      let over : (ℕ → Option R) → ℕ → Book R = λ held n. record { held = held; bound = n; limit = n - 1 } in
      ap₂ over (held_put cs id item nz l) (length-set cs id (Some item))

  pub count_put : (cs : List (Option R)) (id : ℕ) (item : R) → (id ≡ 0 → ⊥) → id < length cs → is_some (direct_held cs id) ≡ false
      → count (direct_book (set cs id (Some item))) ≡ count (direct_book cs) + 1
  count_put cs id item nz l e = ap count (book_put cs id item nz l) ∙ present_put (direct_held cs) id item (length cs) l e

  -- with one record more the book would still fit, so it is not full
  pub answer_ok : (cs : List (Option R)) (id : ℕ) (item : R) → (id ≡ 0 → ⊥) → id < length cs → is_some (direct_held cs id) ≡ false
      → answer (direct_book cs) id ≡ Ok tt
  answer_ok cs id item nz l e =
      let more = count_put cs id item nz l e in
      let fits = direct_fits (set cs id (Some item)) in
      let long = length-set cs id (Some item) in
      let room : count (direct_book cs) ≡ length cs - 1 → ⊥ = λ p. omega arith in
      let new : taken (direct_book cs) id ≡ false = or_from (eqb id 0) _ (ne_eqb id 0 nz) (or_from (leb (length cs) id) _ (lt-leb (length cs) id l) e) in
      cond-false (taken (direct_book cs) id) _ _ new ∙ cond-false (eqb (count (direct_book cs)) (length cs - 1)) _ _ (ne_eqb _ _ room)
