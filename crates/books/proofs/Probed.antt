-- A probing book with one record more, and one over free cells.
use Rattle.std.proofs.Common.{◌≡◌, ℕ, ◌+◌, ◌<◌, false, eqb, leb, length, get_or, set, is_some, Some, None, Ok, Option, sym, refl, ap, ◌∙◌, subst, ap₂, ⊎_elim, arith, length-set}
use mathlib.Core.Path.{fun_ext}
use Rattle.std.proofs.lemmas.Map.{update_apart}
use Rattle.std.proofs.lemmas.Bool.{cond-false, lt-leb, ne_eqb, or_from}
use Rattle.std.specs.Map.{update}
use Rattle.books.specs.declared.ring.Entry.{Entry}
use Rattle.books.specs.Books.{Book, count, taken, answer, added, empty_book, Outside}
use Rattle.books.specs.Laws.{none_from}
use Rattle.books.specs.Probing.{Cells, probing_bound, probing_held, probing_book}
use Rattle.books.specs.Ring.{item_of, Reached, Sought, Slot, filled}
use Rattle.books.proofs.Counts.{present_put, present_empty}
use Rattle.books.proofs.Entries.{absent, says_put, filled_put, filled_none}
use Rattle.books.proofs.Slots.{reached_put}

module _ {R : Type 0} where
  -- what a probing book keeps true of its cells and of how many it uses
  pub record Kept (cs : Cells R) (used : ℕ) : Type 0 where
    pub reached : Reached (length cs) cs
    pub inside : (id : ℕ) → Outside probing_bound id → is_some (probing_held cs id) ≡ false
    pub counted : used ≡ count (probing_book cs)
    pub busy : used ≡ filled cs

  -- a new record, and the free cell for it
  pub record Fresh (cs : Cells R) (i : ℕ) (e : Entry R) : Type 0 where
    pub legal : (e.id ≡ 0 → ⊥) × (e.id < probing_bound)
    pub within : i < length cs
    pub free : get_or cs i None ≡ None
    pub new : is_some (probing_held cs e.id) ≡ false
    pub sought : Sought (length cs) cs e.id i

  pub fresh : (cs : Cells R) (i : ℕ) (e : Entry R) → Slot cs e.id i → is_some (get_or cs i None) ≡ false
      → filled cs < length cs → (e.id ≡ 0 → ⊥) → e.id < probing_bound → Fresh cs i e
  fresh cs i e slot n room nz lt =
      let free = none_from (get_or cs i None) n in
      record {
        legal = (nz, lt);
        within = slot.room room;
        free = free;
        new = ap is_some (slot.found ∙ ap item_of free);
        sought = slot.sought;
      }

  held_put : (cs : Cells R) (i : ℕ) (e : Entry R) → Fresh cs i e
      → (id : ℕ) → probing_held (set cs i (Some e)) id ≡ update eqb (probing_held cs) e.id (Some e.item) id
  held_put cs i e f = says_put cs i e f.within f.free f.new

  pub book_put : (cs new : Cells R) (i : ℕ) (e : Entry R) → Fresh cs i e → new ≡ set cs i (Some e)
      → probing_book new ≡ added (probing_book cs) e.id e.item
  book_put cs new i e f is =
      let over : (ℕ → Option R) → ℕ → Book R = λ held n. record { held = held; bound = probing_bound; limit = n } in
      ap probing_book is ∙ ap₂ over (fun_ext (held_put cs i e f)) (length-set cs i (Some e))

  inside_put : (cs : Cells R) (i : ℕ) (e : Entry R) → Fresh cs i e
      → ((id : ℕ) → Outside probing_bound id → is_some (probing_held cs id) ≡ false)
      → (id : ℕ) → Outside probing_bound id → is_some (probing_held (set cs i (Some e)) id) ≡ false
  inside_put cs i e f inside id o =
      let apart : id ≡ e.id → ⊥ = λ z. ⊎_elim (λ y. f.legal.0 (sym z ∙ y)) (λ y. omega (arith, f.legal.1)) o in
      ap is_some (held_put cs i e f id ∙ update_apart (probing_held cs) e.id (Some e.item) id apart) ∙ inside id o

  pub kept_put : (cs new : Cells R) (i : ℕ) (e : Entry R) (used : ℕ) → Fresh cs i e → new ≡ set cs i (Some e)
      → Kept cs used → Kept new (used + 1)
  kept_put cs new i e used f is kept =
      let reaches = reached_put cs i e f.within f.new kept.reached f.sought in
      let lies = inside_put cs i e f kept.inside in
      let more =
      ap count (book_put cs (set cs i (Some e)) i e f refl)
      ∙ present_put (probing_held cs) e.id e.item probing_bound f.legal.1 f.new in
      let counts = ap (λ n. n + 1) kept.counted ∙ sym more in
      let fills = ap (λ n. n + 1) kept.busy ∙ sym (filled_put cs i e f.within f.free) in
      subst (λ cells. Kept cells (used + 1)) (sym is) (record { reached = reaches; inside = lies; counted = counts; busy = fills })

  pub answer_ok : (cs : Cells R) (i : ℕ) (e : Entry R) → Fresh cs i e → count (probing_book cs) < length cs
      → answer (probing_book cs) e.id ≡ Ok tt
  answer_ok cs i e f room =
      let free : taken (probing_book cs) e.id ≡ false =
      or_from (eqb e.id 0) _ (ne_eqb e.id 0 f.legal.0) (
      or_from (leb probing_bound e.id) _ (lt-leb probing_bound e.id f.legal.1) f.new) in
      cond-false (taken (probing_book cs) e.id) _ _ free
      ∙ cond-false (eqb (count (probing_book cs)) (length cs)) _ _ (ne_eqb _ _ (λ z. omega arith))

  -- cells that are all free
  abbrev Free : Cells R → Type 0
  Free cs = (i : ℕ) → get_or cs i None ≡ None

  no_entry : (e : Entry R) → None ≡ Some e → ⊥
  no_entry e p = let z : ◌≡◌ {A = ℕ} 0 1 = cc in omega arith

  held_none : (cs : Cells R) → Free cs → (id : ℕ) → probing_held cs id ≡ None
  held_none cs h id = absent cs id (λ k e p _. no_entry e (sym (h k) ∙ p))

  pub book_empty : (cs : Cells R) → Free cs → probing_book cs ≡ empty_book probing_bound (length cs)
  book_empty cs h =
      ap (λ (held : ℕ → Option R). record { held = held; bound = probing_bound; limit = length cs }) (fun_ext (held_none cs h))

  pub kept_empty : (cs : Cells R) → Free cs → Kept cs 0
  kept_empty cs h =
      let reaches : Reached (length cs) cs = λ w. absurd (no_entry w.e (sym (h w.i) ∙ w.here)) in
      let counts = sym (present_empty (probing_held cs) probing_bound (held_none cs h)) in
      record {
        reached = reaches;
        inside = λ id _. ap is_some (held_none cs h id);
        counted = counts;
        busy = sym (filled_none cs h);
      }
