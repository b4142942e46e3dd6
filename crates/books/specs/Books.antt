-- What an id book means, and what its calls answer. A book is over records of one kind, R.
use Rattle.std.specs.Prelude.{◌≡◌, ℕ, zero, suc, ◌+◌, ◌≤◌, Bool, false, cond, ◌||◌, ◌⊎◌, is_some, is_ok, Some, None, Ok, Err, Option, Result, ◌==◌, nat_eq, nat_le}
use Rattle.std.specs.Map.{update}
use Rattle.records.specs.declared.refusals.Error.{Error}
use Rattle.records.specs.declared.refusals.Error.TheVariants.{InvalidResultId, Full}

-- What each id finds; legal ids are 1 up to the bound less one; the limit is the most records that the map may have.
pub record Book (R : Type 0) : Type 0 where
  pub held : ℕ → Option R
  pub bound : ℕ
  pub limit : ℕ

-- 1 if there is something, else 0
abbrev pub one : {X : Type 0} → Option X → ℕ
one o = cond (is_some o) 1 0

-- how many of the ids below n find a record
unfoldable pub present : {R : Type 0} → (ℕ → Option R) → ℕ → ℕ
present held zero = 0
present held (suc n) = one (held n) + present held n

-- how many records a book holds
abbrev pub count : {R : Type 0} → Book R → ℕ
count b = present b.held b.bound

-- whether an id cannot be a new one: it is 0, at or past the bound, or present
abbrev pub taken : {R : Type 0} → Book R → ℕ → Bool
taken b id = id == 0 || (nat_le b.bound id || is_some (b.held id))

-- What a put of an id answers. It is a call without instruction words, so it blames place 0.
abbrev pub answer : {R : Type 0} → Book R → ℕ → Result (Unit {0}) Error
answer b id = cond (taken b id) (Err (InvalidResultId 0)) (cond (count b == b.limit) (Err Full) (Ok tt))

-- a book with one pair more
abbrev pub added : {R : Type 0} → Book R → ℕ → R → Book R
added b id item = record { held = update nat_eq b.held id (Some item); bound = b.bound; limit = b.limit }

abbrev pub empty_book : {R : Type 0} → ℕ → ℕ → Book R
empty_book bound limit = record { held = λ _. None; bound = bound; limit = limit }

-- the ids that are not legal
abbrev pub Outside : ℕ → ℕ → Type 0
Outside bound id = (id ≡ 0) ⊎ (bound ≤ id)

-- What holds of every book in every state: only legal ids find a record, and the records are within the limit.
pub record Lawful {S R : Type 0} (book : S → Book R) : Type 0 where
  pub inside : (s : S) (id : ℕ) → Outside (book s).bound id → (book s).held id ≡ None
  pub fits : (s : S) → count (book s) ≤ (book s).limit

-- What a put does: `from` is the state before it, `to` the state after it, r the answer. A refused put leaves everything
-- as it was, the cells too.
pub record Puts {S R : Type 0} (book : S → Book R) (from to : S) (id : ℕ) (item : R) (r : Result (Unit {0}) Error) : Type 0 where
  pub answers : r ≡ answer (book from) id
  pub after : book to ≡ cond (is_ok r) (added (book from) id item) (book from)
  pub same : is_ok r ≡ false → to ≡ from
