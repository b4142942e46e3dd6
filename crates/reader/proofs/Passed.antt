-- What is known where checks have passed.
use Rattle.std.proofs.Common.{◌≡◌, ℕ, ◌+◌, ◌≤◌, min, Bool, true, false, not, length, is_ok, Ok, Err, Result, refl, ap, arith}
use Rattle.std.proofs.lemmas.Bool.{false≢true, leb-true}
use Rattle.records.specs.declared.refusals.Error.{Error}
use Rattle.records.specs.Refusals.{and_then, check}
use Rattle.memory.specs.Cells.{Filled, room_for}
use Rattle.memory.specs.Rooms.{RoomIn}

never_ok : {X : Type 0} (e : Error) (x : X) → Err e ≡ Ok x → ⊥
never_ok e x is = false≢true (ap is_ok is)

-- Two checks, one after another, passed: what the first gave, and that the second passed with it.
pub record Passed {X Y : Type 0} (r : Result X Error) (f : X → Result Y Error) (y : Y) : Type 0 where
  pub got : X
  pub first : r ≡ Ok got
  pub rest : f got ≡ Ok y

pub passed : {X Y : Type 0} (r : Result X Error) (f : X → Result Y Error) (y : Y) → and_then r f ≡ Ok y → Passed r f y
passed (Ok x) f y is = record { got = x; first = refl; rest = is }
passed (Err e) f y is = absurd (never_ok e y is)

pub same_ok : {X : Type 0} (x y : X) → ◌≡◌ {A = Result X Error} (Ok x) (Ok y) → x ≡ y
same_ok x y is = cc

-- a check refuses where its negated test is true
pub expect_ok : (b : Bool) (e : Error) (u : Unit {0}) → check (not b) e ≡ Ok u → b ≡ true
expect_ok true e u is = refl
expect_ok false e u is = absurd (never_ok e u is)

-- where n more records fit, the next n cells are there, and below the limit
pub room_cells : {X : Type 0} (n : ℕ) (f : Filled X) (limit : ℕ) → room_for n f limit ≡ true → RoomIn (length f.cells) f.count n limit
room_cells n f limit is =
    let h : f.count + n ≤ min (length f.cells) limit = leb-true _ _ is in
    record { lent = omega arith; below = omega arith }
