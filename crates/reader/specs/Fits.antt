-- What fits, once the checks of a call have passed: its records into the lists, and its id into a book.
use Rattle.std.specs.Prelude.{◌≡◌, ℕ, ◌+◌, ◌≤◌, Bool, true, not, length, None, Option}
use Rattle.books.specs.Books.{taken}
use Rattle.memory.specs.Cells.{Cells}
use Rattle.memory.specs.Lookups.{has_space}
use Rattle.memory.specs.Shelves.{Shelf}
use Rattle.images.specs.Records.{sample_count, load_count, store_count}
use Rattle.images.specs.declared.instructions.Plan.{Plan}
use Rattle.images.specs.declared.instructions.Plan.TheVariants as plans
use Rattle.images.specs.declared.plans.StorePlan.{StorePlan}
use Rattle.reader.specs.Checks.{max_types, max_expressions, max_statements}
use Rattle.reader.specs.Reads.{store_cells}
use Rattle.memory.specs.Rooms.{RoomIn}
use Rattle.reader.specs.declared.declare.TypePlan.{TypePlan}

-- an id is new for a value, and the numbers of the state lie inside the lists
pub record NewFits (c : Cells) (b : Shelf) (id : ℕ) : Type 0 where
  pub new : not (taken b.values id) ≡ true
  pub brought : c.brought ≤ c.expressions.count

-- a value under a new id fits, and `room` is whether the call's own list has a free cell
pub record ValueFits (c : Cells) (b : Shelf) (id : ℕ) (room : Bool) : Type 0 where
  pub own : room ≡ true
  pub new : not (taken b.values id) ≡ true
  pub space : has_space b.values ≡ true
  pub expressions : RoomIn (length c.expressions.cells) c.expressions.count 1 max_expressions
  pub brought : c.brought ≤ c.expressions.count

-- a type under a new id fits: one that is found again takes no cell
pub record TypeFits (c : Cells) (b : Shelf) (id : ℕ) (p : TypePlan) : Type 0 where
  pub new : not (taken b.types id) ≡ true
  pub space : has_space b.types ≡ true
  pub types : p.found ≡ None → RoomIn (length c.types.cells) c.types.count 1 max_types

-- Of an instruction: n expressions, the last of which a new id names; a couple; a store.

pub record ResultFits (c : Cells) (b : Shelf) (id n : ℕ) : Type 0 where
  pub new : not (taken b.values id) ≡ true
  pub space : has_space b.values ≡ true
  pub expressions : RoomIn (length c.expressions.cells) c.expressions.count n max_expressions

pub record CoupleFits (b : Shelf) (id : ℕ) : Type 0 where
  pub new : not (taken b.couples id) ≡ true
  pub space : has_space b.couples ≡ true

pub record StoreFits (emitter : Option ℕ) (c : Cells) (p : StorePlan) : Type 0 where
  pub expressions : RoomIn (length c.expressions.cells) c.expressions.count (store_count p) max_expressions
  pub statements : RoomIn (length c.statements.cells) c.statements.count (store_cells emitter (c.expressions.count + store_count p)) max_statements

abbrev pub PlanFits : Option ℕ → Cells → Shelf → ℕ → Plan → Type 0
PlanFits emitter c b id (plans.Couple l) = CoupleFits b id
PlanFits emitter c b id (plans.Sample p) = ResultFits c b id (sample_count p)
PlanFits emitter c b id (plans.Load p) = ResultFits c b id (load_count p)
PlanFits emitter c b id (plans.Store p) = StoreFits emitter c p
