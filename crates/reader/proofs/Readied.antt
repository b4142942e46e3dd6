-- What is known where all checks of an instruction have passed: there is room for every record, and a new id is new.
use Rattle.std.proofs.Common.{◌≡◌, ℕ, ◌+◌, true, not, ◌&&◌, List, Ok, Option, Result, subst}
use Rattle.records.specs.declared.refusals.Error.{Error}
use Rattle.records.specs.declared.refusals.Error.TheVariants.{InvalidResultId, Full, Mismatch}
use Rattle.books.specs.Books.{taken}
use Rattle.records.specs.Refusals.{and_then, check}
use Rattle.words.specs.Instructions.{instruction}
use Rattle.words.specs.Opcodes.{row_of}
use Rattle.words.specs.declared.instructions.Instruction.{Instruction}
use Rattle.words.specs.declared.opcodes.OperandRule.{OperandRule}
use Rattle.words.specs.declared.opcodes.OperandRule.TheVariants.{Never, Implicit, Explicit, Gather, Load, Store}
use Rattle.memory.specs.Cells.{Cells, room_for}
use Rattle.memory.specs.Lookups.{new_value, new_couple, has_space}
use Rattle.memory.specs.Shelves.{Shelf}
use Rattle.images.specs.Plans.{new_result, sample_read, load_read, store_read, couple_read, plan_by, plan_for}
use Rattle.images.specs.Records.{sample_count, load_count, store_count}
use Rattle.images.specs.Used.{Used, used_in}
use Rattle.images.specs.declared.instructions.Plan.{Plan}
use Rattle.images.specs.declared.instructions.Plan.TheVariants as plans
use Rattle.records.specs.declared.lookups.LookupSampledImage.{LookupSampledImage}
use Rattle.reader.specs.declared.read.ReadPlan.{ReadPlan}
use Rattle.reader.specs.Checks.{max_expressions, max_statements, state_inside}
use Rattle.reader.specs.Reads.{store_cells, plan_room, read_checks}
use Rattle.reader.specs.Fits.{ResultFits, PlanFits}
use Rattle.std.proofs.lemmas.Bool.{and_parts}
use Rattle.reader.proofs.Passed.{passed, same_ok, expect_ok, room_cells}

result_fits : (c : Cells) (b : Shelf) (id n : ℕ) → not (taken b.values id) ≡ true
    → (room_for n c.expressions max_expressions && has_space b.values) ≡ true → ResultFits c b id n
result_fits c b id n new room = record {
  new = new;
  space = (and_parts (room_for n c.expressions max_expressions) _ room).1;
  expressions = room_cells n c.expressions max_expressions (and_parts _ (has_space b.values) room).0;
}

-- the id of a result is new in its own book
abbrev pub NewFor : Shelf → ℕ → Plan → Type 0
NewFor b id (plans.Couple l) = not (taken b.couples id) ≡ true
NewFor b id (plans.Sample p) = not (taken b.values id) ≡ true
NewFor b id (plans.Load p) = not (taken b.values id) ≡ true
NewFor b id (plans.Store p) = Unit {0}

module _ (u : Used) (b : Shelf) (i : Instruction) where
  -- what follows the check that the id of a result is new
  value_new : {X Y : Type 0} (finds : Unit {0} → Result X Error) (fitted : X → Result Y Error) (y : Y)
      → and_then (and_then (new_result b i.ids.result) finds) fitted ≡ Ok y → not (taken b.values i.ids.result.id) ≡ true
  value_new finds fitted y is =
      let parts = passed (and_then (new_result b i.ids.result) finds) fitted y is in
      let one = passed (new_result b i.ids.result) finds parts.got parts.first in
      (and_parts _ _ (expect_ok (new_value b i.ids.result.id) (InvalidResultId i.ids.result.place) one.got one.first)).0

  couple_new : (l : LookupSampledImage) → couple_read u b i ≡ Ok l → not (taken b.couples i.ids.result.id) ≡ true
  couple_new l is =
      let one = passed (check (not (new_couple b i.ids.result.id)) (InvalidResultId i.ids.result.place)) _ l is in
      (and_parts _ _ (expect_ok (new_couple b i.ids.result.id) (InvalidResultId i.ids.result.place) one.got one.first)).0

  by_rule : (p : Plan) (r : OperandRule) → plan_by u b i r ≡ Ok p → NewFor b i.ids.result.id p
  by_rule p Never is = let x = passed (couple_read u b i) _ p is in subst (NewFor b i.ids.result.id) (same_ok _ p x.rest) (couple_new x.got x.first)
  by_rule p Implicit is = let x = passed (sample_read u b i) _ p is in subst (NewFor b i.ids.result.id) (same_ok _ p x.rest) (value_new _ _ x.got x.first)
  by_rule p Explicit is = let x = passed (sample_read u b i) _ p is in subst (NewFor b i.ids.result.id) (same_ok _ p x.rest) (value_new _ _ x.got x.first)
  by_rule p Gather is = let x = passed (sample_read u b i) _ p is in subst (NewFor b i.ids.result.id) (same_ok _ p x.rest) (value_new _ _ x.got x.first)
  by_rule p Load is = let x = passed (load_read u b i) _ p is in subst (NewFor b i.ids.result.id) (same_ok _ p x.rest) (value_new _ _ x.got x.first)
  by_rule p Store is = let x = passed (store_read u b i) _ p is in subst (NewFor b i.ids.result.id) (same_ok _ p x.rest) tt

plan_fits : (emitter : Option ℕ) (c : Cells) (b : Shelf) (id : ℕ) (p : Plan) → NewFor b id p → plan_room emitter c b p ≡ true → PlanFits emitter c b id p
plan_fits emitter c b id (plans.Couple l) new room = record { new = new; space = room }
plan_fits emitter c b id (plans.Sample p) new room = result_fits c b id (sample_count p) new room
plan_fits emitter c b id (plans.Load p) new room = result_fits c b id (load_count p) new room
plan_fits emitter c b id (plans.Store p) new room =
    let n = store_cells emitter (c.expressions.count + store_count p) in
    record {
      expressions = room_cells (store_count p) c.expressions max_expressions (and_parts _ (room_for n c.statements max_statements) room).0;
      statements = room_cells n c.statements max_statements (and_parts (room_for (store_count p) c.expressions max_expressions) _ room).1;
    }

-- what the checks of an instruction leave to know
pub read_fits : (emitter : Option ℕ) (c : Cells) (b : Shelf) (words : List ℕ) (r : ReadPlan)
    → read_checks emitter c b words ≡ Ok r → PlanFits emitter c b r.id r.plan
read_fits emitter c b words r is =
    let one = passed (instruction words) _ r is in
    let two = passed (check (not (state_inside emitter c)) Mismatch) _ r one.rest in
    let three = passed (plan_for (used_in c) b one.got) _ r two.rest in
    let four = passed (check (not (plan_room emitter c b three.got)) Full) _ r three.rest in
    let new = by_rule (used_in c) b one.got three.got (row_of one.got.opcode).rule three.first in
    let room = expect_ok (plan_room emitter c b three.got) Full four.got four.first in
    subst (λ (q : ReadPlan). PlanFits emitter c b q.id q.plan) (same_ok _ r four.rest) (plan_fits emitter c b one.got.ids.result.id three.got new room)
