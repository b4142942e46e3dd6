use Rattle.std.proofs.Common.{◌≡◌, false, get_or, is_some, None, sym, refl, arith, rules}
use Rattle.books.specs.declared.ring.Entry.{Entry}
use Rattle.books.specs.Laws.{filled_le}
use Rattle.books.proofs.Probed.{fresh, book_put, kept_put, answer_ok}
use Rattle.books.proofs.probing.ProbingBookLookupHelper.put.Goals as goal

pub bounds-self-i : goal.bounds-self-i
bounds-self-i g c =
    let b = c.args.self.now in
    c.slot-i.ensures.room (omega (arith, b.busy, filled_le b.cells.now))

pub overflow_add-self : goal.overflow_add-self
overflow_add-self g c =
    let b = c.args.self.now in
    omega (arith, b.busy, filled_le b.cells.now)

pub invariant_of-self : goal.invariant_of-self
invariant_of-self g c =
    let b = c.args.self.now in
    let cs = b.cells.now in
    let i = c.slot-i.result in
    let e : Entry g.row.R.Denot = record { id = c.args.id; item = c.args.item } in
    let free : is_some (get_or cs i None) ≡ false = cc in
    let f = fresh cs i e c.slot-i.ensures free (omega (arith, b.busy, filled_le cs)) (omega arith) (omega arith) in
    let k = kept_put cs _ i e b.used f refl (record { reached = b.reached; inside = b.inside; counted = b.counted; busy = b.busy }) in
    record { reached = k.reached; inside = k.inside; counted = k.counted; busy = k.busy }

pub returns : goal.returns
returns g c =
    let b = c.args.self.now in
    let cs = b.cells.now in
    let i = c.slot-i.result in
    let e : Entry g.row.R.Denot = record { id = c.args.id; item = c.args.item } in
    let free : is_some (get_or cs i None) ≡ false = cc in
    let f = fresh cs i e c.slot-i.ensures free (omega (arith, b.busy, filled_le cs)) (omega arith) (omega arith) in
    record {
      answers = sym (answer_ok cs i e f (omega (arith, b.counted, b.busy, filled_le cs)));
      after = book_put cs _ i e f refl;
      same = search rules;
    }
