use Rattle.std.proofs.Common.{◌≡◌, ◌+◌, false, is_some, sym, ap, ◌∙◌, arith, rules}
use Rattle.books.specs.Direct.{direct_held}
use Rattle.books.specs.Laws.{direct_fits}
use Rattle.books.proofs.Directly.{book_put, count_put, answer_ok}
use Rattle.books.proofs.direct.DirectBookLookupHelper.put.Goals as goal

pub overflow_add-self : goal.overflow_add-self
overflow_add-self g c = omega (arith, direct_fits c.args.self.now.cells.now, c.args.self.now.counted)

pub invariant_of-self : goal.invariant_of-self
invariant_of-self g c =
    let cs = c.args.self.now.cells.now in
    let free : is_some (direct_held cs c.args.id) ≡ false = cc in
    record { counted = ap (λ n. n + 1) c.args.self.now.counted ∙ sym (count_put cs c.args.id c.args.item (omega arith) (omega arith) free) }

pub returns : goal.returns
returns g c =
    let cs = c.args.self.now.cells.now in
    let free : is_some (direct_held cs c.args.id) ≡ false = cc in
    record {
      answers = sym (answer_ok cs c.args.id c.args.item (omega arith) (omega arith) free);
      after = book_put cs c.args.id c.args.item (omega arith) (omega arith);
      same = search rules;
    }
