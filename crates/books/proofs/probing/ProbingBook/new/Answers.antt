use Rattle.std.proofs.Common.{ap, ◌∙◌}
use Rattle.books.specs.Books.{empty_book}
use Rattle.books.specs.Probing.{probing_bound}
use Rattle.books.proofs.Probed.{book_empty, kept_empty}
use Rattle.books.proofs.probing.ProbingBook.new.Goals as goal

pub invariant_of-result : goal.invariant_of-result
invariant_of-result g c =
    let k = kept_empty c.clear.new.cells c.clear.ensures in
    record { reached = k.reached; inside = k.inside; counted = k.counted; busy = k.busy }

pub returns : goal.returns
returns g c = book_empty c.clear.new.cells c.clear.ensures ∙ ap (empty_book probing_bound) c.clear.auto.cells
