use Rattle.std.proofs.Common.{◌∙◌}
use Rattle.books.proofs.Directly.{counts_records}
use Rattle.books.proofs.direct.DirectBook.new.Goals as goal

pub invariant_of-result : goal.invariant_of-result
invariant_of-result g c = record { counted = c.count_records-used.ensures ∙ counts_records c.args.cells.now }
