use Rattle.books.proofs.Slots.{slot}
use Rattle.books.proofs.probing.ProbingBook.slot.Goals as goal

pub returns : goal.returns
returns g c = slot c.args.self.now.cells.now c.args.id c.seek.result c.args.self.now.reached c.seek.ensures
