use Rattle.std.proofs.Common.{length}
use Rattle.books.proofs.Walks.{Walk}
use Rattle.books.proofs.ring.seek.Given as goal

abbrev pub invariant-loop-passed : goal.invariant-loop-passed
invariant-loop-passed g l = Walk (length l.cells) l.cells l.id l.i l._passed
