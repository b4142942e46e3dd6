use Rattle.std.proofs.Common.{◌≡◌, false, length, get_or, None, refl, arith}
use Rattle.books.specs.Ring.{ends_at}
use Rattle.books.proofs.Walks.{walk_from, walk_on}
use Rattle.books.proofs.ring.seek.Goals as goal

pub loop-passed-init : goal.loop-passed-init
loop-passed-init g c = walk_from _ c.args.cells.now c.args.id _ _ (omega arith) c.home-i.ensures refl

pub loop-passed-preserved : goal.loop-passed-preserved
loop-passed-preserved g c =
    let cs = c.args.cells.now in
    let w = c.loop-passed in
    let o : ends_at (get_or cs w.i None) c.args.id ≡ false = cc in
    walk_on (length cs) cs c.args.id w.i _ w._passed w.invariant (omega arith) o c.following-i.ensures
