use Rattle.std.proofs.Common.{refl}
use Rattle.books.specs.Ring.{home}
use Rattle.books.proofs.ring.home.Goals as goal

pub returns : goal.returns
unfolding home
returns c = refl
