use Rattle.std.proofs.Common.{refl}
use Rattle.words.specs.Masks.{has}
use Rattle.words.proofs.masks.has_bit.Goals as goal

pub returns : goal.returns
unfolding has
returns c = refl
