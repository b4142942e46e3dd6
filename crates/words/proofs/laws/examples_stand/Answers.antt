use Rattle.std.proofs.Common.{refl}
use Rattle.words.specs.Masks.{has, over}
use Rattle.words.proofs.laws.examples_stand.Goals as goal

pub returns : goal.returns
unfolding has over
returns c = record { examples = (refl, refl, refl); value = refl }
