use Rattle.std.proofs.Common.{refl}
use Rattle.words.proofs.Lawful.{past_the_count, operands_in_order, faults_in_order}
use Rattle.words.proofs.laws.laws_stand.Goals as goal

pub returns : goal.returns
returns c = record { past = past_the_count; operands = operands_in_order; faults = faults_in_order; value = refl }
