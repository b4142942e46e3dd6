use Rattle.records.proofs.Bits.{flags_kept}
use Rattle.records.proofs.flags.flags_stand.Goals as goal

pub returns : goal.returns
returns c = flags_kept
