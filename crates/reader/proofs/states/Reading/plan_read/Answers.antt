use Rattle.std.proofs.Common.{rules}
use Rattle.reader.proofs.Readied.{read_fits}
use Rattle.reader.proofs.states.Reading.plan_read.Goals as goal

pub returns-clause-fits : goal.returns-clause-fits
returns-clause-fits g c =
    read_fits _ _ _ c.args.words.now (record { id = c.in_ok-instruction.instruction.ids.result.id; plan = c.in_ok-plan.plan }) (search rules)
