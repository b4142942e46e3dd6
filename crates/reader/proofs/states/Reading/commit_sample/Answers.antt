use Rattle.std.proofs.Common.{◌+◌, rules}
use Rattle.memory.specs.declared.lists.Counts.{Counts}
use Rattle.reader.proofs.states.Reading.commit_sample.Goals as goal

pub returns-clause-state : goal.returns-clause-state
returns-clause-state g c =
    let before = c.args.self.now.counts in
    let counts : Counts = record before { expressions = before.expressions + c.count.result } in
    let image = c.mark.ensures counts in
    let sampler = c.mark-2.ensures counts in
    search rules
