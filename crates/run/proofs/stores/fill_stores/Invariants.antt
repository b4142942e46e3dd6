use Rattle.run.specs.Runs.{value_at}
use Rattle.run.proofs.Storing.{Listing}
use Rattle.run.proofs.stores.fill_stores.Given as goal

abbrev pub invariant-loop-statement : goal.invariant-loop-statement
invariant-loop-statement l = Listing (value_at l.values) l.statements l.initial.requests l.requests l.statement-index l.k
